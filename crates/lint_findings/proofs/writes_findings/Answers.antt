use borrow.Author.Rules.{rules}
use mathlib.Core.Path.{refl, sym, ◌∙◌}
use Prim.Native.Nat.{◌-◌}
use Rattle.lint_findings.proofs.Laws as laws
use Rattle.lint_findings.proofs.writes_findings.Goals as goal

pub loop-k-init : goal.loop-k-init
loop-k-init c = (laws.writes_is _ _ _ _ _ _, (refl, refl))

pub loop-k-preserved : goal.loop-k-preserved
loop-k-preserved c = (c.loop-k.invariant.0 ∙ laws.numbers_more _ _ _ _ c.loop-k-test.true c.write_findings-out.ensures, search rules)

pub returns : goal.returns
returns c = sym (c.loop-k.invariant.0 ∙ laws.numbers_end _ _ _ _ c.loop-k-test.false)
