use mathlib.Core.Path.{sym, ◌∙◌}
use Prim.Native.Nat.{◌-◌}
use Rattle.lint_findings.proofs.Laws as laws
use Rattle.lint_findings.proofs.stale_here.Goals as goal

pub returns-then-has : goal.returns-then-has
returns-then-has c = c.stale.ensures ∙ laws.stale_yes _ _ _ _ c.has.ensures c.if-has.true

pub returns : goal.returns
returns c = sym (laws.stale_no _ _ _ _ c.has.ensures c.if-has.false)
