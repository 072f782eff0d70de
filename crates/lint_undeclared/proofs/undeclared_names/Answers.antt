use mathlib.Core.Path.{sym, ◌∙◌}
use Prim.Native.Nat.{◌-◌}
use Rattle.lint_undeclared.proofs.Laws as laws
use Rattle.lint_undeclared.proofs.undeclared_names.Goals as goal

pub loop-i-init : goal.loop-i-init
loop-i-init c = laws.all_is _ _ _ _

pub loop-i-preserved : goal.loop-i-preserved
loop-i-preserved c =
    c.loop-i.invariant ∙ laws.rules_more _ _ _ _ _ _ _ c.loop-i-test.true
    c.rule_names-u.ensures

pub returns : goal.returns
returns c = sym (c.loop-i.invariant ∙ laws.rules_end _ _ _ _ _ _ _ c.loop-i-test.false)
