use mathlib.Core.Path.{refl, ◌∙◌}
use Prim.Native.Nat.{◌-◌}
use Rattle.lint_access.proofs.Laws as laws
use Rattle.lint_access.proofs.reads.Goals as goal

pub loop-k-init : goal.loop-k-init
loop-k-init c = laws.over_start _ _ _ refl

pub loop-k-preserved : goal.loop-k-preserved
loop-k-preserved c =
    c.loop-k.invariant ∙ laws.over_more _ _ _ _ _ c.loop-k-test.true
    c.add_reads-set.ensures

pub returns : goal.returns
returns c =
    c.add_predicates.ensures ∙ laws.reads_is _ _ _ _ c.triggers_at.ensures c.add_triggers-set.ensures
    (c.loop-k.invariant ∙ laws.over_end _ _ _ _ _ c.loop-k-test.false) c.conditions_at.ensures
