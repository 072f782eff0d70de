use native.Mathlib.Nat.{sub-zero, sub-add-eq}
use native.Mathlib.Omega.{arith}
use mathlib.Core.Path.{sym, ◌∙◌}
use Prim.Native.Nat.{◌-◌}
use Rattle.lint_conditions.proofs.Laws as laws
use Rattle.lint_conditions.proofs.contradictory.Goals as goal

pub loop-i-init : goal.loop-i-init
loop-i-init c =
    rw sub-zero (laws.contra_is _ _ c.place_at-count.ensures c.past-p.ensures)

pub returns-then-meets : goal.returns-then-meets
returns-then-meets c =
    sym (c.loop-i.invariant ∙ laws.contra_here _ _ _ (omega arith)
    (sym c.meets.ensures ∙ c.if-meets.true))

pub loop-i-preserved : goal.loop-i-preserved
loop-i-preserved c =
    rw sub-add-eq (c.loop-i.invariant ∙ laws.contra_later _ _ _ (omega arith)
    (sym c.meets.ensures ∙ c.if-meets.false) c.predicate_end-p.ensures)

pub returns : goal.returns
returns c = sym (c.loop-i.invariant ∙ laws.contra_none _ _ _ (omega arith))
