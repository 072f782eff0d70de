use native.Mathlib.Nat.{sub-zero, sub-add-eq}
use native.Mathlib.Omega.{arith}
use Prim.Native.Nat.{◌-◌}
use mathlib.Core.Path.{sym, ap, ◌∙◌}
use Rattle.lint_walk.proofs.Laws as laws
use Rattle.lint_walk.specs.Raw.{repeat}
use Rattle.lint_walk.proofs.predicates_end.Goals as goal

pub loop-init : goal.loop-init
loop-init c =
    rw sub-zero (laws.predicates_is _ _ ∙ laws.same_start _ c.place_at-count.ensures c.past-p.ensures)

pub loop-preserved : goal.loop-preserved
loop-preserved c =
    rw sub-add-eq (c.loop.invariant ∙ laws.repeat_more _ _ _ (omega arith)
    ∙ ap (repeat _ _) (sym c.predicate_end-p.ensures))

pub returns : goal.returns
returns c = sym (c.loop.invariant ∙ laws.repeat_none _ _ _ (omega arith))
