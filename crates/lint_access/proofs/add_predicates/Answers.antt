use native.Mathlib.Nat.{sub-zero, sub-add-eq}
use native.Mathlib.Omega.{arith}
use mathlib.Core.Path.{refl, sym, ◌∙◌}
use Prim.Native.Nat.{◌-◌}
use Rattle.lint_access.proofs.Laws as laws
use Rattle.lint_access.proofs.add_predicates.Goals as goal

pub loop-init : goal.loop-init
loop-init c = rw sub-zero

pub loop-preserved : goal.loop-preserved
loop-preserved c =
    rw sub-add-eq (c.loop.invariant ∙ laws.along_more _ _ _ _ _ (omega arith) c.add_predicate-out.ensures
    c.predicate_end-p.ensures)

pub returns : goal.returns
returns c =
    sym (laws.predicates_is _ _ _ _ ∙ laws.along_start _ _ _ c.place_at-count.ensures c.past-p.ensures
    ∙ c.loop.invariant ∙ laws.along_end _ _ _ _ _ (omega arith))
