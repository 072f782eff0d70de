use native.Mathlib.Nat.{sub-zero, sub-add-eq}
use native.Mathlib.Omega.{arith}
use mathlib.Core.Path.{sym, ◌∙◌}
use Prim.Native.Nat.{◌-◌}
use Rattle.lint_conditions.proofs.Laws as laws
use Rattle.lint_conditions.proofs.mismatched.Goals as goal

pub loop-init : goal.loop-init
loop-init c =
    rw sub-zero (laws.mismatched_is _ _ c.conditions_at-conditions.ensures c.triggers_at-triggers.ensures
    c.place_at-count.ensures c.past-p.ensures)

pub returns-then-not-mismatch : goal.returns-then-not-mismatch
returns-then-not-mismatch c =
    sym (c.loop.invariant ∙ laws.all_fails _ _ _ _ (omega arith)
    (sym c.mismatch.ensures ∙ c.if-not-mismatch.true))

pub loop-preserved : goal.loop-preserved
loop-preserved c =
    rw sub-add-eq (c.loop.invariant ∙ laws.all_later _ _ _ _ (omega arith)
    (sym c.mismatch.ensures ∙ c.if-not-mismatch.false) c.past-p-in-loop.ensures)

pub returns : goal.returns
returns c = sym (c.loop.invariant ∙ laws.all_done _ _ _ _ (omega arith))
