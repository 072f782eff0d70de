use native.Mathlib.Nat.{sub-zero, sub-add-eq}
use native.Mathlib.Omega.{arith}
use mathlib.Core.Path.{sym, ◌∙◌}
use Prim.Native.Nat.{◌-◌}
use Rattle.lint_conditions.proofs.Laws as laws
use Rattle.lint_conditions.proofs.leads.Goals as goal

pub loop-init : goal.loop-init
loop-init c =
    rw sub-zero (laws.leads_is _ _ _ _ _ c.triggers_at-triggers.ensures c.place_at-count.ensures
    c.past-p.ensures)

pub returns-then-sets_off : goal.returns-then-sets_off
returns-then-sets_off c =
    sym (c.loop.invariant ∙ laws.any_here _ _ _ _ (omega arith)
    (sym c.sets_off.ensures ∙ c.if-sets_off.true))

pub loop-preserved : goal.loop-preserved
loop-preserved c =
    rw sub-add-eq (c.loop.invariant ∙ laws.any_later _ _ _ _ (omega arith)
    (sym c.sets_off.ensures ∙ c.if-sets_off.false) c.past-p-in-loop.ensures)

pub returns : goal.returns
returns c = sym (c.loop.invariant ∙ laws.any_none _ _ _ _ (omega arith))
