use native.Mathlib.Nat.{sub-zero, sub-add-eq}
use native.Mathlib.Omega.{arith}
use mathlib.Core.Path.{sym, ◌∙◌}
use Prim.Native.Nat.{◌-◌}
use Rattle.lint_conditions.proofs.Laws as laws
use Rattle.lint_conditions.proofs.clashes.Goals as goal

pub loop-init : goal.loop-init
loop-init c =
    rw sub-zero (laws.clashes_is _ _ _ _ _)

pub returns-then-clash : goal.returns-then-clash
returns-then-clash c =
    sym (c.loop.invariant ∙ laws.any_here _ _ _ _ (omega arith)
    (sym c.clash.ensures ∙ c.if-clash.true))

pub loop-preserved : goal.loop-preserved
loop-preserved c =
    rw sub-add-eq (c.loop.invariant ∙ laws.any_later _ _ _ _ (omega arith)
    (sym c.clash.ensures ∙ c.if-clash.false) c.predicate_end-p.ensures)

pub returns : goal.returns
returns c = sym (c.loop.invariant ∙ laws.any_none _ _ _ _ (omega arith))
