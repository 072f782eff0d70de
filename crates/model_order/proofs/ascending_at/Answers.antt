use native.Mathlib.Nat.{sub-zero, sub-add-eq}
use native.Mathlib.Omega.{arith}
use Prim.Native.Nat.{◌-◌}
use mathlib.Core.Path.{sym, ◌∙◌}
use Rattle.model_order.proofs.Laws as laws
use Rattle.model_order.proofs.ascending_at.Goals as goal

pub returns-in_err-count : goal.returns-in_err-count
returns-in_err-count c = c.from_residual.ensures ∙ sym (laws.ascending_none _ _ _ _ _ c.u16_at.ensures c.in_err-count.was)

pub returns-then-count-eq0 : goal.returns-then-count-eq0
returns-then-count-eq0 c =
    sym (laws.ascending_is _ _ _ _ _ c.u16_at.ensures c.in_ok-count.was
    ∙ laws.chained_none _ _ _ _ _ c.if-count-eq0.true)

pub returns-in_err-next : goal.returns-in_err-next
returns-in_err-next c =
    c.from_residual-in_err-next.ensures ∙ sym (laws.ascending_is _ _ _ _ _ c.u16_at.ensures c.in_ok-count.was
    ∙ laws.chained_broken _ _ _ _ c.part_at.ensures _ c.if-count-eq0.false c.in_err-next.was)

pub loop-init : goal.loop-init
loop-init c =
    laws.ascending_is _ _ _ _ _ c.u16_at.ensures c.in_ok-count.was
    ∙ laws.chained_to _ _ _ _ c.part_at.ensures _ c.if-count-eq0.false c.in_ok-next.was

pub returns-in_err-q : goal.returns-in_err-q
returns-in_err-q c =
    c.from_residual-in_err-q.ensures ∙ sym (c.loop.invariant ∙ laws.chain_broken _ _ _ _ c.part_at-in-loop.ensures _ _ (omega arith)
    c.in_err-q.was)

pub returns-then-not-precedes : goal.returns-then-not-precedes
returns-then-not-precedes c =
    sym (c.loop.invariant ∙ laws.chain_off _ _ _ _ c.part_at-in-loop.ensures _ c.in_ok-q.was c.precedes.ensures _
    (omega arith) c.if-not-precedes.true)

pub loop-preserved : goal.loop-preserved
loop-preserved c =
    rw sub-add-eq (c.loop.invariant ∙ laws.chain_on _ _ _ _ c.part_at-in-loop.ensures _ c.in_ok-q.was c.precedes.ensures _
    (omega arith) c.if-not-precedes.false)

pub returns : goal.returns
returns c = sym (c.loop.invariant ∙ laws.chain_end _ _ _ _ _ _ (omega arith))
