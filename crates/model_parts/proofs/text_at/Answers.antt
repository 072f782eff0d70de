use native.Mathlib.Nat.{sub-zero, sub-add-eq}
use native.Mathlib.Omega.{arith}
use Prim.Native.Nat.{◌-◌}
use mathlib.Core.Path.{sym, ◌∙◌}
use Rattle.model_parts.proofs.Laws as laws
use Rattle.model_walk.proofs.Laws as walks
use Rattle.model_parts.proofs.text_at.Goals as goal

pub returns-in_err-count : goal.returns-in_err-count
returns-in_err-count c = c.from_residual.ensures ∙ sym (laws.text_is _ _ _ ∙ walks.by_broken _ _ _ _ _ c.u8_at.ensures c.in_err-count.was)

pub loop-init : goal.loop-init
loop-init c =
    rw sub-zero (laws.text_is _ _ _ ∙ walks.by_is _ _ _ _ _ c.u8_at.ensures c.in_ok-count.was)

pub returns-in_err-b : goal.returns-in_err-b
returns-in_err-b c =
    c.from_residual-in_err-b.ensures ∙ sym (c.loop.invariant ∙ walks.times_more _ _ _ _ _ (omega arith) ∙ walks.by_then _ _ _ _ _ _
    ∙ walks.by_broken _ _ _ _ _ c.u8_at-in-loop.ensures c.in_err-b.was)

pub returns-then-b-lt32 : goal.returns-then-b-lt32
returns-then-b-lt32 c =
    sym (c.loop.invariant ∙ walks.times_more _ _ _ _ _ (omega arith) ∙ walks.by_then _ _ _ _ _ _
    ∙ walks.by_is _ _ _ _ _ c.u8_at-in-loop.ensures c.in_ok-b.was
    ∙ walks.stop_then _ _ _ _ (laws.printable_out _ c.then-b-lt32.either))

pub loop-preserved : goal.loop-preserved
loop-preserved c =
    rw sub-add-eq (c.loop.invariant ∙ walks.times_more _ _ _ _ _ (omega arith) ∙ walks.by_then _ _ _ _ _ _
    ∙ walks.by_is _ _ _ _ _ c.u8_at-in-loop.ensures c.in_ok-b.was
    ∙ walks.stay_then _ _ _ _ (laws.printable_in _ c.if-b-lt32.false c.if-b-gt126.false))

pub returns : goal.returns
returns c = sym (c.loop.invariant ∙ walks.times_none _ _ _ _ _ (omega arith))
