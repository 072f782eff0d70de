use native.Mathlib.Nat.{sub-zero, sub-add-eq}
use native.Mathlib.Omega.{arith}
use Prim.Native.Nat.{◌-◌}
use mathlib.Core.Path.{sym, ◌∙◌}
use Rattle.model_walk.proofs.Laws as laws
use Rattle.model_walk.proofs.pieces_at.Goals as goal

pub returns-in_err-count : goal.returns-in_err-count
returns-in_err-count c = c.from_residual.ensures ∙ sym (laws.by_broken _ _ _ _ _ c.u16_at.ensures c.in_err-count.was)

pub loop-init : goal.loop-init
loop-init c =
    rw sub-zero (laws.by_is _ _ _ _ _ c.u16_at.ensures c.in_ok-count.was)

pub returns-in_err-q : goal.returns-in_err-q
returns-in_err-q c =
    c.from_residual-in_err-q.ensures ∙ sym (c.loop.invariant ∙ laws.times_more _ _ _ _ _ (omega arith)
    ∙ laws.broke _ _ _ _ _ c.piece_at.ensures c.in_err-q.was)

pub loop-preserved : goal.loop-preserved
loop-preserved c =
    rw sub-add-eq (c.loop.invariant ∙ laws.times_more _ _ _ _ _ (omega arith)
    ∙ laws.to _ _ _ _ _ c.piece_at.ensures c.in_ok-q.was)

pub returns : goal.returns
returns c = sym (c.loop.invariant ∙ laws.times_none _ _ _ _ _ (omega arith))
