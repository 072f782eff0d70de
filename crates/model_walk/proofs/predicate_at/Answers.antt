use mathlib.Core.Path.{◌≡◌, sym, ◌∙◌}
use native.Mathlib.Omega.{arith}
use Rattle.model_walk.proofs.Laws as laws
use Rattle.model_walk.proofs.predicate_at.Goals as goal

pub returns-in_err-k : goal.returns-in_err-k
returns-in_err-k c =
    c.from_residual.ensures ∙ sym (laws.predicate_is _ _ _ _ ∙ laws.by_broken _ _ _ _ _ c.u8_at.ensures c.in_err-k.was)

pub returns-in-0 : goal.returns-in-0
returns-in-0 c =
    c.two_places_at.ensures
    ∙ sym (laws.predicate_is _ _ _ _ ∙ laws.by_is _ _ _ _ _ c.u8_at.ensures c.in_ok-k.was ∙ laws.kind_0 _ _ _ _ c.in-0.is)

pub returns-in-1 : goal.returns-in-1
returns-in-1 c =
    c.note_at.ensures
    ∙ sym (laws.predicate_is _ _ _ _ ∙ laws.by_is _ _ _ _ _ c.u8_at.ensures c.in_ok-k.was ∙ laws.kind_1 _ _ _ _ c.in-1.is)

pub overflow_sub-predicate_size : goal.overflow_sub-predicate_size
overflow_sub-predicate_size c = laws.size_some _ _ c.predicate_size.ensures

pub returns-in-2 : goal.returns-in-2
returns-in-2 c =
    c.bytes_at.ensures ∙ laws.window_bytes _ _ _ _ _ c.predicate_size.ensures c.in-2.is
    ∙ sym (laws.predicate_is _ _ _ _ ∙ laws.by_is _ _ _ _ _ c.u8_at.ensures c.in_ok-k.was ∙ laws.kind_2 _ _ _ _ c.in-2.is)

pub returns-in_default : goal.returns-in_default
returns-in_default c =
    sym (laws.predicate_is _ _ _ _ ∙ laws.by_is _ _ _ _ _ c.u8_at.ensures c.in_ok-k.was
    ∙ laws.kind_else _ _ _ _ (λ (e : c.in_ok-k.k ≡ 0). omega arith) (λ (e : c.in_ok-k.k ≡ 1). omega arith)
    (λ (e : c.in_ok-k.k ≡ 2). omega arith))
