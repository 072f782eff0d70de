use mathlib.Core.Path.{sym, ◌∙◌}
use native.Mathlib.Omega.{arith}
use Rattle.model_parts.proofs.Laws as laws
use Rattle.model_walk.proofs.Laws as walks
use Rattle.model_parts.proofs.condition_at.Goals as goal

pub returns-in-0 : goal.returns-in-0
returns-in-0 c = c.pieces_at.ensures ∙ sym (laws.condition_0 _ _ _ _ c.in-0.is)

pub returns-in_err-p-in-1 : goal.returns-in_err-p-in-1
returns-in_err-p-in-1 c =
    c.from_residual.ensures ∙ sym (laws.condition_1 _ _ _ _ c.in-1.is ∙ walks.broke _ _ _ _ _ c.two_places_at.ensures
    c.in_err-p-in-1.was)

pub returns-in_ok-p-in-1 : goal.returns-in_ok-p-in-1
returns-in_ok-p-in-1 c =
    c.pieces_at-in-1.ensures ∙ sym (laws.condition_1 _ _ _ _ c.in-1.is
    ∙ walks.to _ _ _ _ _ c.two_places_at.ensures c.in_ok-p-in-1.was)

pub returns-in_err-q-in-2 : goal.returns-in_err-q-in-2
returns-in_err-q-in-2 c =
    c.from_residual-in_err-q-in-2.ensures ∙ sym (laws.condition_2 _ _ _ _ c.in-2.is ∙ walks.broke _ _ _ _ _ c.two_places_at-in-2.ensures
    c.in_err-q-in-2.was)

pub returns-in_ok-q-in-2 : goal.returns-in_ok-q-in-2
returns-in_ok-q-in-2 c =
    c.place_at.ensures ∙ sym (laws.condition_2 _ _ _ _ c.in-2.is
    ∙ walks.to _ _ _ _ _ c.two_places_at-in-2.ensures c.in_ok-q-in-2.was)

pub returns-in_err-t-in-3 : goal.returns-in_err-t-in-3
returns-in_err-t-in-3 c =
    c.from_residual-in_err-t-in-3.ensures ∙ sym (laws.condition_3 _ _ _ _ c.in-3.is ∙ walks.broke _ _ _ _ _ c.predicate_at.ensures
    c.in_err-t-in-3.was)

pub returns-in_err-u-in-3 : goal.returns-in_err-u-in-3
returns-in_err-u-in-3 c =
    c.from_residual-in_err-u-in-3.ensures ∙ sym (laws.condition_3 _ _ _ _ c.in-3.is ∙ walks.to _ _ _ _ _ c.predicate_at.ensures c.in_ok-t-in-3.was
    ∙ walks.broke _ _ _ _ _ c.predicate_at-in-3.ensures c.in_err-u-in-3.was)

pub returns-in_ok-u-in-3 : goal.returns-in_ok-u-in-3
returns-in_ok-u-in-3 c =
    c.bytes_at.ensures ∙ sym (laws.condition_3 _ _ _ _ c.in-3.is
    ∙ walks.to _ _ _ _ _ c.predicate_at.ensures c.in_ok-t-in-3.was
    ∙ walks.to _ _ _ _ _ c.predicate_at-in-3.ensures c.in_ok-u-in-3.was)

pub returns-in_default : goal.returns-in_default
returns-in_default c =
    sym (laws.condition_else _ _ _ _ (λ e. omega arith) (λ e. omega arith) (λ e. omega arith) (λ e. omega arith))
