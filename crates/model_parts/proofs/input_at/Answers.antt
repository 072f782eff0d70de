use mathlib.Core.Path.{sym, ◌∙◌}
use borrow.Author.Tests.{lt-ltb, le-ltb, eq-eqb, ne_eqb}
use native.Mathlib.Omega.{arith}
use Rattle.model_parts.proofs.Laws as laws
use Rattle.model_walk.proofs.Laws as walks
use Rattle.model_parts.proofs.input_at.Goals as goal

pub returns-in_err-k : goal.returns-in_err-k
returns-in_err-k c =
    c.from_residual.ensures ∙ sym (laws.input_is _ _ _ _ ∙ walks.by_broken _ _ _ _ _ c.u8_at.ensures
    c.in_err-k.was)

pub returns-in-0 : goal.returns-in-0
returns-in-0 c =
    c.two_places_at.ensures ∙ sym (laws.input_is _ _ _ _ ∙ walks.by_is _ _ _ _ _ c.u8_at.ensures c.in_ok-k.was
    ∙ walks.yes_walk _ _ _ _ _ (eq-eqb _ _ c.in-0.is))

pub returns-in-1 : goal.returns-in-1
returns-in-1 c =
    sym (laws.input_is _ _ _ _ ∙ walks.by_is _ _ _ _ _ c.u8_at.ensures c.in_ok-k.was
    ∙ walks.no_walk _ _ _ _ _ (ne_eqb c.in_ok-k.k 0 (λ e. omega arith)) ∙ walks.stay_if _ _ _ (lt-ltb c.in_ok-k.k 3 (omega arith)))

pub returns-in_default : goal.returns-in_default
returns-in_default c =
    sym (laws.input_is _ _ _ _ ∙ walks.by_is _ _ _ _ _ c.u8_at.ensures c.in_ok-k.was
    ∙ walks.no_walk _ _ _ _ _ (ne_eqb c.in_ok-k.k 0 (λ e. omega arith)) ∙ walks.stop_if _ _ _ (le-ltb c.in_ok-k.k 3 (omega arith)))
