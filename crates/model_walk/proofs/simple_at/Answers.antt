use mathlib.Core.Path.{sym, ◌∙◌}
use native.Mathlib.Omega.{arith}
use Rattle.model_walk.proofs.Laws as laws
use Rattle.model_walk.proofs.simple_at.Goals as goal

pub returns-in-0 : goal.returns-in-0
returns-in-0 c = c.two_places_at.ensures ∙ sym (laws.simple_0 _ _ _ _ c.in-0.is)

pub returns-in-1 : goal.returns-in-1
returns-in-1 c = c.place_at.ensures ∙ sym (laws.simple_1 _ _ _ _ c.in-1.is)

pub returns-in-2 : goal.returns-in-2
returns-in-2 c = c.bytes_at.ensures ∙ sym (laws.simple_2 _ _ _ _ c.in-2.is)

pub returns-in-3 : goal.returns-in-3
returns-in-3 c = c.predicate_at.ensures ∙ sym (laws.simple_3 _ _ _ _ c.in-3.is)

pub returns-in-5 : goal.returns-in-5
returns-in-5 c = c.wait_at.ensures ∙ sym (laws.simple_5 _ _ _ _ c.in-5.is)

pub returns-in-6 : goal.returns-in-6
returns-in-6 c = c.note_at.ensures ∙ sym (laws.simple_6 _ _ _ _ c.in-6.is)

pub returns-in_default : goal.returns-in_default
returns-in_default c =
    sym (laws.simple_else _ _ _ _ (λ e. omega arith) (λ e. omega arith) (λ e. omega arith) (λ e. omega arith) (λ e. omega arith)
    (λ e. omega arith))
