use mathlib.Core.Path.{sym, ◌∙◌}
use Rattle.model_walk.proofs.Laws as laws
use Rattle.model_walk.proofs.piece_at.Goals as goal

pub returns-in-Place : goal.returns-in-Place
returns-in-Place c = c.place_at.ensures ∙ sym (laws.piece_place _ _ _ _ c.in-Place.is)

pub returns-in-Note : goal.returns-in-Note
returns-in-Note c = c.note_at.ensures ∙ sym (laws.piece_note _ _ _ _ c.in-Note.is)

pub returns-in-Predicate : goal.returns-in-Predicate
returns-in-Predicate c = c.predicate_at.ensures ∙ sym (laws.piece_predicate _ _ _ _ c.in-Predicate.is)

pub returns-in-Trigger : goal.returns-in-Trigger
returns-in-Trigger c = c.trigger_at.ensures ∙ sym (laws.piece_trigger _ _ _ _ c.in-Trigger.is)
