-- The lines of `minimize`, with their newlines: what a reader of the program's output sees.
use Rattle.std.specs.Prelude.{ℕ, Bool, List, ◌∷◌, ◌++◌, eqb, if◌then◌else◌}
use Rattle.texts.specs.Places.{text_at, start_from}
use Rattle.texts.specs.Texts.{Text, text, decimal}
use Rattle.model_spec.specs.Model.{Input, reload, Event}
use Rattle.show.specs.Lines.{newline, quoted}

-- ---- inputs and events

unfoldable pub input_text : Input → Text
input_text (Input.set x v) = text "set " ++ (quoted x ++ (32 ∷ quoted v))
input_text Input.restart = text "restart"
input_text reload = text "reload"

unfoldable pub event_line : Event → Text
event_line v = text "event " ++ (decimal v.at ++ (32 ∷ (input_text v.input ++ newline)))

-- what the words of an input and of an event say, whatever they are: kind 1 restarts, 2 reloads, any other sets

unfoldable pub placed_text : (f : List ℕ) → (place : ℕ) → Text
placed_text f k = text_at f (start_from f 6 k)

unfoldable pub input_of : (f : List ℕ) → (kind entity value : ℕ) → Input
input_of f k e v = if eqb k 1 then Input.restart else if eqb k 2 then reload else Input.set (placed_text f e) (placed_text f v)

abbrev pub event_of : (f : List ℕ) → (second kind entity value : ℕ) → Event
event_of f s k e v = record { at = s; input = input_of f k e v }

-- ---- a word and `yes` or `no`; the invariant

unfoldable pub answer_line : (word : Text) → Bool → Text
answer_line w b = w ++ (if b then text " yes" ++ newline else text " no" ++ newline)

unfoldable pub invariant_line : (identifier : Text) → Text
invariant_line t = text "invariant " ++ (quoted t ++ newline)
