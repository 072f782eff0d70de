-- Words that hold an event say that event, so its line is the event's.
use Prim.Native.Nat.{ℕ, ◌+◌, ◌*◌, ◌<◌}
use mathlib.Core.Path.{◌≡◌, sym, ap, ◌∙◌}
use mathlib.Core.List.{List, []}
use lib.ListN.{length, get_or}
use Rattle.texts.specs.Places.{text_at, start_from}
use Rattle.texts.specs.Texts.{Text}
use Rattle.model_spec.specs.Model.{Event, Input, reload}
use Rattle.model_spec.specs.Events.{InputWords, EventWords}
use Rattle.print_minimize.specs.Lines.{placed_text, input_of, event_of}

-- the texts stand in the file
module _ (f : List ℕ) (ts : List Text) (stand : (k : ℕ) → k < length ts → text_at f (start_from f 6 k) ≡ get_or ts k []) where
  text_so : (k : ℕ) → k < length ts → (t : Text) → t ≡ get_or ts k [] → placed_text f k ≡ t
  unfolding placed_text
  text_so k h t e = stand k h ∙ sym e

  input_so : (k e v : ℕ) (i : Input) → InputWords ts k e v i → input_of f k e v ≡ i
  unfolding input_of
  input_so k e v (Input.set a b) w = rw (w.0, text_so e w.1.0.0 a w.1.0.1, text_so v w.1.1.0 b w.1.1.1)
  input_so k e v Input.restart w = rw w
  input_so k e v reload w = rw w

  pub event_so : (l : List ℕ) (k : ℕ) (v : Event) → EventWords ts l k v →
      event_of f (get_or l (k * 4) 0) (get_or l (k * 4 + 1) 0) (get_or l (k * 4 + 2) 0) (get_or l (k * 4 + 3) 0) ≡ v
  event_so l k v w =
      ap (λ (s : ℕ). event_of f s (get_or l (k * 4 + 1) 0) (get_or l (k * 4 + 2) 0) (get_or l (k * 4 + 3) 0)) w.second
      ∙ ap (λ (i : Input). record { at = v.at; input = i })
      (input_so (get_or l (k * 4 + 1) 0) (get_or l (k * 4 + 2) 0) (get_or l (k * 4 + 3) 0) v.input w.input)
