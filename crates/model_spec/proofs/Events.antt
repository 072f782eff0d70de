-- How many words an input and an event have.
use Prim.Native.Nat.{suc}
use mathlib.Core.Path.{◌≡◌, refl, ap}
use mathlib.Core.List.{List}
use lib.ListN.{length}
use Rattle.texts.specs.Texts.{Text}
use Rattle.model_spec.specs.Model.{Input, reload, Event}
use Rattle.model_spec.specs.Events.{input_words, event_words}

pub input_size : (ts : List Text) (i : Input) → length (input_words ts i) ≡ 3
unfolding input_words
input_size ts (Input.set x v) = refl
input_size ts Input.restart = refl
input_size ts reload = refl

pub event_size : (ts : List Text) (e : Event) → length (event_words ts e) ≡ 4
unfolding event_words
event_size ts e = ap suc (input_size ts e.input)
