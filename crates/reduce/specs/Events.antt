-- Events that stand as words, some of a model's.
use Rattle.std.specs.Prelude.{ℕ, ◌≡◌, List, length}
use Rattle.layout.specs.Sizes.{event_word_count}
use Rattle.texts.specs.Texts.{Text}
use Rattle.model_spec.specs.Model.{Event, Model}
use Rattle.areas.specs.Areas.{area}
use Rattle.model_spec.specs.Events.{Some, event_words}

-- these events of the model stand in the 400 words, n of them, and zeros behind them
pub record Left (m : Model) (ts : List Text) (words : List ℕ) (n : ℕ) (vs : List Event) : Type 0 where
  pub many : n ≡ length vs
  pub some : Some vs m.scenario.events
  pub held : words ≡ area (event_words ts) event_word_count vs
