-- Old files answer as before, in the request's words: of a file that the reader of before (Old.antt) read to its end.
use Rattle.std.specs.Prelude.{ℕ, ◌≡◌, true, List}
use Rattle.model_spec.specs.Answer.{answer}
use Rattle.model_spec.specs.Model.{Model, midnight}
use Rattle.model_spec.specs.Windows.{windowless}
use Rattle.model_spec.specs.File.{decode}
use Rattle.model_spec.specs.Validate.{accepted}
use Rattle.model_spec.specs.Old as old

pub record OldFiles : Type 0 where
  -- it is read to the same model
  pub read : (file : List ℕ) (m : Model) → old.decode file ≡ answer m → decode file ≡ answer m
  -- which starts at midnight of weekday 0 and has no window, neither in an automation nor in an invariant
  pub starts : (file : List ℕ) (m : Model) → old.decode file ≡ answer m → m.start ≡ midnight
  pub no_window : (file : List ℕ) (m : Model) → old.decode file ≡ answer m → windowless m ≡ true
  -- and it is accepted, or refused by the same number
  pub judged : (file : List ℕ) (m : Model) → old.decode file ≡ answer m → accepted file ≡ old.accepted file
