-- Lint and the cone don't read the start, with windows or without: two accepted files whose models differ in nothing else
-- are answered the same.
use Rattle.std.specs.Prelude.{ℕ, ◌≡◌, List}
use Rattle.model_spec.specs.Answer.{answer}
use Rattle.model_spec.specs.Model.{Moment, Model}
use Rattle.model_spec.specs.Windows.{with_start}
use Rattle.model_spec.specs.Validate.{accepted}
use Rattle.lint_spec.specs.Lint.{lint}
use Rattle.cone_spec.specs.Cone.{cone}

pub record StartUnread : Type 0 where
  pub lints : (file file' : List ℕ) (m : Model) (start : Moment) → accepted file ≡ answer m
      → accepted file' ≡ answer (with_start start m) → (findings interactions : ℕ)
      → lint findings interactions file' ≡ lint findings interactions file
  pub cones : (file file' : List ℕ) (m : Model) (start : Moment) → accepted file ≡ answer m
      → accepted file' ≡ answer (with_start start m) → cone file' ≡ cone file
