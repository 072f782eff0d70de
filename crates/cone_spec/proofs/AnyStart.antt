-- The definitions of lint and of the cone look at the scenario and the automations only.
use Prim.Native.Nat.{ℕ}
use mathlib.Core.Path.{◌≡◌}
use mathlib.Core.List.{List}
use Rattle.model_spec.specs.Answer.{answer, ◌>>=◌}
use Rattle.model_spec.specs.Model.{Moment, Model}
use Rattle.model_spec.specs.Windows.{with_start}
use Rattle.model_spec.specs.Validate.{accepted}
use Rattle.lint_spec.specs.Lint.{linted, lint}
use Rattle.cone_spec.specs.Cone.{cone_of, cone}
use Rattle.cone_spec.specs.AnyStart.{StartUnread}

lints : (file file' : List ℕ) (m : Model) (start : Moment) → accepted file ≡ answer m
    → accepted file' ≡ answer (with_start start m) → (f i : ℕ) → lint f i file' ≡ lint f i file
unfolding lint linted ◌>>=◌
lints file file' m start a b f i = rw (a, b)

cones : (file file' : List ℕ) (m : Model) (start : Moment) → accepted file ≡ answer m
    → accepted file' ≡ answer (with_start start m) → cone file' ≡ cone file
unfolding cone cone_of ◌>>=◌
cones file file' m start a b = rw (a, b)

pub start_unread : StartUnread
start_unread = record { lints = lints; cones = cones }
