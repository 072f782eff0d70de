-- The answer's components, reads and writes by numbers: automations in the file's order, declared entities as sets, and the
-- names that no entity has as places among the texts.
use Rattle.std.specs.Prelude.{ℕ, ◌-◌, not, List, [], ◌++◌, length, replicate}
use Rattle.std.proofs.Math.Option.{none, some}
use Rattle.texts.specs.Lists.{keep, find, each, flat}
use Rattle.texts.specs.Texts.{Text, eq_t, mem_t}
use Rattle.model_spec.specs.Rewrite.{place_of}
use Rattle.lint_spec.specs.Lint.{Touched}
use Rattle.lint_spec.specs.Words.{set_of}

-- n numbers: those given, then zeros
unfoldable pub padded : (n : ℕ) → List ℕ → List ℕ
padded n l = l ++ replicate (n - length l) 0

-- the entities of the automation with this identifier
unfoldable pub entities_of : List Touched → (id : Text) → List Text
entities_of l id = elim (find (λ t. eq_t t.automation id) l) [ none ↦ [] | some t ↦ t.entities ]

-- `names` are those of the declared entities
module _ (names : List Text) where
  -- the declared ones, as a set
  unfoldable pub declared_set : List Text → ℕ
  declared_set l = set_of (each (λ t. place_of t names) (keep (λ t. mem_t t names) l))

  unfoldable pub undeclared : List Text → List Text
  undeclared l = keep (λ t. not (mem_t t names)) l

-- the places of the undeclared names of each automation, and the automations' numbers
unfoldable pub stranger_places : (texts names ids : List Text) → List Touched → List ℕ
stranger_places ts names ids l = flat (λ id. each (λ t. place_of t ts) (undeclared names (entities_of l id))) ids

unfoldable pub stranger_readers : (names ids : List Text) → List Touched → List ℕ
stranger_readers names ids l = flat (λ id. each (λ t. place_of id ids) (undeclared names (entities_of l id))) ids
