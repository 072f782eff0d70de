-- What `cone` answers, by the definition of crate `cone_spec`: each number of the answer.
use Rattle.std.specs.Prelude.{ℕ, ◌≡◌, List, length, replicate}
use Rattle.texts.specs.Lists.{each}
use Rattle.model_spec.specs.Answer.{Answer, answer, refused}
use Rattle.model_spec.specs.Rewrite.{place_of}
use Rattle.engine_spec.specs.Words.{texts_in}
use Rattle.lint_spec.specs.Words.{ids_set, names_in, ids_in}
use Rattle.lint_spec.specs.Numbers.{padded, declared_set, undeclared}
use Rattle.cone_spec.specs.Cone as definition
use Rattle.cone_entry.specs.declared.ConeResult.{ConeResult}

unfoldable pub no_cone : (number : ℕ) → ConeResult
no_cone n = record { refused = n; entities = 0; automations = 0; undeclared = 0; names = replicate 64 0 }

-- the places of the undeclared names, ascending
unfoldable pub stray_places : (file : List ℕ) → definition.Cone → List ℕ
stray_places f c = each (λ t. place_of t (texts_in f)) (undeclared (names_in f) c.entities)

-- the answer's numbers say what the definition's answer says
pub record Shows (f : List ℕ) (r : ConeResult) (c : definition.Cone) : Type 0 where
  pub accepted : r.refused ≡ 0
  pub entities : r.entities ≡ declared_set (names_in f) c.entities
  pub automations : r.automations ≡ ids_set (names_in f) (ids_in f) c.automations
  pub undeclared : r.undeclared ≡ length (stray_places f c)
  pub names : r.names ≡ padded 64 (stray_places f c)

abbrev pub Says : (file : List ℕ) → ConeResult → Answer definition.Cone → Type 0
Says f r (answer c) = Shows f r c
Says f r (refused n) = r ≡ no_cone n

-- the entry `cone`
abbrev pub Answers : (file : List ℕ) → ConeResult → Type 0
Answers f r = Says f r (definition.cone f)
