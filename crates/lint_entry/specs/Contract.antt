-- What `lint` answers, by the definitions of crate `lint_spec`: each number of the answer, and each word of the lent areas.
use Rattle.std.specs.Prelude.{ℕ, ◌/◌, ◌≡◌, List, length, replicate}
use Rattle.texts.specs.Lists.{each}
use Rattle.model_spec.specs.Answer.{Answer, answer, refused}
use Rattle.engine_spec.specs.Words.{texts_in}
use Rattle.lint_spec.specs.Lint as definition
use Rattle.lint_spec.specs.Words.{ids_set, names_in, ids_in}
use Rattle.lint_spec.specs.Memory.{Lent, Leaves}
use Rattle.lint_spec.specs.Numbers.{padded, entities_of, declared_set, stranger_places, stranger_readers}
use Rattle.lint_entry.specs.declared.Report.{Report}

unfoldable pub no_lint : (number : ℕ) → Report
no_lint n = record {
  refused = n;
  findings = 0;
  interactions = 0;
  components = 0;
  cycles = replicate 32 0;
  reads = replicate 32 0;
  writes = replicate 32 0;
  undeclared = 0;
  names = replicate 64 0;
  readers = replicate 64 0;
}

-- the answer's numbers say what the definition's answer says
pub record Shows (f : List ℕ) (r : Report) (l : definition.Lint) : Type 0 where
  pub accepted : r.refused ≡ 0
  pub findings : r.findings ≡ length l.findings
  pub interactions : r.interactions ≡ length l.interactions
  pub components : r.components ≡ length l.components
  pub cycles : r.cycles ≡ padded 32 (each (ids_set (names_in f) (ids_in f)) l.components)
  pub reads : r.reads ≡ padded 32 (each (λ id. declared_set (names_in f) (entities_of l.reads id)) (ids_in f))
  pub writes : r.writes ≡ padded 32 (each (λ id. declared_set (names_in f) (entities_of l.writes id)) (ids_in f))
  pub undeclared : r.undeclared ≡ length (stranger_places (texts_in f) (names_in f) (ids_in f) l.reads)
  pub names : r.names ≡ padded 64 (stranger_places (texts_in f) (names_in f) (ids_in f) l.reads)
  pub readers : r.readers ≡ padded 64 (stranger_readers (names_in f) (ids_in f) l.reads)

abbrev pub Says : (file : List ℕ) → Report → Answer definition.Lint → Type 0
Says f r (answer l) = Shows f r l
Says f r (refused n) = r ≡ no_lint n

-- the definition's answer, with as many entries as the areas hold
unfoldable pub lint_of : (file : List ℕ) → Lent → Answer definition.Lint
lint_of f l = definition.lint (length l.findings / 14) (length l.interactions / 3) f

-- the entry `lint`: its answer, and each word of the areas afterwards
pub record Answers (f : List ℕ) (r : Report) (before after : Lent) : Type 0 where
  pub says : Says f r (lint_of f before)
  pub memory : Leaves f (lint_of f before) before after
