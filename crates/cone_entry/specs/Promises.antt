-- What the parts of the entry promise.
use Rattle.std.specs.Prelude.{ℕ, ◌≡◌, List, get_or, replicate}
use Rattle.model_index.specs.declared.Index.{Index}
use Rattle.model_parts.specs.declared.Section.{Section}
use Rattle.lint_walk.specs.Walks.{walk_m}
use Rattle.lint_access.specs.Sets.{writes_m}
use Rattle.lint_undeclared.specs.Undeclared.{undeclared_m}
use Rattle.lint_collect.specs.Collect.{fill_m}
pub use Rattle.lint_refinement.specs.Context.{Bounds}
use Rattle.cone_sets.specs.Sets.{named_m, needs_m}
use Rattle.cone_close.specs.declared.ConeSets.{ConeSets}
use Rattle.cone_close.specs.Rounds.{closed_m}
use Rattle.cone_names.specs.declared.ConeNames.{ConeNames}
use Rattle.cone_names.specs.Undeclared.{names_m}
use Rattle.cone_entry.specs.declared.Touched.{Touched}
use Rattle.cone_entry.specs.declared.ConeResult.{ConeResult}

-- what each automation writes, and what it needs
unfoldable pub writes_each_m : List ℕ → (entities rules : Section) → List ℕ
writes_each_m s e rules = fill_m (λ i. writes_m s e (walk_m s (get_or rules.starts i 0))) rules.count 0 (replicate 32 0)

unfoldable pub needs_each_m : List ℕ → (entities rules : Section) → List ℕ
needs_each_m s e rules =
    fill_m (λ i. needs_m s e (get_or rules.starts i 0) (walk_m s (get_or rules.starts i 0))) rules.count 0
    (replicate 32 0)

-- both, as the code has them
pub record Touches (s : List ℕ) (e rules : Section) (t : Touched) : Type 0 where
  pub writes : t.writes ≡ writes_each_m s e rules
  pub needs : t.needs ≡ needs_each_m s e rules

-- the sets of a model, from its index
unfoldable pub model_sets_m : List ℕ → Index → ConeSets
model_sets_m s i =
    closed_m (writes_each_m s i.entities i.rules) (needs_each_m s i.entities i.rules) i.rules.count
    (named_m s i.entities i.invariants)

unfoldable pub model_names_m : List ℕ → Index → ConeNames
model_names_m s i = names_m (undeclared_m s i.entities i.rules i.texts.count) (model_sets_m s i).automations
    i.texts.count

pub record Tells (s : List ℕ) (i : Index) (r : ConeResult) : Type 0 where
  pub accepted : r.refused ≡ 0
  pub entities : r.entities ≡ (model_sets_m s i).entities
  pub automations : r.automations ≡ (model_sets_m s i).automations
  pub undeclared : r.undeclared ≡ (model_names_m s i).count
  pub names : r.names ≡ (model_names_m s i).list
