-- What lint's tests need of a file, from its index.
use Rattle.std.specs.Prelude.{ℕ, ◌≤◌, List}
use Rattle.texts.specs.Texts.{text}
use Rattle.model_order.specs.Order.{place_from}
use Rattle.model_index.specs.declared.Index.{Index}
use Rattle.lint_conditions.specs.declared.Names.{Names}

unfoldable pub names_of : List ℕ → Index → Names
names_of s i = record {
  entities = i.entities;
  invariants = i.invariants;
  on = place_from i.texts.count 0 (text "on") s 6;
  off = place_from i.texts.count 0 (text "off") s 6;
  star = place_from i.texts.count 0 (text "*") s 6;
}

-- the index of a model that isn't too large
pub record Bounds (i : Index) : Type 0 where
  pub entities : i.entities.count ≤ 32
  pub invariants : i.invariants.count ≤ 32
  pub rules : i.rules.count ≤ 32
