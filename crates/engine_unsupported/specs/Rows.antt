-- Where the parts of an automation that hold notes stand: the part of `Row` and `Tabled` that the listing needs.
use Rattle.std.specs.Prelude.{ℕ, ◌≤◌, ◌<◌, ◌≡◌, List, [], length, get_or}
use Rattle.layout.specs.Table.{actions_word, automation_count_word, conditions_word, id_word, notes_word, triggers_word}
use Rattle.texts.specs.Texts.{Text}
use Rattle.texts.specs.Places.{text_at, start_from}
use Rattle.model_spec.specs.Model.{Automation}
use Rattle.model_spec.specs.File.{counted, place, predicate, trigger, actions}
use Rattle.model_parts.specs.Stand.{Reads}
use Rattle.reasons.specs.Readable.{text_count}
use Rattle.engine_fields.specs.Fields.{word}

-- the i-th row of the table x is the automation r
pub record RuleAt (f x : List ℕ) (ts : List Text) (i : ℕ) (r : Automation) : Type 0 where
  pub id_in : word x i id_word < length ts
  pub id : r.id ≡ get_or ts (word x i id_word) []
  pub triggers : Reads (counted (trigger ts)) f (word x i triggers_word) r.triggers
  pub conditions : Reads (counted (predicate ts)) f (word x i conditions_word) r.conditions
  pub actions : Reads (actions ts 18) f (word x i actions_word) r.actions
  pub notes : Reads (counted (place ts)) f (word x i notes_word) r.notes

-- the rows of the table x of the file f, with the texts ts, are the automations
pub record RulesAt (f x : List ℕ) (ts : List Text) (rs : List Automation) : Type 0 where
  pub size : length f ≤ 32768
  pub few_texts : length ts ≤ 65535
  pub counted : text_count f ≡ length ts
  pub placed_text : (k : ℕ) → k < length ts → text_at f (start_from f 6 k) ≡ get_or ts k []
  pub automations : get_or x automation_count_word 0 ≡ length rs
  pub few_automations : length rs ≤ 32
  pub rows : (d : Automation) (i : ℕ) → i < length rs → RuleAt f x ts i (get_or rs i d)
