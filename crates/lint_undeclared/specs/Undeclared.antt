-- The undeclared names that automations read, on places.
use Rattle.std.specs.Prelude.{ℕ, zero, suc, ◌+◌, Bool, false, List, ltb, leb, eqb, get_or, set, replicate, if◌then◌else◌}
use Rattle.model_parts.specs.declared.Section.{Section}
use Rattle.model_check.specs.Checks.{number_of}
use Rattle.lint_walk.specs.declared.Walk.{Walk}
use Rattle.lint_walk.specs.Raw.{place_m, past, kind_m}
use Rattle.lint_walk.specs.Walks.{walk_m}
use Rattle.lint_conditions.specs.Conditions.{any_list_m}
use Rattle.lint_undeclared.specs.declared.Undeclared.{Undeclared}

-- with one name more, if there is place
unfoldable pub with_m : Undeclared → (reader place : ℕ) → Undeclared
with_m u i t = if ltb u.count 64 then record {
  count = u.count + 1;
  names = set u.names u.count t;
  readers =
      set u.readers u.count i;
} else u

abbrev pub none : Undeclared
none = record { count = 0; names = replicate 64 0; readers = replicate 64 0 }

module _ (s : List ℕ) where
  unfoldable pub await_m : (place p : ℕ) → Bool
  await_m t p = if eqb (kind_m s p) 5 then eqb (place_m s (past s p 9)) t else false

  unfoldable pub awaits_m : Walk → (place : ℕ) → Bool
  awaits_m w t = any_list_m (await_m t) w.list w.count 0

  unfoldable pub strange_m : Section → Walk → (place : ℕ) → Bool
  strange_m e w t = if awaits_m w t then leb e.count (number_of e t s) else false

  -- with a name that is read, if no entity has it
  unfoldable pub read_m : Section → (reader place : ℕ) → Undeclared → Undeclared
  read_m e i t u = if leb e.count (number_of e t s) then with_m u i t else u

  unfoldable pub name_m : Section → Walk → (reader place : ℕ) → Undeclared → Undeclared
  name_m e w i t u = if strange_m e w t then with_m u i t else u

  -- of `left` texts from the place t on
  unfoldable pub names_m : Section → Walk → (reader left t : ℕ) → Undeclared → Undeclared
  names_m e w i zero t u = u
  names_m e w i (suc left) t u = names_m e w i left (t + 1) (name_m e w i t u)

  unfoldable pub rule_m : Section → (rules : Section) → (texts i : ℕ) → Undeclared → Undeclared
  rule_m e rules n i u = names_m e (walk_m s (get_or rules.starts i 0)) i n 0 u

  -- of `left` automations from the i-th on
  unfoldable pub rules_m : Section → (rules : Section) → (texts left i : ℕ) → Undeclared → Undeclared
  rules_m e rules n zero i u = u
  rules_m e rules n (suc left) i u = rules_m e rules n left (i + 1) (rule_m e rules n i u)

  unfoldable pub undeclared_m : Section → (rules : Section) → (texts : ℕ) → Undeclared
  undeclared_m e rules n = rules_m e rules n rules.count 0 none
