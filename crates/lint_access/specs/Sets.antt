-- The entities that an automation reads and writes, as sets of numbers of declared entities.
use Rattle.std.specs.Prelude.{None, ℕ, zero, suc, ◌+◌, ◌^◌, List, ltb, eqb, get_or, if◌then◌else◌}
use Rattle.std.specs.Int.Bits.{bit_or}
use Rattle.model_parts.specs.declared.Section.{Section}
use Rattle.model_check.specs.Checks.{number_of}
use Rattle.lint_walk.specs.declared.Walk.{Walk}
use Rattle.lint_walk.specs.Raw.{byte_m, place_m, past, predicate_end, predicates_end, kind_m, triggers_m, conditions_m}
use Rattle.lint_walk.specs.Walks.{list_end}

-- a section by its first n positions alone
abbrev pub section_by : List ℕ → (n : ℕ) → Section
section_by l n = record { count = n; starts = l; end = None }

-- a change of a set
abbrev pub Adds : Type 0
Adds = ℕ → ℕ

-- for each of `left` positions from the k-th of the list on
unfoldable pub over : (f : ℕ → Adds) → List ℕ → (left k : ℕ) → Adds
over f l zero k x = x
over f l (suc left) k x = over f l left (k + 1) (f (get_or l k 0) x)

-- `left` parts from p on, where each part ends
unfoldable pub along : (f : ℕ → Adds) → (end : ℕ → ℕ) → (left p : ℕ) → Adds
along f end zero p x = x
along f end (suc left) p x = along f end left (end p) (f p x)

module _ (s : List ℕ) (e : Section) where
  -- with the entity whose name is at the place, if it is declared
  unfoldable pub add_entity_m : (place : ℕ) → Adds
  add_entity_m x set = if ltb (number_of e x s) e.count then bit_or set (2 ^ number_of e x s) else set

  unfoldable pub add_predicate_m : (p : ℕ) → Adds
  add_predicate_m p set = if eqb (byte_m s p) 0 then add_entity_m (place_m s (past s p 1)) set else set

  -- a count, and as many predicates
  unfoldable pub add_predicates_m : (p : ℕ) → Adds
  add_predicates_m p = along add_predicate_m (predicate_end s) (place_m s p) (past s p 2)

  -- a trigger with a note isn't read
  unfoldable pub add_trigger_m : (p : ℕ) → Adds
  add_trigger_m p set = if eqb (place_m s (past s p 14)) 65535 then add_entity_m (place_m s p) set else set

  unfoldable pub add_triggers_m : (p : ℕ) → Adds
  add_triggers_m p = along add_trigger_m (λ q. past s q 16) (place_m s p) (past s p 2)

  unfoldable pub add_branches_m : (p : ℕ) → Adds
  add_branches_m p = along add_predicates_m (λ q. list_end s (predicates_end s q)) (place_m s p) (past s p 2)

  -- what an action reads
  unfoldable pub add_reads_m : (p : ℕ) → Adds
  add_reads_m p set =
      if eqb (kind_m s p) 3 then add_predicate_m (past s p 9) set
      else if eqb (kind_m s p) 4 then add_branches_m (past s p 9) set
      else if eqb (kind_m s p) 5 then add_entity_m (place_m s (past s p 9)) set
      else set

  -- what an action writes
  unfoldable pub add_write_m : (p : ℕ) → Adds
  add_write_m p set = if ltb (kind_m s p) 2 then add_entity_m (place_m s (past s p 9)) set else set

  unfoldable pub reads_m : (p : ℕ) → Walk → ℕ
  reads_m p w = add_predicates_m (conditions_m s p) (over add_reads_m w.list w.count 0 (add_triggers_m (triggers_m s p) 0))

  unfoldable pub writes_m : Walk → ℕ
  writes_m w = over add_write_m w.list w.count 0 0
