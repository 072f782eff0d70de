-- What invariants name, and what an automation needs, as sets of numbers of declared entities.
use Rattle.std.specs.Prelude.{ℕ, List, eqb, if◌then◌else◌}
use Rattle.model_parts.specs.declared.Section.{Section}
use Rattle.lint_walk.specs.declared.Walk.{Walk}
use Rattle.lint_walk.specs.Raw.{byte_m, place_m, past, predicate_end, kind_m}
use Rattle.lint_access.specs.Sets.{Adds, over, add_entity_m, add_predicate_m, add_predicates_m, reads_m}

module _ (s : List ℕ) (e : Section) where
  -- what the invariant at a position names
  unfoldable pub add_named_m : (p : ℕ) → Adds
  add_named_m p set =
      if eqb (byte_m s p) 0 then add_predicates_m s e (past s p 3) set
      else if eqb (byte_m s p) 1 then add_predicates_m s e (past s p 7) (add_entity_m s e (place_m s (past s p 3)) set)
      else if eqb (byte_m s p) 2 then add_entity_m s e (place_m s (past s p 3)) set
      else add_predicate_m s e (predicate_end s (past s p 3)) (add_predicate_m s e (past s p 3) set)

  unfoldable pub named_m : (invariants : Section) → ℕ
  named_m is = over add_named_m is.starts is.count 0 0

  -- what an action toggles
  unfoldable pub add_toggle_m : (p : ℕ) → Adds
  add_toggle_m p set = if eqb (kind_m s p) 1 then add_entity_m s e (place_m s (past s p 9)) set else set

  -- what an automation reads or toggles
  unfoldable pub needs_m : (p : ℕ) → Walk → ℕ
  needs_m p w = over add_toggle_m w.list w.count 0 (reads_m s e p w)
