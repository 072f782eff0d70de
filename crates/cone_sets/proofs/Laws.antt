-- The laws that the proofs of sets cite.
use mathlib.Core.Path.{◌≡◌, refl}
use mathlib.Core.List.{List}
use Prim.Native.Nat.{ℕ}
use borrow.Author.Tests.{eq-eqb, ne_eqb}
use Rattle.model_parts.specs.declared.Section.{Section}
use Rattle.lint_walk.specs.declared.Walk.{Walk}
use Rattle.lint_walk.specs.Raw.{byte_m, place_m, past, predicate_end, kind_m}
use Rattle.lint_walk.specs.Walks.{walk_by}
use Rattle.lint_access.specs.Sets.{
  section_by,
  over,
  add_entity_m,
  add_predicate_m,
  add_predicates_m,
  add_triggers_m,
  add_branches_m,
  add_reads_m,
  add_trigger_m,
  reads_m,
}
use Rattle.cone_sets.specs.Sets.{add_named_m, named_m, add_toggle_m, needs_m}

module _ (s : List ℕ) (e : Section) (p set : ℕ) where
  module _ {k q : ℕ} (d : k ≡ byte_m s p) (i : q ≡ past s p 3) where
    pub named_0 : k ≡ 0 → add_predicates_m s e q set ≡ add_named_m s e p set
    unfolding add_named_m
    named_0 h = rw (← d, ← i) (rw (eq-eqb k 0 h))

    pub named_1 : {x y r : ℕ} → (k ≡ 0 → ⊥) → k ≡ 1 → x ≡ place_m s q → y ≡ add_entity_m s e x set → r ≡ past s p 7
        → add_predicates_m s e r y ≡ add_named_m s e p set
    unfolding add_named_m
    named_1 a h j m n = rw (← d, ← i) (rw (ne_eqb k 0 a, eq-eqb k 1 h) (rw (n, m, j)))

    pub named_2 : {x : ℕ} → (k ≡ 0 → ⊥) → (k ≡ 1 → ⊥) → k ≡ 2 → x ≡ place_m s q → add_entity_m s e x set ≡ add_named_m s e p set
    unfolding add_named_m
    named_2 a b h j = rw (← d, ← i) (rw (ne_eqb k 0 a, ne_eqb k 1 b, eq-eqb k 2 h) (rw j))

    pub named_else : {y r : ℕ} → (k ≡ 0 → ⊥) → (k ≡ 1 → ⊥) → (k ≡ 2 → ⊥) → y ≡ add_predicate_m s e q set →
        r ≡ predicate_end s q
        → add_predicate_m s e r y ≡ add_named_m s e p set
    unfolding add_named_m
    named_else a b h m n = rw (← d, ← i) (rw (ne_eqb k 0 a, ne_eqb k 1 b, ne_eqb k 2 h) (rw (n, m)))

  pub toggle_yes : {k q x : ℕ} → k ≡ kind_m s p → k ≡ 1 → q ≡ past s p 9 → x ≡ place_m s q →
      add_entity_m s e x set ≡ add_toggle_m s e p set
  unfolding add_toggle_m
  toggle_yes {k} d h i j = rw (← d) (rw (eq-eqb k 1 h) (rw (j, i)))

  pub toggle_no : {k : ℕ} → k ≡ kind_m s p → (k ≡ 1 → ⊥) → set ≡ add_toggle_m s e p set
  unfolding add_toggle_m
  toggle_no {k} d h = rw (← d) (rw (ne_eqb k 1 h))

module _ (s : List ℕ) (e : Section) where
  pub named_is : (is : Section) → named_m s e is ≡ over (add_named_m s e) is.starts is.count 0 0
  unfolding named_m
  named_is is = refl

  pub needs_is : (p : ℕ) (w : Walk) → needs_m s e p w ≡ over (add_toggle_m s e) w.list w.count 0 (reads_m s e p w)
  unfolding needs_m
  needs_is p w = refl

  -- positions and counts alone say what invariants name and what an automation needs
  pub named_by : (is : Section) {r : ℕ} → r ≡ named_m s (section_by e.starts e.count) is → r ≡ named_m s e is
  unfolding named_m add_named_m add_predicates_m add_predicate_m add_entity_m
  named_by is h = h

  pub needs_by : (p : ℕ) (w : Walk) {r : ℕ} → r ≡ needs_m s (section_by e.starts e.count) p
      (walk_by w.list w.count) → r ≡ needs_m s e p w
  unfolding needs_m add_toggle_m reads_m add_predicates_m add_triggers_m add_branches_m add_reads_m add_trigger_m add_predicate_m
      add_entity_m
  needs_by p w h = h
