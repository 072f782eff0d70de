-- The laws that the proofs of sets cite.
use mathlib.Core.Path.{◌≡◌, refl, sym, ap}
use mathlib.Core.List.{List}
use Prim.Native.Nat.{ℕ, zero, suc, ◌+◌, ◌-◌, ◌^◌, ◌≤◌, ◌<◌}
use native.Mathlib.Numerals.{sub-one}
use native.Mathlib.Omega.{arith}
use lib.Bits.{bit_or}
use lib.ListN.{get_or}
use borrow.Author.Tests.{lt-ltb, le-ltb, eq-eqb, ne_eqb}
use Rattle.model_parts.specs.declared.Section.{Section}
use Rattle.model_check.specs.Checks.{number_of}
use Rattle.lint_walk.specs.declared.Walk.{Walk}
use Rattle.lint_walk.specs.Raw.{byte_m, place_m, past, predicate_end, predicates_end, kind_m, triggers_m, conditions_m}
use Rattle.lint_walk.specs.Walks.{walk_by, list_end}
use Rattle.lint_access.specs.Sets.{
  section_by,
  Adds,
  over,
  along,
  add_entity_m,
  add_predicate_m,
  add_predicates_m,
  add_trigger_m,
  add_triggers_m,
  add_branches_m,
  add_reads_m,
  add_write_m,
  reads_m,
  writes_m,
}

-- ---- loops

module _ (f : ℕ → Adds) (l : List ℕ) (n k x : ℕ) where
  pub over_more : {y : ℕ} → k < n → y ≡ f (get_or l k 0) x → over f l (n - k) k x ≡ over f l (n - (k + 1)) (k + 1) y
  unfolding over
  over_more h e =
      let m : n - k ≡ suc (n - (k + 1)) = omega arith in
      rw (m, over) (ap (over f l (n - (k + 1)) (k + 1)) (sym e))

  pub over_end : n ≤ k → over f l (n - k) k x ≡ x
  unfolding over
  over_end h =
      let m : n - k ≡ 0 = omega arith in
      rw m

pub over_start : (f : ℕ → Adds) (l : List ℕ) (n : ℕ) {x y : ℕ} → y ≡ x → over f l n 0 x ≡ over f l (n - 0) 0 y
over_start f l n e =
    let m : n - 0 ≡ n = omega arith in
    rw (m, e)

module _ (f : ℕ → Adds) (end : ℕ → ℕ) where
  pub along_more : (n p x : ℕ) {q y : ℕ} → 0 < n → y ≡ f p x → q ≡ end p → along f end n p x ≡ along f end (n - 1) q y
  unfolding along
  along_more zero p x h e g = absurd (omega arith)
  along_more (suc n) p x h e g = rw (sub-one (suc n), e, g)

  pub along_end : (n p x : ℕ) → n ≤ 0 → along f end n p x ≡ x
  unfolding along
  along_end zero p x h = refl
  along_end (suc n) p x h = absurd (omega arith)

  pub along_start : {n p m q : ℕ} (x : ℕ) → n ≡ m → p ≡ q → along f end m q x ≡ along f end n p x
  along_start x e g = rw (e, g)

module _ (s : List ℕ) (e : Section) where
  module _ (x : ℕ) {i : ℕ} (g : i ≡ number_of e x s) (set : ℕ) where
    pub entity_yes : i < e.count → add_entity_m s e x set ≡ bit_or set (2 ^ i)
    unfolding add_entity_m
    entity_yes h = rw (← g) (rw (lt-ltb i e.count h))

    pub entity_no : e.count ≤ i → add_entity_m s e x set ≡ set
    unfolding add_entity_m
    entity_no h = rw (← g) (rw (le-ltb i e.count h))

  module _ (p set : ℕ) where
    pub predicate_yes : {b q x : ℕ} → b ≡ byte_m s p → b ≡ 0 → q ≡ past s p 1 → x ≡ place_m s q →
        add_entity_m s e x set ≡ add_predicate_m s e p set
    unfolding add_predicate_m
    predicate_yes {b} d h i j = rw (← d) (rw (eq-eqb b 0 h) (rw (j, i)))

    pub predicate_no : {b : ℕ} → b ≡ byte_m s p → (b ≡ 0 → ⊥) → set ≡ add_predicate_m s e p set
    unfolding add_predicate_m
    predicate_no {b} d h = rw (← d) (rw (ne_eqb b 0 h))

    pub predicates_is : add_predicates_m s e p set ≡ along (add_predicate_m s e) (predicate_end s) (place_m s p) (past s p 2) set
    unfolding add_predicates_m
    predicates_is = refl

    pub trigger_yes : {q b x : ℕ} → q ≡ past s p 14 → b ≡ place_m s q → b ≡ 65535 → x ≡ place_m s p →
        add_entity_m s e x set ≡ add_trigger_m s e p set
    unfolding add_trigger_m
    trigger_yes {q} {b} i d h j = rw (← i) (rw (← d) (rw (eq-eqb b 65535 h) (rw j)))

    pub trigger_no : {q b : ℕ} → q ≡ past s p 14 → b ≡ place_m s q → (b ≡ 65535 → ⊥) → set ≡ add_trigger_m s e p set
    unfolding add_trigger_m
    trigger_no {q} {b} i d h = rw (← i) (rw (← d) (rw (ne_eqb b 65535 h)))

    pub triggers_is : add_triggers_m s e p set ≡ along (add_trigger_m s e) (λ q. past s q 16) (place_m s p) (past s p 2) set
    unfolding add_triggers_m
    triggers_is = refl

    pub branches_is : add_branches_m s e p set ≡ along (add_predicates_m s e) (λ q. list_end s (predicates_end s q)) (place_m s p)
        (past s p 2) set
    unfolding add_branches_m
    branches_is = refl

    module _ {k q : ℕ} (d : k ≡ kind_m s p) (i : q ≡ past s p 9) where
      pub reads_3 : k ≡ 3 → add_predicate_m s e q set ≡ add_reads_m s e p set
      unfolding add_reads_m
      reads_3 h = rw (← d, ← i) (rw (eq-eqb k 3 h))

      pub reads_4 : (k ≡ 3 → ⊥) → k ≡ 4 → add_branches_m s e q set ≡ add_reads_m s e p set
      unfolding add_reads_m
      reads_4 a h = rw (← d, ← i) (rw (ne_eqb k 3 a, eq-eqb k 4 h))

      pub reads_5 : {x : ℕ} → (k ≡ 3 → ⊥) → (k ≡ 4 → ⊥) → k ≡ 5 → x ≡ place_m s q →
          add_entity_m s e x set ≡ add_reads_m s e p set
      unfolding add_reads_m
      reads_5 a b h j = rw (← d, ← i) (rw (ne_eqb k 3 a, ne_eqb k 4 b, eq-eqb k 5 h) (rw j))

      pub reads_else : (k ≡ 3 → ⊥) → (k ≡ 4 → ⊥) → (k ≡ 5 → ⊥) → set ≡ add_reads_m s e p set
      unfolding add_reads_m
      reads_else a b h = rw (← d, ← i) (rw (ne_eqb k 3 a, ne_eqb k 4 b, ne_eqb k 5 h))

    pub write_yes : {k q x : ℕ} → k ≡ kind_m s p → k < 2 → q ≡ past s p 9 → x ≡ place_m s q →
        add_entity_m s e x set ≡ add_write_m s e p set
    unfolding add_write_m
    write_yes {k} d h i j = rw (← d) (rw (lt-ltb k 2 h) (rw (j, i)))

    pub write_no : {k : ℕ} → k ≡ kind_m s p → 2 ≤ k → set ≡ add_write_m s e p set
    unfolding add_write_m
    write_no {k} d h = rw (← d) (rw (le-ltb k 2 h))

  pub writes_is : (w : Walk) → writes_m s e w ≡ over (add_write_m s e) w.list w.count 0 0
  unfolding writes_m
  writes_is w = refl

  pub reads_is : (p : ℕ) (w : Walk) {q r x y : ℕ} → q ≡ triggers_m s p → x ≡ add_triggers_m s e q 0 →
      over (add_reads_m s e) w.list w.count 0 x ≡ y → r ≡ conditions_m s p → add_predicates_m s e r y ≡ reads_m s e p w
  unfolding reads_m
  reads_is p w a b c d = rw (d, ← c, b, a)

  -- positions and counts alone say what an automation reads and writes
  pub reads_by : (p : ℕ) (w : Walk) {r : ℕ} → r ≡ reads_m s (section_by e.starts e.count) p
      (walk_by w.list w.count) → r ≡ reads_m s e p w
  unfolding reads_m add_predicates_m add_triggers_m add_branches_m add_reads_m add_trigger_m add_predicate_m add_entity_m
  reads_by p w h = h

  pub writes_by : (w : Walk) {r : ℕ} → r ≡ writes_m s (section_by e.starts e.count) (walk_by w.list w.count) →
      r ≡ writes_m s e w
  unfolding writes_m add_write_m add_entity_m
  writes_by w h = h
