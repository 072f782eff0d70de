-- The laws that the proofs of pairs cite.
use Rattle.std.specs.Prelude.{if◌then◌else◌}
use mathlib.Core.Path.{◌≡◌, refl}
use mathlib.Core.Bool.{Bool, true, false}
use mathlib.Core.List.{List, [], ◌∷◌}
use Prim.Native.Nat.{ℕ, zero, suc, ◌+◌, ◌-◌, ◌≤◌, ◌<◌}
use lib.Dec.{ltb, leb}
use lib.ListN.{get_or}
use borrow.Author.Tests.{lt-ltb, le-ltb, le-leb, lt-leb, ne_eqb}
use Rattle.model_parts.specs.declared.Section.{Section}
use Rattle.model_check.specs.Checks.{number_of}
use Rattle.lint_walk.specs.declared.Walk.{Walk}
use Rattle.lint_walk.specs.Raw.{place_m, number_m, past, kind_m}
use Rattle.lint_walk.specs.Walks.{walk_by}
use Rattle.lint_areas.specs.Areas.{Item, finding, Board, pushes, only_if}
use Rattle.lint_conditions.specs.declared.Names.{Names}
use Rattle.lint_conditions.specs.Conditions.{tier_m, opposed_m}
use Rattle.lint_findings.specs.Entries.{items_numbers_m, value_m}
use Rattle.lint_findings.proofs.Laws.{numbers_start}
use Rattle.lint_pairs.specs.Pairs.{spelled_m, pair_m, oppose_items, opposing_m, found_items, row_items, pair_items}

pub items_none : (f : ℕ → List Item) → ((k : ℕ) → f k ≡ []) → (n k : ℕ) → items_numbers_m f n k ≡ []
unfolding items_numbers_m
items_none f h zero k = refl
items_none f h (suc n) k = rw (h k) (items_none f h n (k + 1))

-- an entry's tests in another order
test_first : (b c t : Bool) (x : Item) → (if b then [] else if c then [] else only_if t x)
    ≡ (if (if b then false else t) then (if c then [] else x ∷ []) else [])
unfolding only_if
test_first true c t x = refl
test_first false true true x = refl
test_first false true false x = refl
test_first false false true x = refl
test_first false false false x = refl

module _ (s : List ℕ) where
  pub pair_is : (es : Section) (set e p q : ℕ) {t t' l o c l' o' c' : ℕ} → t ≡ tier_m s (get_or es.starts e 0) →
      t' ≡ spelled_m t → l ≡ number_m s p → o ≡ past s p 4 → c ≡ number_m s o → l' ≡ number_m s q → o' ≡ past s q 4 →
      c' ≡ number_m s o' →
      (8 ∷ 1 ∷ t' ∷ e ∷ set ∷ l ∷ c ∷ l' ∷ c' ∷ 0 ∷ 0 ∷ 0 ∷ 0 ∷ 0 ∷ []) ≡ pair_m s es set e p q
  unfolding pair_m
  pair_is es set e p q h h' i j k i' j' k' = rw (h', h, i, k, j, i', k', j')

  module _ (star x v q : ℕ) {k : ℕ} (h : k ≡ kind_m s q) where
    pub opposing_none : 1 < k → opposing_m s star x v q ≡ false
    unfolding opposing_m
    opposing_none i = rw (← h) (rw (lt-ltb 1 k i))

    pub opposing_is : {o y u : ℕ} {t : Bool} → k ≤ 1 → o ≡ past s q 9 → y ≡ place_m s o → u ≡ value_m s star q →
        t ≡ opposed_m star x v y u → t ≡ opposing_m s star x v q
    unfolding opposing_m
    opposing_is i e f g a = rw (← h) (rw (le-ltb 1 k i) (rw (← e) (rw (← f) (rw (← g) a))))

  module _ (es : Section) (set x p q : ℕ) (b : Board) {e : ℕ} (n : e ≡ number_of es x s) where
    pub found_none : es.count ≤ e → b ≡ pushes (found_items s es set x p q) b
    unfolding found_items pushes
    found_none z = rw (← n) (rw (le-leb es.count e z))

    pub found_is : {w : List ℕ} {c : Board} → e < es.count → w ≡ pair_m s es set e p q → c ≡ pushes (finding w ∷ []) b →
        c ≡ pushes (found_items s es set x p q) b
    unfolding found_items
    found_is z a f = rw (← n) (rw (lt-leb es.count e z) (rw (← a) f))

  module _ (d : Names) (set p q : ℕ) {k : ℕ} (h : k ≡ kind_m s p) where
    oppose_none : 1 < k → oppose_items s d set p q ≡ []
    unfolding oppose_items
    oppose_none i = rw (← h) (rw (lt-ltb 1 k i))

    module _ (i : k ≤ 1) {o x v : ℕ} (f : o ≡ past s p 9) (g : x ≡ place_m s o) (a : v ≡ value_m s d.star p) where
      -- the test of the two writes first
      oppose_as : oppose_items s d set p q ≡ (if opposing_m s d.star x v q then found_items s d.entities set x p q
          else [])
      unfolding oppose_items opposing_m found_items
      oppose_as =
          let e = number_of d.entities x s in
          rw (← h) (rw (le-ltb 1 k i) (rw (← f) (rw (← g) (rw (← a)
          (test_first (ltb 1 (kind_m s q)) (leb d.entities.count e)
          (opposed_m d.star x v (place_m s (past s q 9)) (value_m s d.star q))
          (finding (pair_m s d.entities set e p q)))))))

      module _ (b : Board) {t : Bool} (e : t ≡ opposing_m s d.star x v q) where
        pub oppose_yes : {c : Board} → t ≡ true → c ≡ pushes (found_items s d.entities set x p q) b →
            c ≡ pushes (oppose_items s d set p q) b
        oppose_yes z y = rw oppose_as (rw (← e) (rw z y))

        pub oppose_no : t ≡ false → b ≡ pushes (oppose_items s d set p q) b
        unfolding pushes
        oppose_no z = rw oppose_as (rw (← e) (rw z))

  pub row_none : (d : Names) (set : ℕ) (w : Walk) (p : ℕ) (b : Board) {k : ℕ} → k ≡ kind_m s p → 1 < k →
      b ≡ pushes (row_items s d set w p) b
  unfolding row_items pushes
  row_none d set w p b h i =
      rw (items_none (λ k. oppose_items s d set p (get_or w.list k 0)) (λ k. oppose_none d set p (get_or w.list k 0) h i)
      w.count 0)

  pub row_is : (d : Names) (set : ℕ) (w : Walk) (p : ℕ) (x : Board) →
      pushes (row_items s d set w p) x ≡ pushes (items_numbers_m (λ k. oppose_items s d set p (get_or w.list k 0))
      (w.count - 0) 0) x
  unfolding row_items
  row_is d set w p x = numbers_start (λ k. oppose_items s d set p (get_or w.list k 0)) {n = w.count} {m = w.count} x refl

  pub pairs_is : (d : Names) (set : ℕ) (v w : Walk) (x : Board) →
      pushes (pair_items s d set v w) x ≡ pushes (items_numbers_m (λ k. row_items s d set w (get_or v.list k 0)) (v.count - 0)
      0) x
  unfolding pair_items
  pairs_is d set v w x = numbers_start (λ k. row_items s d set w (get_or v.list k 0)) {n = v.count} {m = v.count} x refl

  -- a pair needs the lists and counts of its walks alone
  pub pair_by : (d : Names) (set : ℕ) (v w : Walk) →
      pair_items s d set (walk_by v.list v.count) (walk_by w.list w.count) ≡ pair_items s d set v w
  unfolding pair_items row_items
  pair_by d set v w = refl

pub spelled_yes : (t : ℕ) → t ≡ 3 → 4 ≡ spelled_m t
unfolding spelled_m
spelled_yes t h = rw h

pub spelled_no : (t : ℕ) → (t ≡ 3 → ⊥) → t ≡ spelled_m t
unfolding spelled_m
spelled_no t h = rw (ne_eqb t 3 h)
