-- The laws that the proofs of findings cite.
use mathlib.Core.Path.{◌≡◌, refl, sym, ap, ◌∙◌}
use mathlib.Core.Bool.{Bool, true, false}
use mathlib.Core.List.{List, [], ◌∷◌}
use Prim.Native.Nat.{ℕ, zero, suc, ◌+◌, ◌-◌, ◌≤◌, ◌<◌}
use native.Mathlib.Numerals.{sub-one}
use native.Mathlib.Omega.{arith}
use lib.Dec.{ltb}
use lib.Count.{ones}
use lib.ListN.{get_or}
use borrow.Author.Tests.{lt-ltb, le-ltb, le-leb, lt-leb, eq-eqb, ne_eqb}
use Rattle.model_parts.specs.declared.Section.{Section}
use Rattle.model_check.specs.Checks.{number_of}
use Rattle.lint_reach.specs.Sets.{holds}
use Rattle.lint_walk.specs.declared.Walk.{Walk}
use Rattle.lint_walk.specs.Raw.{place_m, number_m, past, predicates_end, kind_m, conditions_m}
use Rattle.lint_walk.specs.Walks.{walk_by, list_end}
use Rattle.lint_areas.specs.Areas.{Item, finding, interaction, Board, pushes, only_if}
use Rattle.lint_areas.proofs.Laws.{pushes_append, next}
use Rattle.lint_conditions.specs.declared.Names.{Names}
use Rattle.lint_conditions.specs.Conditions.{contradictory_m, mismatched_m, delays_m, stale_m, tier_m, unguarded_m, leads_m}
use Rattle.lint_findings.specs.declared.About.{About}
use Rattle.lint_findings.specs.Entries.{
  items_numbers_m,
  items_parts_m,
  about_m,
  action_m,
  delayed_m,
  own_items,
  branch_items,
  branches_at,
  branches_items,
  stale_here_m,
  fresh_items,
  value_m,
  risky_m,
  interact_items,
  fanout_items,
  write_items,
  writes_items,
  first_items,
  rule_items,
}

-- ---- loops: what is left to insert

module _ (f : ℕ → List Item) (n k : ℕ) where
  pub numbers_more : (a : Board) {b : Board} → k < n → b ≡ pushes (f k) a →
      pushes (items_numbers_m f (n - k) k) a ≡ pushes (items_numbers_m f (n - (k + 1)) (k + 1)) b
  unfolding items_numbers_m
  numbers_more a h e =
      let m : n - k ≡ suc (n - (k + 1)) = omega arith in
      rw (m, items_numbers_m) (pushes_append (f k) (items_numbers_m f (n - (k + 1)) (k + 1)) a
      ∙ ap (pushes (items_numbers_m f (n - (k + 1)) (k + 1))) (sym e))

  pub numbers_end : (a : Board) → n ≤ k → pushes (items_numbers_m f (n - k) k) a ≡ a
  unfolding items_numbers_m pushes
  numbers_end a h =
      let m : n - k ≡ 0 = omega arith in
      rw m

pub numbers_start : (f : ℕ → List Item) {n m : ℕ} (a : Board) → m ≡ n →
    pushes (items_numbers_m f n 0) a ≡ pushes (items_numbers_m f (m - 0) 0) a
numbers_start f {n} {m} a e =
    let z : m - 0 ≡ m = omega arith in
    rw (z, e)

module _ (f : ℕ → List Item) (end : ℕ → ℕ) where
  pub parts_more : (n p : ℕ) (a : Board) {b : Board} {q : ℕ} → 0 < n → b ≡ pushes (f p) a → q ≡ end p →
      pushes (items_parts_m f end n p) a ≡ pushes (items_parts_m f end (n - 1) q) b
  unfolding items_parts_m
  parts_more zero p a h e g = absurd (omega arith)
  parts_more (suc n) p a h e g = rw (sub-one (suc n), g)
      (pushes_append (f p) (items_parts_m f end n (end p)) a ∙ ap (pushes (items_parts_m f end n (end p))) (sym e))

  pub parts_end : (n p : ℕ) (a : Board) → n ≤ 0 → pushes (items_parts_m f end n p) a ≡ a
  unfolding items_parts_m pushes
  parts_end zero p a h = refl
  parts_end (suc n) p a h = absurd (omega arith)

-- the test and the words of an entry, as the code has them
pub with_finding : {t u : Bool} {w x : List ℕ} (a : Board) {b : Board} → t ≡ u → w ≡ x →
    b ≡ pushes (only_if t (finding w)) a → b ≡ pushes (only_if u (finding x)) a
with_finding a e f h = rw (← e, ← f) h

pub with_interaction : {t u : Bool} (w : List ℕ) (a : Board) {b : Board} → t ≡ u → b ≡ pushes (only_if t (interaction w)) a →
    b ≡ pushes (only_if u (interaction w)) a
with_interaction w a e h = rw (← e) h

-- ---- words

pub about_is : (a : About) (code certainty entity line column : ℕ) →
    (code ∷ certainty ∷ a.tier ∷ entity ∷ a.set ∷ line ∷ column ∷ 0 ∷ 0 ∷ 0 ∷ 0 ∷ 0 ∷ 0 ∷ 0 ∷ [])
    ≡ about_m a code certainty entity line column
unfolding about_m
about_is a code certainty entity line column = refl

module _ (s : List ℕ) where
  pub action_is : (a : About) (code certainty entity p : ℕ) {l q m : ℕ} → l ≡ number_m s p → q ≡ past s p 4 →
      m ≡ number_m s q → about_m a code certainty entity l m ≡ action_m s a code certainty entity p
  unfolding action_m
  action_is a code certainty entity p d e f = rw (f, e, d)

  pub delayed_no : (w : Walk) (writes : ℕ) → writes ≡ 0 → delayed_m s w writes ≡ false
  unfolding delayed_m
  delayed_no w writes h = rw (eq-eqb writes 0 h)

  pub delayed_is : (w : Walk) (writes : ℕ) → (writes ≡ 0 → ⊥) → delays_m s w ≡ delayed_m s w writes
  unfolding delayed_m
  delayed_is w writes h = rw (ne_eqb writes 0 h)

  pub own_is : (a : About) (p : ℕ) (w : Walk) (writes : ℕ) (x : Board) {y z u : Board} →
      y ≡ pushes (only_if (contradictory_m s (conditions_m s p)) (finding (about_m a 0 0 0 a.line a.column))) x →
      z ≡ pushes (only_if (mismatched_m s p) (finding (about_m a 1 1 0 a.line a.column))) y →
      u ≡ pushes (only_if (delayed_m s w writes) (finding (about_m a 2 1 0 a.line a.column))) z →
      u ≡ pushes (own_items s a p w writes) x
  unfolding own_items
  own_is a p w writes x d e f = next _ _ x (next _ _ x d e) f

  pub branch_is : (a : About) (p : ℕ) {o n q : ℕ} {w : List ℕ} (x : Board) → w ≡ action_m s a 3 0 0 p → o ≡ past s p 9 →
      n ≡ place_m s o → q ≡ past s o 2 →
      pushes (branch_items s a p) x ≡ pushes (items_parts_m (λ q. only_if (contradictory_m s q) (finding w))
      (λ q. list_end s (predicates_end s q)) n q) x
  unfolding branch_items
  branch_is a p x i d e f = rw (i, f, e, d)

  pub branches_is : (a : About) (w : Walk) (x : Board) →
      pushes (branches_items s a w) x ≡ pushes (items_numbers_m (branches_at s a w) (w.count - 0) 0) x
  unfolding branches_items
  branches_is a w x = numbers_start (branches_at s a w) {n = w.count} {m = w.count} x refl

  module _ (a : About) (w : Walk) (k : ℕ) {i : ℕ} (d : i ≡ kind_m s (get_or w.list k 0)) (x : Board) where
    pub at_choice : {y : Board} → i ≡ 4 → y ≡ pushes (branch_items s a (get_or w.list k 0)) x →
        y ≡ pushes (branches_at s a w k) x
    unfolding branches_at
    at_choice h e = rw (← d) (rw (eq-eqb i 4 h) e)

    pub at_other : (i ≡ 4 → ⊥) → x ≡ pushes (branches_at s a w k) x
    unfolding branches_at pushes
    at_other h = rw (← d) (rw (ne_eqb i 4 h))

  module _ (e : Section) (reads k : ℕ) {r : Bool} (d : r ≡ holds reads k) where
    pub stale_yes : r ≡ true → stale_m s (get_or e.starts k 0) ≡ stale_here_m s e reads k
    unfolding stale_here_m
    stale_yes h = rw (← d) (rw h)

    pub stale_no : r ≡ false → stale_here_m s e reads k ≡ false
    unfolding stale_here_m
    stale_no h = rw (← d) (rw h)

  pub fresh_is : (a : About) (e : Section) (reads : ℕ) (x : Board) →
      pushes (fresh_items s a e reads) x ≡ pushes (items_numbers_m
      (λ k. only_if (stale_here_m s e reads k) (finding (about_m a 6 1 k a.line a.column))) (e.count - 0) 0) x
  unfolding fresh_items
  fresh_is a e reads x =
      numbers_start (λ k. only_if (stale_here_m s e reads k) (finding (about_m a 6 1 k a.line a.column)))
      {n = e.count} {m = e.count} x refl

  module _ (star p : ℕ) {k : ℕ} (d : k ≡ kind_m s p) where
    pub value_star : k ≡ 1 → star ≡ value_m s star p
    unfolding value_m
    value_star h = rw (← d) (rw (eq-eqb k 1 h))

    pub value_set : {q v : ℕ} → (k ≡ 1 → ⊥) → q ≡ past s p 11 → v ≡ place_m s q → v ≡ value_m s star p
    unfolding value_m
    value_set h e f = rw (← d) (rw (ne_eqb k 1 h) (f ∙ ap (place_m s) e))

  module _ (n : Names) (x v e : ℕ) {t : ℕ} (d : t ≡ tier_m s (get_or n.entities.starts e 0)) where
    pub risky_low : t < 2 → risky_m s n x v e ≡ false
    unfolding risky_m
    risky_low h = rw (← d) (rw (lt-ltb t 2 h))

    pub risky_is : 2 ≤ t → unguarded_m s n x v ≡ risky_m s n x v e
    unfolding risky_m
    risky_is h = rw (← d) (rw (le-ltb t 2 h))

  pub interact_is : (from : ℕ) (rules : Section) (star x v e : ℕ) (y : Board) →
      pushes (interact_items s from rules star x v e) y
      ≡ pushes (items_numbers_m (λ k. only_if (leads_m s star x v (get_or rules.starts k 0))
      (interaction (from ∷ k ∷ e ∷ []))) (rules.count - 0) 0) y
  unfolding interact_items
  interact_is from rules star x v e y = numbers_start
      (λ k. only_if (leads_m s star x v (get_or rules.starts k 0)) (interaction (from ∷ k ∷ e ∷ [])))
      {n = rules.count} {m = rules.count} y refl

  -- ---- writes

  module _ (d : Names) (rules : Section) (a : About) (p : ℕ) (y : Board) {k : ℕ} (h : k ≡ kind_m s p) where
    pub write_none : 1 < k → y ≡ pushes (write_items s d rules a p) y
    unfolding write_items pushes
    write_none i = rw (← h) (rw (lt-ltb 1 k i))

    module _ (i : k ≤ 1) {o x e : ℕ} (f : o ≡ past s p 9) (g : x ≡ place_m s o) (n : e ≡ number_of d.entities x s) where
      pub write_undeclared : d.entities.count ≤ e → y ≡ pushes (write_items s d rules a p) y
      unfolding write_items pushes
      write_undeclared j =
          rw (← h) (rw (le-ltb 1 k i) (rw (← f) (rw (← g) (rw (← n) (rw (le-leb d.entities.count e j))))))

      pub write_is : {v : ℕ} {z u : Board} → e < d.entities.count → v ≡ value_m s d.star p →
          z ≡ pushes (only_if (risky_m s d x v e) (finding (action_m s a 7 1 e p))) y →
          u ≡ pushes (interact_items s a.number rules d.star x v e) z → u ≡ pushes (write_items s d rules a p) y
      unfolding write_items
      write_is {v} j m b c =
          rw (← h) (rw (le-ltb 1 k i) (rw (← f) (rw (← g) (rw (← n) (rw (lt-leb d.entities.count e j) (rw (← m)
          (next (only_if (risky_m s d x v e) (finding (action_m s a 7 1 e p)))
          (interact_items s a.number rules d.star x v e) y b c)))))))

  pub writes_is : (d : Names) (rules : Section) (a : About) (w : Walk) (x : Board) →
      pushes (writes_items s d rules a w) x ≡ pushes (items_numbers_m (λ k. write_items s d rules a (get_or w.list k 0))
      (w.count - 0) 0) x
  unfolding writes_items
  writes_is d rules a w x = numbers_start (λ k. write_items s d rules a (get_or w.list k 0))
      {n = w.count} {m = w.count} x refl

  pub first_is : (a : About) (p : ℕ) (w : Walk) (writes : ℕ) (x : Board) {b c e : Board} →
      b ≡ pushes (own_items s a p w writes) x → c ≡ pushes (branches_items s a w) b →
      e ≡ pushes (only_if (ltb 8 (ones writes)) (finding (about_m a 4 1 0 a.line a.column))) c →
      e ≡ pushes (first_items s a p w writes) x
  unfolding first_items fanout_items
  first_is a p w writes x i j k = next _ _ x (next _ _ x i j) k

  pub rule_is : (d : Names) (rules : Section) (a : About) (p : ℕ) (w : Walk) (reads writes : ℕ) (x : Board) {e f g : Board} →
      e ≡ pushes (first_items s a p w writes) x → f ≡ pushes (fresh_items s a d.entities reads) e →
      g ≡ pushes (writes_items s d rules a w) f → g ≡ pushes (rule_items s d rules a p w reads writes) x
  unfolding rule_items
  rule_is d rules a p w reads writes x k l m = next _ _ x (next _ _ x k l) m

  -- the entries of an automation need the list and the count of its walk alone
  pub rule_by : (d : Names) (rules : Section) (a : About) (p : ℕ) (w : Walk) (reads writes : ℕ) →
      rule_items s d rules a p (walk_by w.list w.count) reads writes ≡ rule_items s d rules a p w reads writes
  unfolding rule_items first_items own_items delayed_m delays_m branches_items branches_at writes_items
  rule_by d rules a p w reads writes = refl

pub one_finding : {w v : List ℕ} (x : Board) {y : Board} → w ≡ v → y ≡ pushes (finding w ∷ []) x →
    y ≡ pushes (finding v ∷ []) x
one_finding x e f = rw (← e) f
