-- The laws that the proofs of the order of entries cite.
use mathlib.Core.Path.{◌≡◌, refl, ap, ◌∙◌}
use mathlib.Core.Bool.{Bool, true, false}
use mathlib.Core.List.{List, [], ◌∷◌}
use native.Mathlib.Omega.{arith}
use Prim.Native.Nat.{ℕ, suc, ◌+◌, ◌-◌, ◌^◌, ◌≤◌, ◌<◌}
use lib.Bits.{bit_or}
use lib.ListN.{get_or, set, replicate}
use borrow.Author.Tests.{lt-ltb, le-ltb}
use Rattle.model_parts.specs.declared.Section.{Section}
use Rattle.lint_walk.specs.declared.Walk.{Walk}
use Rattle.lint_walk.specs.Raw.{place_m, number_m, past, kind_m}
use Rattle.lint_walk.specs.Walks.{walk_by, walk_m}
use Rattle.lint_access.specs.Sets.{section_by, reads_m, writes_m}
use Rattle.lint_areas.specs.Areas.{Item, finding, Board, pushes}
use Rattle.lint_reach.specs.declared.Components.{Components}
use Rattle.lint_reach.specs.Sets.{holds}
use Rattle.lint_reach.specs.Steps.{Square}
use Rattle.lint_reach.specs.Cycles.{Cycles}
use Rattle.lint_conditions.specs.declared.Names.{Names}
use Rattle.lint_conditions.specs.Conditions.{any_list_m, highest_m, leads_m}
use Rattle.lint_findings.specs.declared.About.{About}
use Rattle.lint_findings.specs.Entries.{items_numbers_m, value_m, rule_items}
use Rattle.lint_pairs.specs.Pairs.{pair_items}
use Rattle.lint_access.proofs.Laws.{reads_by, writes_by}
use Rattle.lint_findings.proofs.Laws.{numbers_start, numbers_end, rule_by}
use Rattle.lint_pairs.proofs.Laws.{pair_by}
use Rattle.lint_collect.specs.Collect.{
  about_at,
  rule_at,
  rules_items,
  pair_at,
  later_items,
  opposing_items,
  action_leads_m,
  leads_to_m,
  fill_m,
  row_m,
  edges_m,
  cycle_writes_from,
  cycle_writes_m,
  cycle_m,
  cycles_items,
}

module _ (s : List ℕ) where
  pub about_is : (e : Section) (i source writes : ℕ) {l q c b t : ℕ} → l ≡ number_m s source → q ≡ past s source 4 →
      c ≡ number_m s q → b ≡ bit_or 0 (2 ^ i) → t ≡ highest_m s e writes →
      record { number = i; set = b; tier = t; line = l; column = c } ≡ about_at s e i source writes
  unfolding about_at
  about_is e i source writes d f g h k = rw (d, g, f, h, k)

  pub rule_is : (d : Names) (rules : Section) (i : ℕ) {w : Walk} {writes reads : ℕ} {a : About} (x : Board) {y : Board} →
      w ≡ walk_m s (get_or rules.starts i 0) → writes
      ≡ writes_m s (section_by d.entities.starts d.entities.count) (walk_by w.list w.count) →
      reads ≡ reads_m s (section_by d.entities.starts d.entities.count) (get_or rules.starts i 0)
      (walk_by w.list w.count) →
      a ≡ about_at s d.entities i w.next writes →
      y ≡ pushes (rule_items s d rules a (get_or rules.starts i 0) (walk_by w.list w.count) reads writes) x →
      y ≡ pushes (rule_at s d rules i) x
  unfolding rule_at
  rule_is d rules i {w} {writes} {reads} {a} x e f g h k =
      rw (← e) (rw (← writes_by s d.entities w f) (rw (← reads_by s d.entities (get_or rules.starts i 0) w g)
      (rw (← h)
      (k ∙ ap (λ (l : List Item). pushes l x) (rule_by s d rules a (get_or rules.starts i 0) w reads writes)))))

  pub rules_is : (d : Names) (rules : Section) (x : Board) →
      pushes (rules_items s d rules) x ≡ pushes (items_numbers_m (rule_at s d rules) (rules.count - 0) 0) x
  unfolding rules_items
  rules_is d rules x = numbers_start (rule_at s d rules) {n = rules.count} {m = rules.count} x refl

  pub pair_is : (d : Names) (rules : Section) (i : ℕ) (v : Walk) (j : ℕ) {w : Walk} {a b : ℕ} (x : Board) {y : Board} →
      w ≡ walk_m s (get_or rules.starts j 0) → a ≡ bit_or 0 (2 ^ i) → b ≡ bit_or a (2 ^ j) →
      y ≡ pushes (pair_items s d b (walk_by v.list v.count) (walk_by w.list w.count)) x →
      y ≡ pushes (pair_at s d rules i v j) x
  unfolding pair_at
  pair_is d rules i v j {w} {a} {b} x e f g h = rw (← e)
      (rw (← f) (rw (← g) (h ∙ ap (λ (l : List Item). pushes l x) (pair_by s d b v w))))

  pub later_none : (d : Names) (rules : Section) (i : ℕ) (x : Board) → rules.count ≤ i + 1 →
      pushes (later_items s d rules i) x ≡ x
  unfolding later_items
  later_none d rules i x h = numbers_end (pair_at s d rules i (walk_m s (get_or rules.starts i 0))) rules.count (i + 1) x h

  pub later_is : (d : Names) (rules : Section) (i : ℕ) {v : Walk} (x : Board) → v ≡ walk_m s (get_or rules.starts i 0) →
      pushes (later_items s d rules i) x ≡ pushes (items_numbers_m (pair_at s d rules i (walk_by v.list v.count))
      (rules.count - (i + 1)) (i + 1)) x
  unfolding later_items pair_at pair_items
  later_is d rules i x e = rw (← e)

  pub opposing_is : (d : Names) (rules : Section) (x : Board) →
      pushes (opposing_items s d rules) x ≡ pushes (items_numbers_m (later_items s d rules) (rules.count - 0) 0) x
  unfolding opposing_items
  opposing_is d rules x = numbers_start (later_items s d rules) {n = rules.count} {m = rules.count} x refl

  module _ (star p a : ℕ) {k : ℕ} (h : k ≡ kind_m s a) where
    pub action_no : 1 < k → action_leads_m s star p a ≡ false
    unfolding action_leads_m
    action_no i = rw (← h) (rw (lt-ltb 1 k i))

    pub action_is : {q x v : ℕ} → k ≤ 1 → q ≡ past s a 9 → x ≡ place_m s q → v ≡ value_m s star a →
        leads_m s star x v p ≡ action_leads_m s star p a
    unfolding action_leads_m
    action_is i d e f = rw (← h) (rw (le-ltb 1 k i) (rw (f, e, d)))

  pub leads_is : (star : ℕ) (w : Walk) (p : ℕ) → leads_to_m s star w p
      ≡ any_list_m (action_leads_m s star p) w.list w.count 0
  unfolding leads_to_m
  leads_is star w p = refl

  pub row_is : (star : ℕ) (rules : Section) (w : Walk) →
      row_m s star rules w ≡ fill_m (λ j. leads_to_m s star w (get_or rules.starts j 0)) (rules.count - 0) 0
      (replicate 32 false)
  unfolding row_m
  row_is star rules w =
      let m : rules.count - 0 ≡ rules.count = omega arith in
      rw m

  pub edges_is : (star : ℕ) (rules : Section) → edges_m s star rules
      ≡ fill_m (λ i. row_m s star rules (walk_m s (get_or rules.starts i 0))) (rules.count - 0) 0
      (replicate 32 (replicate 32 false))
  unfolding edges_m
  edges_is star rules =
      let m : rules.count - 0 ≡ rules.count = omega arith in
      rw m

  pub edge_row : (star : ℕ) (rules : Section) (i : ℕ) {w : Walk} {r : List Bool} → w ≡ walk_m s (get_or rules.starts i 0) →
      r ≡ row_m s star rules (walk_by w.list w.count) → r ≡ row_m s star rules (walk_m s (get_or rules.starts i 0))
  unfolding row_m leads_to_m
  edge_row star rules i e f = f ∙ ap (row_m s star rules) e

  module _ (e rules : Section) (z : ℕ) where
    pub writes_start : cycle_writes_m s e rules z ≡ cycle_writes_from s e rules z (rules.count - 0) 0 0
    unfolding cycle_writes_m
    writes_start =
        let m : rules.count - 0 ≡ rules.count = omega arith in
        rw m

    module _ (n i x : ℕ) (h : i < n) {r : Bool} (f : r ≡ holds z i) where
      pub writes_yes : {w : Walk} {y u : ℕ} → r ≡ true → w ≡ walk_m s (get_or rules.starts i 0) →
          y ≡ writes_m s (section_by e.starts e.count) (walk_by w.list w.count) → u ≡ bit_or x y →
          cycle_writes_from s e rules z (n - i) i x ≡ cycle_writes_from s e rules z (n - (i + 1)) (i + 1) u
      unfolding cycle_writes_from
      writes_yes {w} a b c d =
          let m : n - i ≡ suc (n - (i + 1)) = omega arith in
          rw (d, writes_by s e w c, b) (rw (m, cycle_writes_from) (rw (← f) (rw a)))

      pub writes_no : r ≡ false → cycle_writes_from s e rules z (n - i) i x
          ≡ cycle_writes_from s e rules z (n - (i + 1)) (i + 1) x
      unfolding cycle_writes_from
      writes_no a =
          let m : n - i ≡ suc (n - (i + 1)) = omega arith in
          rw (m, cycle_writes_from) (rw (← f) (rw a))

    pub writes_end : (n i x : ℕ) → n ≤ i → cycle_writes_from s e rules z (n - i) i x ≡ x
    unfolding cycle_writes_from
    writes_end n i x h =
        let m : n - i ≡ 0 = omega arith in
        rw m

    pub cycle_is : {y t : ℕ} → y ≡ cycle_writes_m s e rules z → t ≡ highest_m s e y →
        (5 ∷ 1 ∷ t ∷ 0 ∷ z ∷ 0 ∷ 0 ∷ 0 ∷ 0 ∷ 0 ∷ 0 ∷ 0 ∷ 0 ∷ 0 ∷ []) ≡ cycle_m s e rules z
    unfolding cycle_m
    cycle_is a b = rw (b, a)

  pub cycles_is : (e rules : Section) (c : Components) (x : Board) →
      pushes (cycles_items s e rules c) x ≡ pushes (items_numbers_m (λ k. finding (cycle_m s e rules (get_or c.sets k 0)) ∷ [])
      (c.count - 0) 0) x
  unfolding cycles_items
  cycles_is e rules c x = numbers_start (λ k. finding (cycle_m s e rules (get_or c.sets k 0)) ∷ [])
      {n = c.count} {m = c.count} x refl

module _ {A : Type 0} (f : ℕ → A) (n k : ℕ) (l : List A) where
  pub fill_more : {a : A} → k < n → a ≡ f k → fill_m f (n - k) k l ≡ fill_m f (n - (k + 1)) (k + 1) (set l k a)
  unfolding fill_m
  fill_more h e =
      let m : n - k ≡ suc (n - (k + 1)) = omega arith in
      rw (e, m)

  pub fill_end : n ≤ k → fill_m f (n - k) k l ≡ l
  unfolding fill_m
  fill_end h =
      let m : n - k ≡ 0 = omega arith in
      rw m

pub few : (e : Square) (n : ℕ) (c : Components) → Cycles e n c → n ≤ 32 → c.count ≤ 32
few e n c h k = omega (arith, h.few)
