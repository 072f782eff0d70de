-- The laws that the proofs of tests cite.
use Rattle.std.specs.Prelude.{if◌then◌else◌}
use mathlib.Core.Path.{◌≡◌, refl, sym, ap, ◌∙◌}
use mathlib.Core.Bool.{Bool, true, false, not}
use mathlib.Core.List.{List}
use Prim.Native.Nat.{ℕ, zero, suc, ◌+◌, ◌*◌, ◌-◌, ◌≤◌, ◌<◌}
use native.Mathlib.Numerals.{sub-one}
use native.Mathlib.Omega.{arith}
use lib.Dec.{eqb}
use lib.ListN.{get_or}
use borrow.Author.Tests.{lt-ltb, le-ltb, eq-eqb, ne_eqb}
use Rattle.model_parts.specs.declared.Section.{Section}
use Rattle.lint_reach.specs.Sets.{holds}
use Rattle.lint_walk.specs.declared.Walk.{Walk}
use Rattle.lint_walk.specs.Raw.{byte_m, place_m, number_m, past, predicate_end, kind_m, triggers_m, conditions_m}
use Rattle.lint_conditions.specs.declared.Names.{Names}
use Rattle.lint_conditions.specs.Conditions.{
  any_m,
  all_m,
  any_list_m,
  clash_m,
  clashes_m,
  meets_m,
  contradictory_from,
  contradictory_m,
  mismatch_m,
  mismatched_m,
  sets_off_m,
  leads_m,
  delays_m,
  guard_m,
  guarded_m,
  unguarded_m,
  tier_m,
  stale_m,
  opposed_m,
  greater_m,
  highest_from,
  highest_m,
}

-- ---- loops

module _ (f : ℕ → Bool) (end : ℕ → ℕ) where
  pub any_here : (n p : ℕ) → 0 < n → f p ≡ true → any_m f end n p ≡ true
  unfolding any_m
  any_here zero p h e = absurd (omega arith)
  any_here (suc n) p h e = rw (e, any_m)

  pub any_later : (n p : ℕ) {q : ℕ} → 0 < n → f p ≡ false → q ≡ end p → any_m f end n p ≡ any_m f end (n - 1) q
  unfolding any_m
  any_later zero p h e g = absurd (omega arith)
  any_later (suc n) p h e g = rw (sub-one (suc n), g) (rw (e, any_m))

  pub any_none : (n p : ℕ) → n ≤ 0 → any_m f end n p ≡ false
  unfolding any_m
  any_none zero p h = refl
  any_none (suc n) p h = absurd (omega arith)

  pub all_fails : (n p : ℕ) → 0 < n → f p ≡ false → all_m f end n p ≡ false
  unfolding all_m
  all_fails zero p h e = absurd (omega arith)
  all_fails (suc n) p h e = rw (e, all_m)

  pub all_later : (n p : ℕ) {q : ℕ} → 0 < n → f p ≡ true → q ≡ end p → all_m f end n p ≡ all_m f end (n - 1) q
  unfolding all_m
  all_later zero p h e g = absurd (omega arith)
  all_later (suc n) p h e g = rw (sub-one (suc n), g) (rw (e, all_m))

  pub all_done : (n p : ℕ) → n ≤ 0 → all_m f end n p ≡ true
  unfolding all_m
  all_done zero p h = refl
  all_done (suc n) p h = absurd (omega arith)

module _ (f : ℕ → Bool) (l : List ℕ) (n k : ℕ) where
  pub list_here : k < n → f (get_or l k 0) ≡ true → any_list_m f l (n - k) k ≡ true
  unfolding any_list_m
  list_here h e =
      let m : n - k ≡ suc (n - (k + 1)) = omega arith in
      rw (m, any_list_m) (rw (e, any_list_m))

  pub list_later : k < n → f (get_or l k 0) ≡ false → any_list_m f l (n - k) k ≡ any_list_m f l (n - (k + 1)) (k + 1)
  unfolding any_list_m
  list_later h e =
      let m : n - k ≡ suc (n - (k + 1)) = omega arith in
      rw (m, any_list_m) (rw (e, any_list_m))

  pub list_end_lem : n ≤ k → any_list_m f l (n - k) k ≡ false
  unfolding any_list_m
  list_end_lem h =
      let m : n - k ≡ 0 = omega arith in
      rw m

pub list_start : (f : ℕ → Bool) (l : List ℕ) (n : ℕ) → any_list_m f l n 0 ≡ any_list_m f l (n - 0) 0
list_start f l n =
    let m : n - 0 ≡ n = omega arith in
    rw m

-- ---- what the shut tests are

pub not-true : (b : Bool) → not b ≡ true → b ≡ false
not-true true h = sym h
not-true false h = refl

pub not-false : (b : Bool) → not b ≡ false → b ≡ true
not-false true h = refl
not-false false h = sym h

module _ (s : List ℕ) where
  module _ (x v p : ℕ) {b : ℕ} (d : b ≡ byte_m s p) where
    pub clash_note : (b ≡ 0 → ⊥) → clash_m s x v p ≡ false
    unfolding clash_m
    clash_note h = rw (← d) (rw (ne_eqb b 0 h))

    module _ (h : b ≡ 0) {o y : ℕ} (i : o ≡ past s p 1) (j : y ≡ place_m s o) where
      pub clash_other : (y ≡ x → ⊥) → clash_m s x v p ≡ false
      unfolding clash_m
      clash_other k = rw (← d) (rw (eq-eqb b 0 h) (rw (← i) (rw (← j) (rw (ne_eqb y x k)))))

      pub clash_is : {q u : ℕ} → y ≡ x → q ≡ past s p 3 → u ≡ place_m s q → not (eqb u v) ≡ clash_m s x v p
      unfolding clash_m
      clash_is k m n = rw (← d) (rw (eq-eqb b 0 h) (rw (← i) (rw (← j) (rw (eq-eqb y x k) (rw (← m) (rw (← n)))))))

  pub clashes_is : (x v n p : ℕ) → clashes_m s x v n p ≡ any_m (clash_m s x v) (predicate_end s) n p
  unfolding clashes_m
  clashes_is x v n p = refl

  module _ (n p : ℕ) {b : ℕ} (d : b ≡ byte_m s p) where
    pub meets_note : (b ≡ 0 → ⊥) → meets_m s n p ≡ false
    unfolding meets_m
    meets_note h = rw (← d) (rw (ne_eqb b 0 h))

    pub meets_is : {o x q v r : ℕ} → b ≡ 0 → o ≡ past s p 1 → x ≡ place_m s o → q ≡ past s p 3 → v ≡ place_m s q →
        r ≡ predicate_end s p → clashes_m s x v n r ≡ meets_m s n p
    unfolding meets_m
    meets_is h i j k m t = rw (t, m, k, j, i) (rw (← d) (rw (eq-eqb b 0 h)))

  pub contra_is : (p : ℕ) {n q : ℕ} → n ≡ place_m s p → q ≡ past s p 2 → contradictory_m s p ≡ contradictory_from s n q
  unfolding contradictory_m
  contra_is p d e = rw (d, e)

  pub contra_here : (n p : ℕ) → 0 < n → meets_m s (n - 1) p ≡ true → contradictory_from s n p ≡ true
  unfolding contradictory_from
  contra_here zero p h e = absurd (omega arith)
  contra_here (suc n) p h e = rw ((rw (sub-one (suc n)) at e), contradictory_from)

  pub contra_later : (n p : ℕ) {q : ℕ} → 0 < n → meets_m s (n - 1) p ≡ false → q ≡ predicate_end s p →
      contradictory_from s n p ≡ contradictory_from s (n - 1) q
  unfolding contradictory_from
  contra_later zero p h e g = absurd (omega arith)
  contra_later (suc n) p h e g = rw (sub-one (suc n), g) (rw ((rw (sub-one (suc n)) at e), contradictory_from))

  pub contra_none : (n p : ℕ) → n ≤ 0 → contradictory_from s n p ≡ false
  unfolding contradictory_from
  contra_none zero p h = refl
  contra_none (suc n) p h = absurd (omega arith)

  module _ (c p : ℕ) {o m : ℕ} (i : o ≡ past s p 14) (d : m ≡ place_m s o) where
    pub mismatch_noted : (m ≡ 65535 → ⊥) → mismatch_m s c p ≡ false
    unfolding mismatch_m
    mismatch_noted h = rw (← i) (rw (← d) (rw (ne_eqb m 65535 h)))

    module _ (h : m ≡ 65535) {q t : ℕ} (j : q ≡ past s p 4) (k : t ≡ place_m s q) where
      pub mismatch_any : t ≡ 65535 → mismatch_m s c p ≡ false
      unfolding mismatch_m
      mismatch_any z = rw (← i) (rw (← d) (rw (eq-eqb m 65535 h) (rw (← j) (rw (← k) (rw (eq-eqb t 65535 z))))))

      pub mismatch_is : {x n r : ℕ} → (t ≡ 65535 → ⊥) → x ≡ place_m s p → n ≡ place_m s c → r ≡ past s c 2 →
          clashes_m s x t n r ≡ mismatch_m s c p
      unfolding mismatch_m
      mismatch_is z a b e =
          rw (e, b, a) (rw (← i) (rw (← d) (rw (eq-eqb m 65535 h) (rw (← j) (rw (← k) (rw (ne_eqb t 65535 z)))))))

  pub mismatched_is : (p : ℕ) {c t n q : ℕ} → c ≡ conditions_m s p → t ≡ triggers_m s p → n ≡ place_m s t → q ≡ past s t 2 →
      mismatched_m s p ≡ all_m (mismatch_m s c) (λ o. past s o 16) n q
  unfolding mismatched_m
  mismatched_is p a b d e = rw (e, d, b, a)

  module _ (star x v p : ℕ) {o m : ℕ} (i : o ≡ past s p 14) (d : m ≡ place_m s o) where
    pub sets_noted : (m ≡ 65535 → ⊥) → sets_off_m s star x v p ≡ false
    unfolding sets_off_m
    sets_noted h = rw (← i) (rw (← d) (rw (ne_eqb m 65535 h)))

    module _ (h : m ≡ 65535) {y : ℕ} (j : y ≡ place_m s p) where
      pub sets_other : (y ≡ x → ⊥) → sets_off_m s star x v p ≡ false
      unfolding sets_off_m
      sets_other k = rw (← i) (rw (← d) (rw (eq-eqb m 65535 h) (rw (← j) (rw (ne_eqb y x k)))))

      module _ (k : y ≡ x) where
        pub sets_star : v ≡ star → sets_off_m s star x v p ≡ true
        unfolding sets_off_m
        sets_star a = rw (← i) (rw (← d) (rw (eq-eqb m 65535 h) (rw (← j) (rw (eq-eqb y x k) (rw (eq-eqb v star a))))))

        module _ (a : v ≡ star → ⊥) {q t : ℕ} (b : q ≡ past s p 4) (e : t ≡ place_m s q) where
          pub sets_any : t ≡ 65535 → sets_off_m s star x v p ≡ true
          unfolding sets_off_m
          sets_any z =
              rw (← i) (rw (← d)
              (rw (eq-eqb m 65535 h)
              (rw (← j) (rw (eq-eqb y x k) (rw (ne_eqb v star a) (rw (← b) (rw (← e) (rw (eq-eqb t 65535 z)))))))))

          pub sets_is : (t ≡ 65535 → ⊥) → eqb t v ≡ sets_off_m s star x v p
          unfolding sets_off_m
          sets_is z = rw (← i)
              (rw (← d) (rw (eq-eqb m 65535 h)
              (rw (← j) (rw (eq-eqb y x k) (rw (ne_eqb v star a) (rw (← b) (rw (← e) (rw (ne_eqb t 65535 z)))))))))

  pub leads_is : (star x v p : ℕ) {t n q : ℕ} → t ≡ triggers_m s p → n ≡ place_m s t → q ≡ past s t 2 →
      leads_m s star x v p ≡ any_m (sets_off_m s star x v) (λ o. past s o 16) n q
  unfolding leads_m
  leads_is star x v p b d e = rw (e, d, b)

  pub delays_is : (w : Walk) → delays_m s w ≡ any_list_m (λ p. eqb (kind_m s p) 2) w.list w.count 0
  unfolding delays_m
  delays_is w = refl

  module _ (x v p : ℕ) {b : ℕ} (d : b ≡ byte_m s p) where
    pub guard_other : (b ≡ 1 → ⊥) → guard_m s x v p ≡ false
    unfolding guard_m
    guard_other h = rw (← d) (rw (ne_eqb b 1 h))

    module _ (h : b ≡ 1) {o y : ℕ} (i : o ≡ past s p 3) (j : y ≡ place_m s o) where
      pub guard_entity : (y ≡ x → ⊥) → guard_m s x v p ≡ false
      unfolding guard_m
      guard_entity k = rw (← d) (rw (eq-eqb b 1 h) (rw (← i) (rw (← j) (rw (ne_eqb y x k)))))

      pub guard_is : {q u : ℕ} → y ≡ x → q ≡ past s p 5 → u ≡ place_m s q → eqb u v ≡ guard_m s x v p
      unfolding guard_m
      guard_is k m n = rw (← d) (rw (eq-eqb b 1 h) (rw (← i) (rw (← j) (rw (eq-eqb y x k) (rw (← m) (rw (← n)))))))

  pub guarded_is : (i : Section) (x v : ℕ) → guarded_m s i x v ≡ any_list_m (guard_m s x v) i.starts i.count 0
  unfolding guarded_m
  guarded_is i x v = refl

  module _ (d : Names) (x v : ℕ) where
    pub unguarded_on : {r : Bool} → v ≡ d.star → r ≡ guarded_m s d.invariants x d.on → not r ≡ true →
        unguarded_m s d x v ≡ true
    unfolding unguarded_m
    unguarded_on {r} h e f = rw (eq-eqb v d.star h) (rw (← e) (pick r f))
      where
        pick : (b : Bool) → not b ≡ true → (if b then not (guarded_m s d.invariants x d.off) else true) ≡ true
        pick true z = let y : ◌≡◌ {A = ℕ} 0 1 = cc in absurd (omega arith)
        pick false z = refl

    pub unguarded_off : {r q : Bool} → v ≡ d.star → r ≡ guarded_m s d.invariants x d.on → not r ≡ false →
        q ≡ guarded_m s d.invariants x d.off → not q ≡ unguarded_m s d x v
    unfolding unguarded_m
    unguarded_off {r} h e f g = rw (eq-eqb v d.star h) (rw (← e) (rw (← g) (pick r f)))
      where
        pick : {y : Bool} → (b : Bool) → not b ≡ false → y ≡ (if b then y else true)
        pick true z = refl
        pick false z = let y : ◌≡◌ {A = ℕ} 0 1 = cc in absurd (omega arith)

    pub unguarded_one : {q : Bool} → (v ≡ d.star → ⊥) → q ≡ guarded_m s d.invariants x v → not q ≡ unguarded_m s d x v
    unfolding unguarded_m
    unguarded_one h g = rw (ne_eqb v d.star h) (rw (← g))

  pub tier_is : (p : ℕ) {o n q : ℕ} → o ≡ past s p 2 → n ≡ place_m s o → q ≡ past s o 2 →
      byte_m s (past s q (2 * n + 2)) ≡ tier_m s p
  unfolding tier_m
  tier_is p a b d = rw (d, b, a)

  stale_is : (p : ℕ) {o n q : ℕ} → o ≡ past s p 2 → n ≡ place_m s o → q ≡ past s o 2 →
      not (eqb (number_m s (past s q (2 * n + 3))) 4294967295) ≡ stale_m s p
  unfolding stale_m
  stale_is p a b d = rw (d, b, a)

  pub tier_at : (p : ℕ) {o n q r b : ℕ} → o ≡ past s p 2 → n ≡ place_m s o → q ≡ past s o 2 → r ≡ past s q (2 * n + 2) →
      b ≡ byte_m s r → b ≡ tier_m s p
  tier_at p a b d e f = f ∙ ap (byte_m s) e ∙ tier_is p a b d

  pub stale_at : (p : ℕ) {o n q r b : ℕ} → o ≡ past s p 2 → n ≡ place_m s o → q ≡ past s o 2 → r ≡ past s q (2 * n + 3) →
      b ≡ number_m s r → not (eqb b 4294967295) ≡ stale_m s p
  stale_at p a b d e f = ap (λ (x : ℕ). not (eqb x 4294967295)) (f ∙ ap (number_m s) e) ∙ stale_is p a b d

module _ (star x v y u : ℕ) where
  pub opposed_other : (x ≡ y → ⊥) → opposed_m star x v y u ≡ false
  unfolding opposed_m
  opposed_other h = rw (ne_eqb x y h)

  pub opposed_values : x ≡ y → (v ≡ u → ⊥) → opposed_m star x v y u ≡ true
  unfolding opposed_m
  opposed_values h k = rw (eq-eqb x y h) (rw (ne_eqb v u k))

  pub opposed_star : x ≡ y → v ≡ u → eqb v star ≡ opposed_m star x v y u
  unfolding opposed_m
  opposed_star h k = rw (eq-eqb x y h) (rw (eq-eqb v u k))

pub greater_yes : (a b : ℕ) → a < b → greater_m a b ≡ b
unfolding greater_m
greater_yes a b h = rw (lt-ltb a b h)

pub greater_no : (a b : ℕ) → b ≤ a → greater_m a b ≡ a
unfolding greater_m
greater_no a b h = rw (le-ltb a b h)

module _ (s : List ℕ) (e : Section) (set : ℕ) where
  pub highest_start : {n : ℕ} → n ≡ e.count → highest_m s e set ≡ highest_from s e set (n - 0) 0 0
  unfolding highest_m
  highest_start {n} h =
      let m : n - 0 ≡ n = omega arith in
      rw (m, h)

  module _ (n k best : ℕ) (h : k < n) {r : Bool} (f : r ≡ holds set k) where
    pub highest_yes : {t b : ℕ} → r ≡ true → t ≡ tier_m s (get_or e.starts k 0) → b ≡ greater_m best t →
        highest_from s e set (n - k) k best ≡ highest_from s e set (n - (k + 1)) (k + 1) b
    unfolding highest_from
    highest_yes i j g =
        let m : n - k ≡ suc (n - (k + 1)) = omega arith in
        rw (g, j) (rw (m, highest_from) (rw (← f) (rw i)))

    pub highest_no : r ≡ false → highest_from s e set (n - k) k best ≡ highest_from s e set (n - (k + 1)) (k + 1) best
    unfolding highest_from
    highest_no i =
        let m : n - k ≡ suc (n - (k + 1)) = omega arith in
        rw (m, highest_from) (rw (← f) (rw i))

  pub highest_end : (n k best : ℕ) → n ≤ k → highest_from s e set (n - k) k best ≡ best
  unfolding highest_from
  highest_end n k best h =
      let m : n - k ≡ 0 = omega arith in
      rw m
