-- The laws that the proofs of undeclared names cite.
use mathlib.Core.Path.{◌≡◌, refl}
use mathlib.Core.Bool.{Bool, true, false}
use mathlib.Core.List.{List}
use Prim.Native.Nat.{ℕ, suc, ◌+◌, ◌-◌, ◌≤◌, ◌<◌}
use native.Mathlib.Omega.{arith}
use lib.Dec.{eqb}
use lib.ListN.{get_or, set}
use borrow.Author.Tests.{lt-ltb, le-ltb, le-leb, lt-leb, eq-eqb, ne_eqb}
use Rattle.model_parts.specs.declared.Section.{Section}
use Rattle.model_check.specs.Checks.{number_of}
use Rattle.lint_walk.specs.declared.Walk.{Walk}
use Rattle.lint_walk.specs.Raw.{place_m, past, kind_m}
use Rattle.lint_walk.specs.Walks.{walk_by, walk_m}
use Rattle.lint_conditions.specs.Conditions.{any_list_m}
use Rattle.lint_undeclared.specs.declared.Undeclared.{Undeclared}
use Rattle.lint_undeclared.specs.Undeclared.{
  with_m,
  none,
  await_m,
  awaits_m,
  strange_m,
  read_m,
  name_m,
  names_m,
  rule_m,
  rules_m,
  undeclared_m,
}

module _ (u : Undeclared) (i t : ℕ) where
  pub with_place : u.count < 64 → record {
    count = u.count + 1;
    names = set u.names u.count t;
    readers =
        set u.readers u.count i;
  } ≡ with_m u i t
  unfolding with_m
  with_place h = rw (lt-ltb u.count 64 h)

  pub with_none : 64 ≤ u.count → u ≡ with_m u i t
  unfolding with_m
  with_none h = rw (le-ltb u.count 64 h)

module _ (s : List ℕ) where
  module _ (t p : ℕ) {k : ℕ} (d : k ≡ kind_m s p) where
    pub await_other : (k ≡ 5 → ⊥) → await_m s t p ≡ false
    unfolding await_m
    await_other h = rw (← d) (rw (ne_eqb k 5 h))

    pub await_is : {q x : ℕ} → k ≡ 5 → q ≡ past s p 9 → x ≡ place_m s q → eqb x t ≡ await_m s t p
    unfolding await_m
    await_is h e f = rw (← d) (rw (eq-eqb k 5 h) (rw (f, e)))

  pub awaits_is : (w : Walk) (t : ℕ) → awaits_m s w t ≡ any_list_m (await_m s t) w.list w.count 0
  unfolding awaits_m
  awaits_is w t = refl

  module _ (e : Section) (i t : ℕ) (u : Undeclared) {n : ℕ} (f : n ≡ number_of e t s) where
    pub read_declared : n < e.count → u ≡ read_m s e i t u
    unfolding read_m
    read_declared h = rw (← f) (rw (lt-leb e.count n h))

    pub read_is : {v : Undeclared} → e.count ≤ n → v ≡ with_m u i t → v ≡ read_m s e i t u
    unfolding read_m
    read_is h g = rw (← f) (rw (le-leb e.count n h) g)

  module _ (e : Section) (w : Walk) (i t : ℕ) (u : Undeclared) {b : Bool} (d : b ≡ awaits_m s (walk_by w.list w.count) t)
    where
      pub name_yes : {v : Undeclared} → b ≡ true → v ≡ read_m s e i t u → v ≡ name_m s e w i t u
      unfolding name_m strange_m read_m awaits_m
      name_yes h f = rw (← d) (rw h f)

      pub name_no : b ≡ false → u ≡ name_m s e w i t u
      unfolding name_m strange_m awaits_m
      name_no h = rw (← d) (rw h)

  module _ (e : Section) (w : Walk) (i n t : ℕ) (u : Undeclared) where
    pub names_more : {v : Undeclared} → t < n → v ≡ name_m s e w i t u →
        names_m s e w i (n - t) t u ≡ names_m s e w i (n - (t + 1)) (t + 1) v
    unfolding names_m
    names_more h f =
        let m : n - t ≡ suc (n - (t + 1)) = omega arith in
        rw (f, m)

    pub names_end : n ≤ t → names_m s e w i (n - t) t u ≡ u
    unfolding names_m
    names_end h =
        let m : n - t ≡ 0 = omega arith in
        rw m

  pub rule_is : (e rules : Section) (n i : ℕ) (u : Undeclared) {w : Walk} → w ≡ walk_m s (get_or rules.starts i 0) →
      rule_m s e rules n i u ≡ names_m s e w i (n - 0) 0 u
  unfolding rule_m
  rule_is e rules n i u d =
      let m : n - 0 ≡ n = omega arith in
      rw (m, d)

  module _ (e rules : Section) (x n i : ℕ) (u : Undeclared) where
    pub rules_more : {v : Undeclared} → i < n → v ≡ rule_m s e rules x i u →
        rules_m s e rules x (n - i) i u ≡ rules_m s e rules x (n - (i + 1)) (i + 1) v
    unfolding rules_m
    rules_more h f =
        let m : n - i ≡ suc (n - (i + 1)) = omega arith in
        rw (f, m)

    pub rules_end : n ≤ i → rules_m s e rules x (n - i) i u ≡ u
    unfolding rules_m
    rules_end h =
        let m : n - i ≡ 0 = omega arith in
        rw m

  pub all_is : (e rules : Section) (x : ℕ) → undeclared_m s e rules x ≡ rules_m s e rules x (rules.count - 0) 0 none
  unfolding undeclared_m
  all_is e rules x =
      let m : rules.count - 0 ≡ rules.count = omega arith in
      rw m
