-- The laws that the proofs of the cone's names cite.
use mathlib.Core.Path.{◌≡◌, refl, sym, ◌∙◌}
use mathlib.Core.Bool.{Bool, true, false}
use Prim.Native.Nat.{ℕ, suc, ◌+◌, ◌-◌, ◌≤◌, ◌<◌}
use native.Mathlib.Omega.{arith}
use lib.ListN.{get_or, set}
use borrow.Author.Tests.{lt-ltb, le-ltb, le-leb, lt-leb, eq-eqb, ne_eqb}
use Rattle.lint_reach.specs.Sets.{holds}
use Rattle.lint_undeclared.specs.declared.Undeclared.{Undeclared}
use Rattle.cone_names.specs.declared.ConeNames.{ConeNames}
use Rattle.cone_names.specs.Undeclared.{with_m, no_names, read_m, some_m, wanted_m, name_m, from_m, names_m}

module _ (n : ConeNames) (t : ℕ) where
  pub with_place : n.count < 64 → record { count = n.count + 1; list = set n.list n.count t } ≡ with_m n t
  unfolding with_m
  with_place h = rw (lt-ltb n.count 64 h)

  pub with_none : 64 ≤ n.count → n ≡ with_m n t
  unfolding with_m
  with_none h = rw (le-ltb n.count 64 h)

module _ (u : Undeclared) (a t : ℕ) where
  pub read_other : (j : ℕ) → (get_or u.names j 0 ≡ t → ⊥) → false ≡ read_m u a t j
  unfolding read_m
  read_other j h = rw (ne_eqb (get_or u.names j 0) t h)

  pub read_far : (j : ℕ) {i : ℕ} → get_or u.names j 0 ≡ t → i ≡ get_or u.readers j 0 → 32 ≤ i → false ≡ read_m u a t j
  unfolding read_m
  read_far j {i} h d k = rw (← d) (rw (eq-eqb (get_or u.names j 0) t h, le-leb 32 i k))

  pub read_is : (j : ℕ) {i : ℕ} {b : Bool} → get_or u.names j 0 ≡ t → i ≡ get_or u.readers j 0 → i < 32
      → b ≡ holds a i → b ≡ read_m u a t j
  unfolding read_m
  read_is j {i} h d k e = rw (← d) (rw (eq-eqb (get_or u.names j 0) t h, lt-leb 32 i k) e)

  module _ (n j : ℕ) where
    pub some_none : j < n → u.count ≤ j → some_m u a t (n - j) j ≡ false
    unfolding some_m
    some_none h k =
        let m : n - j ≡ suc (n - (j + 1)) = omega arith in
        rw (m, some_m) (rw (le-leb u.count j k))

    pub some_here : {b : Bool} → j < n → j < u.count → b ≡ read_m u a t j → b ≡ true → some_m u a t (n - j) j ≡ true
    unfolding some_m
    some_here h k d e =
        let m : n - j ≡ suc (n - (j + 1)) = omega arith in
        rw (m, some_m) (rw (lt-leb u.count j k, sym d ∙ e))

    pub some_later : {b : Bool} → j < n → j < u.count → b ≡ read_m u a t j → b ≡ false
        → some_m u a t (n - j) j ≡ some_m u a t (n - (j + 1)) (j + 1)
    unfolding some_m
    some_later h k d e =
        let m : n - j ≡ suc (n - (j + 1)) = omega arith in
        rw (m, some_m) (rw (lt-leb u.count j k, sym d ∙ e))

    pub some_end : n ≤ j → some_m u a t (n - j) j ≡ false
    unfolding some_m
    some_end h =
        let m : n - j ≡ 0 = omega arith in
        rw m

  pub wanted_is : wanted_m u a t ≡ some_m u a t (64 - 0) 0
  unfolding wanted_m
  wanted_is = refl

  pub name_yes : (n : ConeNames) {b : Bool} {m : ConeNames} → b ≡ wanted_m u a t → b ≡ true → m ≡ with_m n t
      → m ≡ name_m u a t n
  unfolding name_m
  name_yes n d h e = rw (← d) (rw h e)

  pub name_no : (n : ConeNames) {b : Bool} → b ≡ wanted_m u a t → b ≡ false → n ≡ name_m u a t n
  unfolding name_m
  name_no n d h = rw (← d) (rw h)

module _ (u : Undeclared) (a k t : ℕ) (n : ConeNames) where
  pub from_more : {m : ConeNames} → t < k → m ≡ name_m u a t n → from_m u a (k - t) t n ≡ from_m u a (k - (t + 1)) (t + 1) m
  unfolding from_m
  from_more h e =
      let m : k - t ≡ suc (k - (t + 1)) = omega arith in
      rw (e, m)

  pub from_end : k ≤ t → from_m u a (k - t) t n ≡ n
  unfolding from_m
  from_end h =
      let m : k - t ≡ 0 = omega arith in
      rw m

pub names_is : (u : Undeclared) (a k : ℕ) → names_m u a k ≡ from_m u a (k - 0) 0 no_names
unfolding names_m
names_is u a k =
    let m : k - 0 ≡ k = omega arith in
    rw m
