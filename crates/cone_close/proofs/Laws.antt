-- The laws that the proofs of the rounds cite.
use mathlib.Core.Path.{◌≡◌, sym, ap, ◌∙◌}
use mathlib.Core.Bool.{Bool, true, false, not}
use mathlib.Core.List.{List}
use Prim.Native.Nat.{ℕ, suc, ◌+◌, ◌-◌, ◌^◌, ◌≤◌, ◌<◌}
use native.Mathlib.Omega.{arith}
use lib.Bits.{bit_and, bit_or}
use lib.Dec.{eqb}
use lib.ListN.{get_or}
use borrow.Author.Tests.{lt-ltb, le-ltb}
use Rattle.lint_reach.specs.Sets.{holds}
use Rattle.cone_close.specs.declared.ConeSets.{ConeSets}
use Rattle.cone_close.specs.Rounds.{adds_m, first_m, taken_m, round_m, rounds_m, closed_m}

module _ (writes : List ℕ) (c : ConeSets) where
  pub adds_no : (i : ℕ) {b : Bool} → b ≡ holds c.automations i → b ≡ true → false ≡ adds_m writes c i
  unfolding adds_m
  adds_no i d h = rw (sym d ∙ h)

  pub adds_is : (i : ℕ) {b : Bool} → b ≡ holds c.automations i → b ≡ false
      → not (eqb (bit_and (get_or writes i 0) c.entities) 0) ≡ adds_m writes c i
  unfolding adds_m
  adds_is i d h = rw (sym d ∙ h)

  pub first_here : (n i : ℕ) {b : Bool} → i < n → b ≡ adds_m writes c i → b ≡ true → first_m writes c (n - i) i ≡ i
  unfolding first_m
  first_here n i h d e =
      let m : n - i ≡ suc (n - (i + 1)) = omega arith in
      rw (m, first_m) (rw (sym d ∙ e))

  pub first_later : (n i : ℕ) {b : Bool} → i < n → b ≡ adds_m writes c i → b ≡ false
      → first_m writes c (n - i) i ≡ first_m writes c (n - (i + 1)) (i + 1)
  unfolding first_m
  first_later n i h d e =
      let m : n - i ≡ suc (n - (i + 1)) = omega arith in
      rw (m, first_m) (rw (sym d ∙ e))

  pub first_end : (n i : ℕ) → n ≤ i → first_m writes c (n - i) i ≡ i
  unfolding first_m
  first_end n i h =
      let m : n - i ≡ 0 = omega arith in
      rw m

  pub first_start : (n : ℕ) → first_m writes c n 0 ≡ first_m writes c (n - 0) 0
  first_start n =
      let m : n - 0 ≡ n = omega arith in
      rw m

  pub round_yes : (needs : List ℕ) (n : ℕ) {k a : ℕ} → k ≡ first_m writes c n 0 → k < n → a ≡ bit_or c.automations (2 ^ k)
      → record { entities = bit_or c.entities (get_or needs k 0); automations = a } ≡ round_m writes needs n c
  unfolding round_m taken_m
  round_yes needs n {k} d h e = rw (← d) (rw (lt-ltb k n h) (rw e))

  pub round_no : (needs : List ℕ) (n : ℕ) {k : ℕ} → k ≡ first_m writes c n 0 → n ≤ k → c ≡ round_m writes needs n c
  unfolding round_m
  round_no needs n {k} d h = rw (← d) (rw (le-ltb k n h))

module _ (writes needs : List ℕ) (n : ℕ) where
  pub rounds_more : (k : ℕ) (c : ConeSets) {d : ConeSets} → k < n → d ≡ round_m writes needs n c
      → rounds_m writes needs n (n - k) c ≡ rounds_m writes needs n (n - (k + 1)) d
  unfolding rounds_m
  rounds_more k c h e =
      let m : n - k ≡ suc (n - (k + 1)) = omega arith in
      rw (m, rounds_m) (ap (rounds_m writes needs n (n - (k + 1))) (sym e))

  pub rounds_end : (k : ℕ) (c : ConeSets) → n ≤ k → rounds_m writes needs n (n - k) c ≡ c
  unfolding rounds_m
  rounds_end k c h =
      let m : n - k ≡ 0 = omega arith in
      rw m

  pub closed_is : (x : ℕ) → closed_m writes needs n x ≡ rounds_m writes needs n (n - 0)
      (record { entities = x; automations = 0 })
  unfolding closed_m
  closed_is x =
      let m : n - 0 ≡ n = omega arith in
      rw m
