-- The lent areas by refusal number: 21 and 41 to 43 leave zeros, any other number leaves memory as it came.
-- One law for every entry that is lent the three areas.
use Prim.Native.Nat.{ℕ, ◌≤◌}
use mathlib.Core.Path.{◌≡◌, refl}
use mathlib.Core.Bool.{true, false}
use mathlib.Core.List.{List}
use native.Mathlib.Omega.{arith}
use lib.Dec.{leb, eqb}
use Rattle.texts.proofs.Bool.{and_false}
use Rattle.model_spec.specs.Answer.{refused}
use Rattle.engine_spec.specs.Records.{Trace}
use Rattle.engine_spec.specs.Memory.{Lent, all_zeros, begins, lent_after}
use Rattle.engine_spec.proofs.Lists.{Case, is_true, is_false, case, eqb_eq, le-leb, lt-leb}

eqb_no : (m n : ℕ) → (m ≡ n → ⊥) → eqb m n ≡ false
eqb_no m n h = by (case (eqb m n))
  where
    by : Case (eqb m n) → eqb m n ≡ false
    by (is_true e) = absurd (h (eqb_eq m n e))
    by (is_false e) = e

low : (n : ℕ) → (n ≡ 21 → ⊥) → n ≤ 40 → begins n ≡ false
unfolding begins
low n h k = rw (eqb_no n 21 h, lt-leb 41 n (omega arith))

high : (n : ℕ) → 44 ≤ n → begins n ≡ false
unfolding begins
high n k = rw (eqb_no n 21 (λ e. omega arith), lt-leb n 43 (omega arith)) (and_false (leb 41 n))

middle : (n : ℕ) → 41 ≤ n → n ≤ 43 → begins n ≡ true
unfolding begins
middle n h k = rw (eqb_no n 21 (λ e. omega arith), le-leb 41 n h, le-leb n 43 k)

module _ (enc : Trace → List ℕ) {A : Type 0} (shown : A → List Trace) (l : Lent) where
  abbrev After : ℕ → Lent → Type 0
  After n m = lent_after enc shown (refused n) l ≡ m

  pub record Refusals : Type 0 where
    pub below : (n : ℕ) → n ≤ 20 → After n l
    pub at_21 : After 21 (all_zeros l)
    pub between : (n : ℕ) → 22 ≤ n → n ≤ 40 → After n l
    pub areas : (n : ℕ) → 41 ≤ n → n ≤ 43 → After n (all_zeros l)
    pub above : (n : ℕ) → 44 ≤ n → After n l

  pub refusals : Refusals
  unfolding lent_after
  refusals = record {
    below = λ n h. rw (low n (λ e. omega arith) (omega arith));
    at_21 = unfold begins in refl;
    between = λ n h k. rw (low n (λ e. omega arith) (omega arith));
    areas = λ n h k. rw (middle n h k);
    above = λ n h. rw (high n h);
  }
