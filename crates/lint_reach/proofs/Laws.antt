-- The laws of a run of steps.
use Rattle.std.specs.Prelude.{if◌then◌else◌}
use mathlib.Core.Path.{◌≡◌, refl, ap, ◌∙◌}
use Prim.Native.Nat.{ℕ, zero, suc, ◌+◌, ◌-◌, ◌≤◌, ◌<◌}
use native.Mathlib.Omega.{arith}
use mathlib.Core.Bool.{Bool, true, false, true≢false}
use native.Mathlib.Numerals.{add-one}
use native.Mathlib.Decide.{dec_lt}
use mathlib.Core.List.{List, []}
use lib.ListN.{get_or}
use Rattle.lint_reach.specs.Steps.{Square, cell, when, leads_m, steps, step_cell_m, step_row_m, step_pass_m}

-- the next step, where i of n are done
pub more : (f : ℕ → Square → Square) (n i : ℕ) (r : Square) → i < n →
    steps f (n - i) i r ≡ steps f (n - (i + 1)) (i + 1) (f i r)
unfolding steps
more f n i r h =
    let e : n - i ≡ suc (n - (i + 1)) = omega arith in
    rw e

pub none : (f : ℕ → Square → Square) (n i : ℕ) (r : Square) → n ≤ i → steps f (n - i) i r ≡ r
unfolding steps
none f n i r h =
    let e : n - i ≡ 0 = omega arith in
    rw e

pub when_true : (b : Bool) (x y : Square) → b ≡ true → when b x y ≡ x
when_true b x y e = rw e

pub when_false : (b : Bool) (x y : Square) → b ≡ false → when b x y ≡ y
when_false b x y e = rw e

-- ---- a place that leads nowhere

pub leads_none : (row : List Bool) → false ≡ leads_m row 0
unfolding leads_m
leads_none row = refl

pub leads_here : (row : List Bool) (j : ℕ) → get_or row j false ≡ true → true ≡ leads_m row (j + 1)
unfolding leads_m
leads_here row j e = rw (add-one j, e)

pub leads_on : (row : List Bool) (j : ℕ) {b : Bool} → get_or row j false ≡ false → b ≡ leads_m row j → b ≡ leads_m row (j + 1)
unfolding leads_m
leads_on row j e h = rw (add-one j, e) h

module _ (r : Square) (k : ℕ) where
  below : (n : ℕ) → leads_m (get_or r k []) n ≡ false → (j : ℕ) → j < n → cell r k j ≡ false
  unfolding leads_m
  below zero h j l = absurd (omega arith)
  below (suc n) h j l = cases (cell r k n) refl h (λ g m. below n g j m)
    where
      cases : (b : Bool) → cell r k n ≡ b → (if b then true else leads_m (get_or r k []) n) ≡ false →
          (leads_m (get_or r k []) n ≡ false → j < n → cell r k j ≡ false) → cell r k j ≡ false
      cases true e g f = absurd (true≢false g)
      cases false e g f = elim (dec_lt j n) [ yes m ↦ f g m | no m ↦ let z : j ≡ n = omega arith in ap (cell r k) z ∙ e ]

  module _ (h : (j : ℕ) → j < 32 → cell r k j ≡ false) where
    row_stays : (i n a : ℕ) → n + a ≤ 32 → steps (step_cell_m k i) n a r ≡ r
    unfolding steps
    row_stays i zero a l = refl
    row_stays i (suc n) a l = rw (h a (omega arith)) (row_stays i n (a + 1) (omega arith))

    same_when : (b : Bool) {x : Square} → x ≡ r → when b x r ≡ r
    same_when true e = e
    same_when false e = refl

    square_stays : (n a : ℕ) → steps (step_row_m k) n a r ≡ r
    unfolding steps
    square_stays zero a = refl
    square_stays (suc n) a = ap (steps (step_row_m k) n (a + 1)) (same_when (cell r a k) (row_stays a 32 0 (omega arith)))
        ∙ square_stays n (a + 1)

  -- it adds no way
  pub idle : leads_m (get_or r k []) 32 ≡ false → step_pass_m k r ≡ r
  idle e = square_stays (below 32 e) 32 0
