-- How many pass a test, as a list changes.
use Prim.Native.Nat.{ℕ, zero, suc, ◌+◌, ◌≤◌, ◌<◌}
use mathlib.Core.Path.{◌≡◌, refl, sym, ◌∙◌, ap}
use mathlib.Core.Bool.{Bool, true, false, cond, not}
use mathlib.Core.List.{List, [], ◌∷◌, ◌++◌}
use lib.ListN.{length, get_or, take, drop, set}
use borrow.Author.Tests.{eqb-true, ne_eqb}
use native.Mathlib.Omega.{arith}
use Rattle.runs.specs.Lists.{tally, keep}
use Rattle.runs.specs.Runs.{run_of, other}
use Rattle.runs.specs.declared.Run.{Run}

-- one for what passes
abbrev pub one : Bool → ℕ
one b = cond b 1 0

module _ {A : Type 0} (p : A → Bool) where
  first : (x : A) (l : List A) → tally p (x ∷ l) ≡ one (p x) + tally p l
  unfolding tally
  first x l = by (p x)
    where
      by : (b : Bool) → cond b (suc (tally p l)) (tally p l) ≡ one b + tally p l
      by true = omega arith
      by false = omega arith

  pub tally_none : tally p [] ≡ 0
  unfolding tally
  tally_none = refl

  pub tally_more : (l : List A) (x : A) → tally p (l ++ x ∷ []) ≡ tally p l + one (p x)
  tally_more [] x = omega (arith, first x [], tally_none)
  tally_more (y ∷ l) x = omega (arith, first y (l ++ x ∷ []), first y l, tally_more l x)

  pub tally_most : (l : List A) → tally p l ≤ length l
  tally_most [] = omega (arith, tally_none)
  tally_most (y ∷ l) = omega (arith, first y l, tally_most l, at_most (p y))
    where
      at_most : (b : Bool) → one b ≤ 1
      at_most true = omega arith
      at_most false = omega arith

  -- without the one at k
  pub tally_out : (l : List A) (k : ℕ) (d : A) → k < length l →
      tally p l ≡ tally p (take k l ++ drop (suc k) l) + one (p (get_or l k d))
  tally_out [] k d h = absurd (omega arith)
  tally_out (y ∷ l) zero d h = omega (arith, first y l)
  tally_out (y ∷ l) (suc k) d h =
      omega (arith, first y l, first y (take k l ++ drop (suc k) l), tally_out l k d (omega arith))

  -- with another in its place, for which the test is the same
  pub tally_set : (l : List A) (k : ℕ) (d x : A) → k < length l → p x ≡ p (get_or l k d) → tally p (set l k x) ≡ tally p l
  tally_set [] k d x h e = absurd (omega arith)
  tally_set (y ∷ l) zero d x h e = omega (arith, first x l, first y l, ap one e)
  tally_set (y ∷ l) (suc k) d x h e =
      omega (arith, first y (set l k x), first y l, tally_set l k d x (omega arith) e)

-- none of an automation's runs is left, and of any other each
pub dropped_none : (i : ℕ) (l : List Run) → tally (run_of i) (keep (other i) l) ≡ 0
unfolding keep other
dropped_none i [] = tally_none (run_of i)
dropped_none i (x ∷ l) = by (run_of i x) refl (dropped_none i l)
  where
    by : (b : Bool) → run_of i x ≡ b → tally (run_of i) (keep (other i) l) ≡ 0 →
        tally (run_of i) (cond (not b) (x ∷ keep (other i) l) (keep (other i) l)) ≡ 0
    by true e ih = ih
    by false e ih = omega (arith, first (run_of i) x (keep (other i) l), ap one e)

pub dropped_other : (i j : ℕ) → (j ≡ i → ⊥) → (l : List Run) → tally (run_of j) (keep (other i) l) ≡ tally (run_of j) l
unfolding keep other run_of
dropped_other i j ne [] = refl
dropped_other i j ne (x ∷ l) = by (run_of i x) refl (dropped_other i j ne l)
  where
    by : (b : Bool) → run_of i x ≡ b → tally (run_of j) (keep (other i) l) ≡ tally (run_of j) l →
        tally (run_of j) (cond (not b) (x ∷ keep (other i) l) (keep (other i) l)) ≡ tally (run_of j) (x ∷ l)
    by true e ih =
        let a : x.automation ≡ i = eqb-true x.automation i e in
        let no : run_of j x ≡ false = ne_eqb x.automation j (λ g. ne (sym g ∙ a)) in
        omega (arith, first (run_of j) x l, ap one no, ih)
    by false e ih = omega (arith, first (run_of j) x l, first (run_of j) x (keep (other i) l), ih)
