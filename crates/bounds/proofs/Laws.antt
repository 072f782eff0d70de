-- The smaller of two numbers: the library's `min`, and the definition.
use Prim.Native.Nat.{ℕ, ◌≤◌, ◌<◌, min}
use mathlib.Core.Path.{◌≡◌, ◌∙◌}
use borrow.Author.Tests.{le-leb, lt-leb}
use Rattle.texts.proofs.Ordering.{lt_or_ge}
use mathlib.Core.Logic.{◌⊎◌, inl, inr}
use native.Mathlib.Omega.{arith}
use Rattle.bounds.specs.Bounds.{at_most, AtMost}

pub most_yes : (n m : ℕ) → n ≤ m → n ≡ at_most n m
unfolding at_most
most_yes n m h = rw (le-leb n m h)

pub most_no : (n m : ℕ) → m < n → m ≡ at_most n m
unfolding at_most
most_no n m h = rw (lt-leb n m h)

pub min_is : (n m : ℕ) → min n m ≡ at_most n m
min_is n m = go (lt_or_ge m n)
  where
    go : (m < n) ⊎ (n ≤ m) → min n m ≡ at_most n m
    go (inl h) = let e : min n m ≡ m = omega arith in e ∙ most_no n m h
    go (inr h) = let e : min n m ≡ n = omega arith in e ∙ most_yes n m h

-- what the library's `min` answers
pub smaller : {n m r : ℕ} → r ≡ min n m → AtMost n m r
smaller {n} {m} {r} e =
    record { is = e ∙ min_is n m; most = omega arith; inside = omega arith; same = λ k. omega arith }
