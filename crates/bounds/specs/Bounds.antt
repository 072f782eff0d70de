-- The smaller of two numbers.
use Rattle.std.specs.Prelude.{ℕ, ◌≤◌, ◌≡◌, leb, if◌then◌else◌}

unfoldable pub at_most : ℕ → (most : ℕ) → ℕ
at_most n most = if leb n most then n else most

-- r is that number
pub record AtMost (n m r : ℕ) : Type 0 where
  pub is : r ≡ at_most n m
  pub most : r ≤ m
  pub inside : r ≤ n
  pub same : n ≤ m → r ≡ n
