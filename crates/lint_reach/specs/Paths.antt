-- Reach by one or more steps.
use Rattle.std.specs.Prelude.{ℕ, ◌<◌, [], length, get_or, ◌≡◌, true}
use Rattle.lint_reach.specs.Steps.{Square, cell}

-- 32 rows of 32 cells
pub record Full (x : Square) : Type 0 where
  pub rows : length x ≡ 32
  pub cells : (i : ℕ) → i < 32 → length (get_or x i []) ≡ 32

pub data Reaches (e : Square) : ℕ → ℕ → Type 0 where
  edge : {i j : ℕ} → cell e i j ≡ true → Reaches e i j
  joined : {i k j : ℕ} → Reaches e i k → Reaches e k j → Reaches e i j

-- what the closing promises: a cell says yes exactly where there is a way of one or more steps
pub record Closes (e r : Square) : Type 0 where
  pub full : Full r
  pub sound : (i j : ℕ) → cell r i j ≡ true → Reaches e i j
  pub complete : (i j : ℕ) → Reaches e i j → cell r i j ≡ true
