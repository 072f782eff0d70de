-- The components of a closed square, as sets of places.
use Rattle.std.specs.Prelude.{ℕ, zero, suc, ◌+◌, ◌^◌, ◌<◌, ◌≤◌, ◌≡◌, Bool, true, false, List, [], ◌∷◌, length, get_or, take, set, if◌then◌else◌}
use Rattle.std.specs.Int.Bits.{bit_or}
use Rattle.texts.specs.Lists.{each}
use Rattle.lint_spec.specs.Reach.{closure}
use Rattle.lint_spec.specs.Reach as lint
use Rattle.lint_reach.specs.declared.Components.{Components}
use Rattle.lint_reach.specs.Steps.{Square, cell}
use Rattle.lint_reach.specs.Sets.{holds, members, collect}

unfoldable pub both_m : Square → ℕ → ℕ → Bool
both_m r i j = if cell r i j then cell r j i else false

unfoldable pub component_m : Square → (n i : ℕ) → ℕ
component_m r n i = collect (both_m r i) n 0 0

unfoldable pub starts_m : Square → (assigned i : ℕ) → Bool
starts_m r a i = if holds a i then false else cell r i i

unfoldable pub next_m : Square → (n i : ℕ) → Components → Components
next_m r n i c =
    if starts_m r c.assigned i
    then record {
      count = c.count + 1;
      assigned = bit_or c.assigned (component_m r n i);
      sets =
          set c.sets c.count (component_m r n i);
    }
    else c

-- of `left` places from i on
unfoldable pub components_from : Square → (n : ℕ) → (left i assigned : ℕ) → List ℕ
components_from r n zero i a = []
components_from r n (suc left) i a = elim (starts_m r a i) [
  | true ↦ component_m r n i ∷ components_from r n left (i + 1) (bit_or a (component_m r n i))
  | false ↦ components_from r n left (i + 1) a
]

unfoldable pub components_m : Square → (n : ℕ) → List ℕ
components_m r n = components_from r n n 0 0

-- the array's first n rows and columns are the square, and its other cells say no
pub record Copies (start : Square) (n : ℕ) (sq : Square) : Type 0 where
  pub rows : length sq ≡ n
  pub columns : (i : ℕ) → i < n → length (get_or sq i []) ≡ n
  pub same : (i j : ℕ) → i < n → j < n → cell start i j ≡ cell sq i j
  pub row : (i j : ℕ) → cell start i j ≡ true → i < n
  pub column : (i j : ℕ) → cell start i j ≡ true → j < n

-- the sets are the components of the square's closure
pub record Cycles (start : Square) (n : ℕ) (r : Components) : Type 0 where
  pub few : r.count ≤ n
  pub long : length r.sets ≡ 32
  pub small : (k : ℕ) → get_or (take r.count r.sets) k 0 < 2 ^ 32
  pub are : (sq : Square) → Copies start n sq → each members (take r.count r.sets) ≡ lint.components (closure sq)
