-- The closing of a square by three nested loops, step by step.
use Rattle.std.specs.Prelude.{ℕ, zero, suc, ◌+◌, List, [], Bool, true, false, get_or, set, if◌then◌else◌}

abbrev pub Square : Type 0
Square = List (List Bool)

abbrev pub cell : Square → ℕ → ℕ → Bool
cell r i j = get_or (get_or r i []) j false

abbrev pub put : Square → ℕ → ℕ → Square
put r i j = set r i (set (get_or r i []) j true)

abbrev pub when : Bool → Square → Square → Square
when true a b = a
when false a b = b

-- whether a row leads to a place below n
unfoldable pub leads_m : List Bool → (n : ℕ) → Bool
leads_m row zero = false
leads_m row (suc j) = if get_or row j false then true else leads_m row j

-- n steps from a on
unfoldable pub steps : (ℕ → Square → Square) → ℕ → ℕ → Square → Square
steps f zero a r = r
steps f (suc n) a r = steps f n (a + 1) (f a r)

abbrev pub step_cell_m : ℕ → ℕ → ℕ → Square → Square
step_cell_m k i j r = when (cell r k j) (put r i j) r

abbrev pub step_row_m : ℕ → ℕ → Square → Square
step_row_m k i r = when (cell r i k) (steps (step_cell_m k i) 32 0 r) r

abbrev pub step_pass_m : ℕ → Square → Square
step_pass_m k r = steps (step_row_m k) 32 0 r

unfoldable pub closed : Square → Square
closed r = steps step_pass_m 32 0 r
