-- What a simulation begins with: the model's events as words, and the values that its entities start with.
use Rattle.std.specs.Prelude.{ℕ, ◌+◌, ◌-◌, ◌*◌, ◌/◌, ◌%◌, ◌≤◌, ◌<◌, ◌≡◌, List, ltb, eqb, length, get_or, replicate, if◌then◌else◌}
use Rattle.layout.specs.Sizes.{event_word_count}
use Rattle.bounds.specs.Bounds.{at_most}
use Rattle.engine_fields.specs.Fields.{two, four, cap}
use Rattle.model_index.specs.declared.Index.{Index}
use Rattle.engine_state.specs.declared.Cells.{Cells}

-- ---- an input of three words, a kind, an entity and a value; only one that sets has places

unfoldable pub input_part : List ℕ → (p j : ℕ) → ℕ
input_part s p j =
    if eqb j 0 then get_or s p 0 else
    if eqb (get_or s p 0) 0 then (if eqb j 1 then two s (p + 1) else two s (p + 3)) else 0

-- ---- events of four words: a second, and then the input's

unfoldable pub event_part : List ℕ → (p j : ℕ) → ℕ
event_part s p j = if eqb j 0 then four s p else input_part s (p + 4) (j - 1)

-- the k-th word of the events at these positions
unfoldable pub event_from : List ℕ → (starts : List ℕ) → (k : ℕ) → ℕ
event_from s l k = event_part s (cap (get_or l (k / 4) 0)) (k % 4)

pub record EventsOf (s : List ℕ) (i : Index) (l : List ℕ) : Type 0 where
  pub long : length l ≡ event_word_count
  pub words : (k : ℕ) → k < at_most i.events.count 100 * 4 → get_or l k 0 ≡ event_from s i.events.starts k
  pub behind : (k : ℕ) → at_most i.events.count 100 * 4 ≤ k → get_or l k 0 ≡ 0

-- ---- the initial value of the entity at p stands behind its domain

unfoldable pub initial_at : List ℕ → (p : ℕ) → ℕ
initial_at s p = two s (p + 4 + 2 * two s (p + 2))

unfoldable pub value_from : List ℕ → (starts : List ℕ) → (count e : ℕ) → ℕ
value_from s l n e = if ltb e n then initial_at s (cap (get_or l e 0)) else 0

pub record CellsOf (s : List ℕ) (i : Index) (c : Cells) : Type 0 where
  pub values : (e : ℕ) → e < 32 → get_or c.values e 0 ≡ value_from s i.entities.starts i.entities.count e
  pub values_long : length c.values ≡ 32
  pub versions : c.versions ≡ replicate 32 0
