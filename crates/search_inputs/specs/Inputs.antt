-- A model's inputs and gaps as words, and the events that a search has placed so far.
use Rattle.std.specs.Prelude.{ℕ, ◌+◌, ◌-◌, ◌*◌, ◌/◌, ◌%◌, ◌<◌, ◌≡◌, List, [], ◌∷◌, ltb, eqb, length, get_or, if◌then◌else◌}
use Rattle.areas.specs.Areas.{written}
use Rattle.model_index.specs.declared.Index.{Index}
use Rattle.bounds.specs.Bounds.{at_most}
use Rattle.engine_fields.specs.Fields.{four, cap}
use Rattle.engine_inputs.specs.Inputs.{input_part}
use Rattle.search_inputs.specs.declared.Alphabet.{Alphabet}
use Rattle.search_inputs.specs.declared.Gaps.{Gaps}
use Rattle.search_inputs.specs.declared.Placed.{Placed}

unfoldable pub input_word : List ℕ → Index → (k : ℕ) → ℕ
input_word s i k =
    if ltb (k / 3) i.alphabet.count then input_part s (cap (get_or i.alphabet.starts (k / 3) 0)) (k % 3) else 0

pub record AlphabetOf (s : List ℕ) (i : Index) (r : Alphabet) : Type 0 where
  pub count : r.count ≡ at_most i.alphabet.count 12
  pub long : length r.words ≡ 36
  pub words : (k : ℕ) → k < 36 → get_or r.words k 0 ≡ input_word s i k

unfoldable pub gap_word : List ℕ → Index → (k : ℕ) → ℕ
gap_word s i k = if ltb k i.gaps.count then four s (cap (get_or i.gaps.starts k 0)) else 0

pub record GapsOf (s : List ℕ) (i : Index) (r : Gaps) : Type 0 where
  pub count : r.count ≡ at_most i.gaps.count 4
  pub long : length r.seconds ≡ 4
  pub seconds : (k : ℕ) → k < 4 → get_or r.seconds k 0 ≡ gap_word s i k

unfoldable pub last_m : Placed → ℕ
last_m p = if eqb p.count 0 then 0 else get_or p.words ((p.count - 1) * 4) 0

-- the words of the j-th input at a second
unfoldable pub placing : (at : ℕ) → Alphabet → (j : ℕ) → List ℕ
placing at a j = at ∷ get_or a.words (j * 3) 0 ∷ get_or a.words (j * 3 + 1) 0 ∷ get_or a.words (j * 3 + 2) 0 ∷ []

pub record Placing (p : Placed) (at : ℕ) (a : Alphabet) (j : ℕ) (r : Placed) : Type 0 where
  pub count : r.count ≡ p.count + 1
  pub words : r.words ≡ written p.words (p.count * 4) (placing at a j)
  pub long : length r.words ≡ length p.words
