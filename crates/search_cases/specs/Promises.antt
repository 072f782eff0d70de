-- What the parts of the search give, as the code does it.
use Rattle.std.specs.Prelude.{ℕ, ◌+◌, ◌/◌, ◌%◌, ◌≤◌, ◌≡◌, true, false, List, eqb, length, get_or}
use Rattle.layout.specs.Sizes.{incomplete_reasons, simulation_reasons, verdict_reasons}
use Rattle.bounds.specs.Bounds.{AtMost}
use Rattle.texts.specs.Texts.{insert_t}
use Rattle.reasons.specs.Kinds as kinds
use Rattle.reasons.specs.Lists.{listed, insert_all, Clean, Grows}
use Rattle.reasons.specs.Reasons.{render}
use Rattle.model_index.specs.declared.Index.{Index}
use Rattle.engine_fields.specs.Fields.{four, cap, alone}
use Rattle.engine_state.specs.declared.Cells.{Cells}
use Rattle.checker_result.specs.declared.Status.TheVariants as status
use Rattle.search_inputs.specs.declared.Alphabet.{Alphabet}
use Rattle.search_inputs.specs.declared.Gaps.{Gaps}
use Rattle.search_inputs.specs.declared.Placed.{Placed}
use Rattle.search_inputs.specs.Inputs.{AlphabetOf, GapsOf, last_m, Placing}
use Rattle.search_cases.specs.declared.Plan.{Plan}
use Rattle.search_cases.specs.declared.Search.{Search}

-- ---- what a search goes by

-- a limit of the model: 0 horizon, 4 steps, 8 depth, 12 cases
unfoldable pub limit_m : List ℕ → (limits k : ℕ) → ℕ
limit_m f at k = four f (cap at + k)

pub record Plans (f : List ℕ) (i : Index) (c : Cells) (notes : ℕ) (p : Plan) : Type 0 where
  pub cells : p.shared.cells ≡ c
  pub notes_are : p.shared.notes ≡ notes
  pub invariants : p.shared.invariants ≡ i.invariants.count
  pub alphabet : AlphabetOf f i p.alphabet
  pub gaps : GapsOf f i p.gaps
  pub horizon : p.horizon ≡ limit_m f i.limits 0
  pub cases : AtMost (limit_m f i.limits 12) 2000 p.cases

-- the counts' bounds
pub record Fitted (p : Plan) (room : ℕ) : Type 0 where
  pub inputs : p.alphabet.count ≤ 12
  pub gaps : p.gaps.count ≤ 4
  pub cases : p.cases ≤ 2000
  pub area : room ≡ 4000

-- and there is a place for each event that is still to come
pub record Shaped (p : Plan) (placed : Placed) (remaining room : ℕ) : Type 0 where
  pub fitted : Fitted p room
  pub words : length placed.words ≡ 20
  pub events : placed.count + remaining ≤ 5

-- ---- a case

abbrev pub refused_m : Search → (number : ℕ) → Search
refused_m o n = record {
  refused = n;
  cases = o.cases;
  steps = o.steps;
  reasons = o.reasons;
  found = o.found;
  shortest = o.shortest;
  stopped = true;
  witness = o.witness;
}

-- the budget is spent
pub record Spends (f : List ℕ) (o : Search) (w : List ℕ) (r : Search) (w' : List ℕ) : Type 0 where
  pub refused : r.refused ≡ o.refused
  pub cases : r.cases ≡ o.cases
  pub steps : r.steps ≡ o.steps
  pub found : r.found ≡ o.found
  pub shortest : r.shortest ≡ o.shortest
  pub stopped : r.stopped ≡ true
  pub witness : r.witness ≡ o.witness
  pub reasons : o.reasons ≤ verdict_reasons →
      Grows f (Unit {0}) (insert_t (render f (alone kinds.search_spent)) (listed f o.reasons w)) o.reasons w
      r.reasons w'

-- a case was checked: a violation, or its reasons were gathered
pub record Found (o : Search) (placed : Placed) (took : ℕ) (r : Search) : Type 0 where
  pub refused : r.refused ≡ o.refused
  pub cases : r.cases ≡ o.cases + 1
  pub steps : took ≤ 10000 → r.steps ≡ o.steps + took
  pub reasons : r.reasons ≡ o.reasons
  pub found : r.found ≡ true
  pub shortest : r.shortest ≡ eqb o.reasons 0
  pub stopped : r.stopped ≡ true
  pub witness : r.witness ≡ placed

pub record Other (o : Search) (count took : ℕ) (r : Search) : Type 0 where
  pub refused : r.refused ≡ o.refused
  pub cases : r.cases ≡ o.cases + 1
  pub steps : took ≤ 10000 → r.steps ≡ o.steps + took
  pub reasons : r.reasons ≡ count
  pub found : r.found ≡ o.found
  pub shortest : r.shortest ≡ o.shortest
  pub stopped : r.stopped ≡ false
  pub witness : r.witness ≡ o.witness

-- the reasons of a check among the n others, if there are few
abbrev pub Gathers : (f : List ℕ) → (n unknown : ℕ) → (unknowns : List ℕ) → (incomplete : ℕ) → (incompletes : List ℕ)
    → (w : List ℕ) → (r : ℕ) → (w' : List ℕ) → Type 0
Gathers f n k us j ws w r w' =
    n ≤ verdict_reasons → k ≤ verdict_reasons → j ≤ incomplete_reasons →
    length (insert_all (listed f k us) (listed f n w)) ≤ verdict_reasons →
    Grows f (Clean f k us × Clean f j ws) (insert_all (listed f j ws) (insert_all (listed f k us) (listed f n w))) n w r w'

-- ---- the next events

unfoldable pub next_at : Gaps → Alphabet → Placed → (k : ℕ) → ℕ
next_at gs is placed k = cap (last_m placed + get_or gs.seconds (k / is.count) 0)

abbrev pub Nexts : Gaps → Alphabet → Placed → (k : ℕ) → Placed → Type 0
Nexts gs is placed k r = Placing placed (next_at gs is placed k) is (k % is.count) r

-- ---- before the first case

pub record Begins (f : List ℕ) (n : ℕ) (notes w : List ℕ) (r : Search) (w' : List ℕ) : Type 0 where
  pub refused : r.refused ≡ 0
  pub cases : r.cases ≡ 0
  pub steps : r.steps ≡ 0
  pub found : r.found ≡ false
  pub shortest : r.shortest ≡ false
  pub stopped : r.stopped ≡ false
  pub reasons : n ≤ simulation_reasons → Grows f (Clean f n notes) (insert_all (listed f n notes) (listed f 0 w)) 0 w
      r.reasons w'
