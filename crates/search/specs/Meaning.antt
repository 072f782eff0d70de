-- The definition's search, held by the code's: the model behind a plan, the events placed, how far a search has come.
use Rattle.std.specs.Prelude.{ℕ, zero, suc, ◌+◌, ◌/◌, ◌%◌, ◌≤◌, ◌<◌, ◌≡◌, true, false, List, [], ◌∷◌, ◌++◌, ltb, length, get_or}
use Rattle.std.proofs.Math.Option.{Option, none, some}
use Rattle.texts.specs.Texts.{Text, text, sorted_t}
use Rattle.areas.specs.Areas.{area}
use Rattle.reasons.specs.Lists.{Holds}
use Rattle.model_spec.specs.Answer.{Answer, answer, refused, ◌>>=◌}
use Rattle.model_spec.specs.Model.{Input, Event, Model}
use Rattle.model_spec.specs.Validate.{accepted}
use Rattle.model_index.specs.declared.Index.{Index}
use Rattle.model_index.specs.Indexed.{Indexed}
use Rattle.engine_spec.specs.Cells.{Cell, initial_cells}
use Rattle.engine_spec.specs.Records.{Areas}
pub use Rattle.engine_spec.specs.Words.{sizes}
use Rattle.engine_refinement.specs.Events.{Among}
use Rattle.engine_entry.specs.Prepared.{Prepared, prepared_of, PreparedFrom}
use Rattle.checker_spec.specs.Check.{checked}
use Rattle.checker_spec.specs.Verify as verify
use Rattle.checker_entry.specs.Pool.{check_pool}
use Rattle.search_inputs.specs.declared.Alphabet.{Alphabet}
use Rattle.search_inputs.specs.declared.Gaps.{Gaps}
use Rattle.search_inputs.specs.declared.Placed.{Placed}
use Rattle.model_spec.specs.Events.{input_words, event_words}
use Rattle.search_inputs.specs.GapWords.{gap_words}
use Rattle.search_cases.specs.declared.Plan.{Plan}
use Rattle.search_cases.specs.declared.Search.{Search}

abbrev pub none_such : Event
none_such = record { at = 0; input = Input.restart }

abbrev pub cells_of : Model → List Cell
cells_of m = initial_cells m.scenario.entities

-- the reasons that a search may give
unfoldable pub search_pool : Model → List Text
search_pool m = text "search budget exhausted" ∷ check_pool m

-- ---- a plan with the arrays that are lent beside it

pub record Entire : Type 0 where
  pub prepared : Prepared
  pub starts : List ℕ
  pub invariants : ℕ
  pub alphabet : Alphabet
  pub gaps : Gaps
  pub horizon : ℕ
  pub cases : ℕ

abbrev pub entire : Plan → (table starts notes : List ℕ) → Entire
entire p x s w = record {
  prepared = prepared_of x p.shared.cells p.shared.notes w;
  starts = s;
  invariants = p.shared.invariants;
  alphabet = p.alphabet;
  gaps = p.gaps;
  horizon = p.horizon;
  cases = p.cases;
}

-- ---- the model behind it, with areas of q, a and u words

pub record Setting (f : List ℕ) (p : Entire) (q a u : ℕ) : Type 0 where
  pub m : Model
  pub is_accepted : accepted f ≡ answer m
  pub index : Index
  pub starts_are : p.starts ≡ index.invariants.starts
  pub invariants_are : p.invariants ≡ index.invariants.count
  pub indexed : Indexed f index m
  pub bytes : (k : ℕ) → get_or f k 0 < 256
  pub prepared_from : PreparedFrom f index p.prepared
  pub inputs : p.alphabet.count ≡ length m.scenario.alphabet
  pub words : p.alphabet.words ≡ area (input_words indexed.ts) 36 m.scenario.alphabet
  pub gaps : p.gaps.count ≡ length m.scenario.gaps
  pub seconds : p.gaps.seconds ≡ area gap_words 4 m.scenario.gaps
  pub few_inputs : length m.scenario.alphabet ≤ 12
  pub few_gaps : length m.scenario.gaps ≤ 4
  pub short : (k : ℕ) → k < length m.scenario.gaps → get_or m.scenario.gaps k 0 ≤ 86400
  pub horizon : p.horizon ≡ m.scenario.limits.horizon
  pub day_long : m.scenario.limits.horizon ≤ 86400
  pub cases : p.cases ≡ m.scenario.limits.max_cases

-- ---- the events placed so far

-- one of the alphabet
pub record Chosen (l : List Input) (i : Input) : Type 0 where
  pub place : ℕ
  pub inside : place < length l
  pub is : i ≡ get_or l place Input.restart

pub record PlacedAs (ts : List Text) (m : Model) (vs : List Event) (p : Placed) : Type 0 where
  pub count : p.count ≡ length vs
  pub words : p.words ≡ area (event_words ts) 20 vs
  pub chosen : (j : ℕ) → j < length vs → Chosen m.scenario.alphabet (get_or vs j none_such).input

-- ---- how far a search has come

module _ {f : List ℕ} {p : Entire} {q a u : ℕ} (x : Setting f p q a u) where
  -- a witness's events, and its check
  pub record Witnessed (w : verify.Witness) (o : Search) : Type 0 where
    pub found : o.found ≡ true
    pub few : length w.events ≤ 5
    pub placed : PlacedAs x.indexed.ts x.m w.events o.witness
    pub checks : checked (sizes q a u) x.m (cells_of x.m) w.events ≡ answer w.check

  abbrev pub WitnessIs : Option verify.Witness → Search → Type 0
  WitnessIs none o = o.found ≡ false
  WitnessIs (some w) o = Witnessed w o

  pub record Held (s : verify.Search) (o : Search) (w : List ℕ) : Type 0 where
    pub fine : o.refused ≡ 0
    pub cases : o.cases ≡ s.cases
    pub steps : o.steps ≡ s.total_steps
    pub reasons : Holds f (sorted_t s.reasons) o.reasons w
    pub within : Among (search_pool x.m) s.reasons
    pub shortest : o.shortest ≡ s.shortest
    pub stopped : o.stopped ≡ s.stopped
    pub witness : WitnessIs s.witness o

  pub record Refused (n : ℕ) (o : Search) : Type 0 where
    pub number : o.refused ≡ n
    pub low : 41 ≤ n
    pub high : n ≤ 43
    pub stopped : o.stopped ≡ true

  abbrev pub Outcome : Answer verify.Search → Search → List ℕ → Type 0
  Outcome (answer s) o w = Held s o w
  Outcome (refused n) o w = Refused n o

-- ---- the definition's search, as the code walks it

-- k steps, one after another
unfoldable pub walked : (ℕ → verify.Search → Answer verify.Search) → ℕ → verify.Search → Answer verify.Search
walked go zero s = answer s
walked go (suc k) s = walked go k s >>= go k

module _ (areas : Areas) (m : Model) where
  -- a visit, unless the search has stopped or the last event is beyond the horizon
  unfoldable pub guarded : (remaining : ℕ) → verify.Visitor
  guarded n vs s = elim s.stopped [
    | true ↦ answer s
    | false ↦ elim (ltb m.scenario.limits.horizon (verify.last_at vs)) [
      | true ↦ answer s
      | false ↦ verify.visit areas m (cells_of m) n vs s
    ]
  ]

  -- the k-th pair of a gap and an input, as an event behind the others
  unfoldable pub next_event : List Event → (k : ℕ) → Event
  next_event vs k = record {
    at = verify.last_at vs + get_or m.scenario.gaps (k / length m.scenario.alphabet) 0;
    input = get_or m.scenario.alphabet (k % length m.scenario.alphabet) Input.restart;
  }

  -- the visit behind the k-th pair
  unfoldable pub step : (remaining : ℕ) → List Event → (k : ℕ) → verify.Search → Answer verify.Search
  step n vs k = guarded n (vs ++ next_event vs k ∷ [])
