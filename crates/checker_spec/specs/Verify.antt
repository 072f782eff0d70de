-- check.rs: the bounded search for a violation.
use Rattle.std.specs.Prelude.{ℕ, zero, suc, ◌+◌, Bool, true, false, ◌||◌, List, [], ◌∷◌, ◌++◌, ltb, leb, length, if◌then◌else◌}
use Rattle.std.proofs.Math.Option.{Option, none, some}
use Rattle.texts.specs.Lists.{is_empty, all_lists}
use Rattle.texts.specs.Texts.{Text, text, sorted_t, all_texts}
use Rattle.model_spec.specs.Answer.{Answer, answer, ◌>>=◌, ◌and◌, ◌when◌, all_answers}
use Rattle.model_spec.specs.Model.{Input, Event, Model}
use Rattle.model_spec.specs.Validate.{accepted, all_checks}
use Rattle.model_spec.specs.Rewrite.{rewritten, all_rewrite}
use Rattle.engine_spec.specs.Cells.{Cell, initial_cells, all_cells}
use Rattle.engine_spec.specs.Records.{Areas}
use Rattle.engine_spec.specs.Unsupported.{unsupported, all_unsupported}
use Rattle.checker_spec.specs.Check.{Check, is_violation, checked, all_check}

-- a witness: its events and its check
pub record Witness : Type 0 where
  pub events : List Event
  pub check : Check

-- how far a search has come
pub record Search : Type 0 where
  pub cases : ℕ
  pub total_steps : ℕ
  pub reasons : List Text
  pub witness : Option Witness
  pub shortest : Bool
  pub stopped : Bool

pub data Found : Type 0 where
  no_counterexample_within_bounds counterexample inconclusive : Found

-- as Rust writes it
unfoldable pub found_name : Found → Text
found_name no_counterexample_within_bounds = text "no_counterexample_within_bounds"
found_name counterexample = text "counterexample"
found_name inconclusive = text "inconclusive"

-- the answer; Rust repeats the model's settings in it
pub record Verification : Type 0 where
  pub status : Found
  pub cases : ℕ
  pub total_steps : ℕ
  pub depth : ℕ
  pub horizon : ℕ
  pub alphabet : List Input
  pub gaps : List ℕ
  pub max_cases : ℕ
  pub max_steps_per_case : ℕ
  pub reasons : List Text
  pub witness : Option Witness
  pub shortest : Bool

-- the second of the last event, 0 if there is none
unfoldable pub last_at : List Event → ℕ
last_at [] = 0
last_at (e ∷ []) = e.at
last_at (e ∷ f ∷ l) = last_at (f ∷ l)

-- the search after a case that was checked
unfoldable pub after_case : List Event → Check → Search → Search
after_case events c o =
    let found = is_violation c.status in
    record {
      cases = o.cases + 1;
      total_steps = o.total_steps + c.simulation.steps;
      reasons = if found then o.reasons else sorted_t (o.reasons ++ c.unknown ++ c.incomplete);
      witness = if found then some (record { events = events; check = c }) else o.witness;
      shortest = if found then is_empty o.reasons else o.shortest;
      stopped = found;
    }

unfoldable pub out_of_budget : Search → Search
out_of_budget o = record {
  cases = o.cases;
  total_steps = o.total_steps;
  reasons = o.reasons ++ text "search budget exhausted" ∷ [];
  witness = o.witness;
  shortest = o.shortest;
  stopped = true;
}

-- the search that goes on only if it has not stopped: Rust's `if visit(..)? { return Ok(true); }`
unfoldable pub unless_stopped : (Search → Answer Search) → Search → Answer Search
unless_stopped go o = elim o.stopped [ true ↦ answer o | false ↦ go o ]

-- what is done with the events placed so far
abbrev pub Visitor : Type 0
Visitor = List Event → Search → Answer Search

-- each input at one second, and then what `go` does with the events so far
unfoldable pub each_input : (go : Visitor) → List Event → (at : ℕ) → List Input → Search → Answer Search
each_input go events at [] o = answer o
each_input go events at (i ∷ is) o = do
  next ← unless_stopped (go (events ++ record { at = at; input = i } ∷ [])) o
  each_input go events at is next

-- each gap behind the last event that stays within the horizon, with each input
unfoldable pub each_gap : (go : Visitor) → List Event → (horizon : ℕ) → List Input → List ℕ → Search → Answer Search
each_gap go events horizon inputs [] o = answer o
each_gap go events horizon inputs (g ∷ gs) o = do
  next ← elim (ltb horizon (last_at events + g)) [
    | true ↦ answer o
    | false ↦ each_input go events (last_at events + g) inputs o
  ]
  each_gap go events horizon inputs gs next

module _ (areas : Areas) (m : Model) (cells : List Cell) where
  unfoldable pub try_case : Visitor
  try_case events o =
      elim (leb m.scenario.limits.max_cases o.cases || leb 200000 o.total_steps) [
        | true ↦ answer (out_of_budget o)
        | false ↦ checked areas m cells events >>= λ c. answer (after_case events c o)
      ]

  -- `remaining` more events are placed, and then the case is checked
  unfoldable pub visit : (remaining : ℕ) → Visitor
  visit zero events o = try_case events o
  visit (suc n) events o =
      each_gap (visit n) events m.scenario.limits.horizon m.scenario.alphabet m.scenario.gaps o

  -- the depths from d on, as many as are left
  unfoldable pub deepen : (left d : ℕ) → Search → Answer Search
  deepen zero d o = answer o
  deepen (suc k) d o = do
    next ← unless_stopped (visit d []) o
    deepen k (d + 1) next

  unfoldable pub searched : Answer Search
  searched = deepen (m.scenario.limits.search_depth + 1) 0
      (record {
        cases = 0;
        total_steps = 0;
        reasons = unsupported m.rules;
        witness = none;
        shortest = false;
        stopped = false;
      })

unfoldable pub found_of : Option Witness → (reasons : List Text) → Found
found_of (some w) rs = counterexample
found_of none [] = no_counterexample_within_bounds
found_of none (r ∷ rs) = inconclusive

unfoldable pub verification_of : Model → Search → Verification
verification_of m o =
    let reasons = sorted_t o.reasons in
    let limits = m.scenario.limits in
    record {
      status = found_of o.witness reasons;
      cases = o.cases;
      total_steps = o.total_steps;
      depth = limits.search_depth;
      horizon = limits.horizon;
      alphabet = m.scenario.alphabet;
      gaps = m.scenario.gaps;
      max_cases = limits.max_cases;
      max_steps_per_case = limits.max_steps;
      reasons = reasons;
      witness = o.witness;
      shortest = o.shortest;
    }

-- of an accepted model, from given cells
unfoldable pub verified : Areas → Model → List Cell → Answer Verification
verified areas m cells = do
  o ← searched areas m cells
  answer (verification_of m o)

-- a witness file may be up to 45 bytes longer than its input: the output has no room for one
unfoldable pub short_of_room : (output : ℕ) → (file : List ℕ) → Bool
short_of_room output file = ltb output (length file + 45)

-- the entry; 20: no invariant; 44: the output is too short
unfoldable pub verify : Areas → (output : ℕ) → (file : List ℕ) → Answer Verification
verify areas output file = do
  m ← accepted file
  20 when is_empty m.scenario.invariants and 44 when short_of_room output file
      and verified areas m (initial_cells m.scenario.entities)

-- what the output then holds: the file with the witness's events, if there is a witness
unfoldable pub witness_file : (file : List ℕ) → Verification → Option (List ℕ)
witness_file file v = elim v.witness [ none ↦ none | some w ↦ some (rewritten file w.events) ]

-- opens the file, for proofs by computation
unfoldable pub all_verify : Unit {0}
unfolding all_lists all_texts all_answers all_checks all_cells all_unsupported all_rewrite all_check found_name last_at
    after_case out_of_budget unless_stopped try_case each_input each_gap visit deepen searched found_of verification_of
    verified short_of_room verify witness_file
all_verify = tt
