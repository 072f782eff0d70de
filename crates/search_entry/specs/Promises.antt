-- What the parts of the entry promise.
use Rattle.std.specs.Prelude.{ℕ, ◌+◌, ◌≤◌, ◌≡◌, List, [], length, replicate}
use Rattle.areas.specs.Areas.{area}
use Rattle.model_spec.specs.Answer.{Answer, answer, refused, ◌>>=◌}
use Rattle.model_spec.specs.Model.{Event, Model}
use Rattle.model_spec.specs.Rewrite.{rewritten}
use Rattle.model_spec.specs.Validate.{accepted}
use Rattle.model_index.specs.declared.Index.{Index}
use Rattle.model_index.specs.Indexed.{Indexed}
use Rattle.model_rewrite.specs.Written.{Wrote}
use Rattle.engine_spec.specs.Memory.{Lent}
use Rattle.engine_spec.specs.Records.{Trace}
use Rattle.engine_spec.specs.Words.{words_in}
use Rattle.checker_spec.specs.Check.{Check, checked}
use Rattle.checker_spec.specs.Verify as verify
use Rattle.checker_entry.specs.Contract as check
use Rattle.search_inputs.specs.declared.Placed.{Placed}
use Rattle.search_cases.specs.declared.Search.{Search}
use Rattle.search.specs.Meaning.{cells_of, sizes, Entire, Setting, PlacedAs, Outcome}
use Rattle.search_answer.specs.declared.Verification.{Verification}
use Rattle.search_entry.specs.Contract.{Says, witness_trace, output_after, Verifies}
use Rattle.search_answer.specs.Answer.{WithCheck}

-- ---- the witness

-- its events, and room for its file
pub record Writable (f : List ℕ) (p : Entire) (placed : Placed) (q a u o : ℕ) : Type 0 where
  pub setting : Setting f p q a u
  pub events : List Event
  pub few : length events ≤ 5
  pub placed_as : PlacedAs setting.indexed.ts setting.m events placed
  pub room : length f + 45 ≤ o

pub record Written (f : List ℕ) (vs : List Event) (c : Check) (placed : Placed) (r : WithCheck) (q a u : ℕ) (after : Lent)
    (o o' : List ℕ) : Type 0 where
  pub events : r.events ≡ placed.count
  pub words : r.words ≡ placed.words
  pub written : Wrote (rewritten f vs) r.written o o'
  pub check : check.Shows f r.check c
  pub queue : after.queue ≡ replicate q 0
  pub records : after.records ≡ area (words_in f) a c.simulation.trace
  pub runs : after.runs ≡ replicate u 0

pub record Writes (f : List ℕ) (p : Entire) (placed : Placed) (r : WithCheck) (q a u : ℕ) (after : Lent)
    (o o' : List ℕ) : Type 0 where
  pub does : (x : Setting f p q a u) (vs : List Event) → PlacedAs x.indexed.ts x.m vs placed →
      (c : Check) → checked (sizes q a u) x.m (cells_of x.m) vs ≡ answer c → Written f vs c placed r q a u after o o'

-- ---- after the search

-- how the search ended, and room for a witness's file
pub record Reached (f : List ℕ) (p : Entire) (s : Search) (w : List ℕ) (q a u o : ℕ) : Type 0 where
  pub setting : Setting f p q a u
  pub area : length w ≡ 4000
  pub ending : Answer verify.Search
  pub outcome : Outcome setting ending s w
  pub room : length f + 45 ≤ o

-- the answer that belongs to the end of a search
abbrev pub answer_of : Model → Answer verify.Search → Answer verify.Verification
answer_of m y = y >>= λ s. answer (verify.verification_of m s)

-- a refusal after a search has begun has one of these numbers
abbrev pub Begun : Answer verify.Verification → Type 0
Begun (answer v) = Unit {0}
Begun (refused n) = (41 ≤ n) × (n ≤ 43)

-- the records that the record area then holds
abbrev pub trace_in : Answer verify.Verification → List Trace
trace_in (answer v) = witness_trace v
trace_in (refused n) = []

-- the answer, the areas of q, a and u words, and the output
pub record Ending (f : List ℕ) (r : Verification) (v : Answer verify.Verification) (q a u : ℕ) (after : Lent)
    (o o' : List ℕ) : Type 0 where
  pub says : Says f r v
  pub number : Begun v
  pub queue : after.queue ≡ replicate q 0
  pub records : after.records ≡ area (words_in f) a (trace_in v)
  pub runs : after.runs ≡ replicate u 0
  pub output : o' ≡ output_after f v o

pub record Ends (f : List ℕ) (limits : ℕ) (p : Entire) (s : Search) (w : List ℕ) (r : Verification) (q a u : ℕ)
    (after : Lent)
    (o o' : List ℕ) : Type 0 where
  pub does : (x : Setting f p q a u) → x.index.limits ≡ limits → (y : Answer verify.Search) → Outcome x y s w
      → Ending f r (answer_of x.m y) q a u after o o'

-- ---- the accepted model

pub record Accepted (f : List ℕ) (i : Index) : Type 0 where
  pub m : Model
  pub is_accepted : accepted f ≡ answer m
  pub indexed : Indexed f i m

-- the search of an accepted model
pub record Runs (f : List ℕ) (i : Index) (r : Verification) (q a u : ℕ) (after : Lent) (o o' : List ℕ) : Type 0 where
  pub does : (m : Model) → accepted f ≡ answer m → Indexed f i m
      → Ending f r (verify.verified (sizes q a u) m (cells_of m)) q a u after o o'

pub record Admits (f : List ℕ) (i : Index) (r : Verification) (before after : Lent) (o o' : List ℕ) : Type 0 where
  pub does : (m : Model) → accepted f ≡ answer m → Indexed f i m → Verifies f r before after o o'
