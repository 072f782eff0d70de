-- Demand 3 of what `check` and `verify` return. An answer names texts by their places in its own file, so two answers are
-- compared by the texts at those places.
use Rattle.std.specs.Prelude.{ℕ, ◌+◌, ◌*◌, ◌<◌, ◌≡◌, false, List, [], get_or}
use Rattle.texts.specs.Texts.{Text}
use Rattle.model_spec.specs.Answer.{answer}
use Rattle.model_spec.specs.Model.{Model}
use Rattle.model_spec.specs.Validate.{accepted}
use Rattle.reasons.specs.Lists.{listed}
use Rattle.engine_spec.specs.Memory.{Lent, entries}
use Rattle.engine_spec.specs.Words.{texts_in, entry_words}
use Rattle.checker_spec.specs.Check.{Check, check}
use Rattle.checker_result.specs.declared.CheckResult.{CheckResult}
use Rattle.checker_result.specs.declared.Status.TheVariants as status
use Rattle.checker_entry.specs.Contract.{Checks}
use Rattle.search_answer.specs.declared.Found.TheVariants as found
use Rattle.search_answer.specs.declared.Verification.{Verification}
use Rattle.search_entry.specs.Contract.{Verifies}
use Rattle.noninterference.specs.Alike.{Alike, SameSearch}
use Rattle.noninterference.specs.Demand.{SameCheck}

-- the j-th of the eight numbers of an answer's k-th violation (docs/FORMAT.md)
abbrev pub number_at : CheckResult → (k j : ℕ) → ℕ
number_at r k j = get_or r.violated (k * 8 + j) 0

-- the invariant that it names
abbrev pub invariant_at : (file : List ℕ) → CheckResult → (k : ℕ) → Text
invariant_at f r k = get_or (texts_in f) (number_at r k 0) []

-- The two answers' k-th violations are of one invariant and of one kind (number 3). A missed response (kind 4) has the same
-- deadline (number 4), any other failure the same second (number 1) and source (numbers 5 to 7). The record's index
-- (number 2) may differ.
pub record SameViolation (f f' : List ℕ) (r r' : CheckResult) (k : ℕ) : Type 0 where
  pub invariant : invariant_at f r k ≡ invariant_at f' r' k
  pub kind : number_at r k 3 ≡ number_at r' k 3
  pub deadline : number_at r k 4 ≡ number_at r' k 4
  pub second : (number_at r k 3 ≡ 4 → ⊥) → number_at r k 1 ≡ number_at r' k 1
  pub source : (number_at r k 3 ≡ 4 → ⊥) → (j : ℕ) → j < 3 → number_at r k (5 + j) ≡ number_at r' k (5 + j)

-- what an answer's reasons say is what the definition's check lists
pub record Returns (f : List ℕ) (before : Lent) (r : CheckResult) (c : Check) : Type 0 where
  pub is : check (entries entry_words before) f ≡ answer c
  pub unknown : listed f r.unknown r.unknowns ≡ c.unknown

pub record SameReturned (m m' : Model) (f f' : List ℕ) (before before' : Lent) (r r' : CheckResult) : Type 0 where
  pub c : Check
  pub c' : Check
  pub returns : Returns f before r c
  pub returns' : Returns f' before' r' c'
  -- of each invariant, failing or not: the same, and its own reasons are among those listed
  pub invariants : SameCheck m m' c c'
  pub count : r.violations ≡ r'.violations
  pub violations : (k : ℕ) → k < r.violations → SameViolation f f' r r' k

-- the answer isn't refused and its simulation isn't incomplete
pub record Complete (r : CheckResult) : Type 0 where
  pub answered : (n : ℕ) → r.status ≡ status.Refused n → ⊥
  pub stopped : r.simulation.stop_reason ≡ 0
  pub runs_left : r.simulation.runs_left ≡ false

-- ---- what `verify` returns

-- the j-th of the four words of the k-th event of an answer's witness (docs/FORMAT.md)
abbrev pub event_word : Verification → (k j : ℕ) → ℕ
event_word r k j = get_or r.words (k * 4 + j) 0

-- the text that it names
abbrev pub event_text : (file : List ℕ) → Verification → (k j : ℕ) → Text
event_text f r k j = get_or (texts_in f) (event_word r k j) []

-- The two witnesses' k-th events are at one second (word 0) and of one kind (word 1). If they set (kind 0), they set one
-- entity (word 2) to one value (word 3).
pub record SameEvent (f f' : List ℕ) (r r' : Verification) (k : ℕ) : Type 0 where
  pub second : event_word r k 0 ≡ event_word r' k 0
  pub kind : event_word r k 1 ≡ event_word r' k 1
  pub entity : event_word r k 1 ≡ 0 → event_text f r k 2 ≡ event_text f' r' k 2
  pub value : event_word r k 1 ≡ 0 → event_text f r k 3 ≡ event_text f' r' k 3

pub record SameFound (f f' : List ℕ) (r r' : Verification) : Type 0 where
  pub status : r.status ≡ r'.status
  pub cases : r.cases ≡ r'.cases
  -- the witnesses' events; none without a witness
  pub count : r.events ≡ r'.events
  pub events : (k : ℕ) → k < r.events → SameEvent f f' r r' k

-- the answer isn't refused, lists no reason, and its witness's check, if there is one, has no incomplete reason
pub record Clear (r : Verification) : Type 0 where
  pub answered : (n : ℕ) → r.status ≡ found.Refused n → ⊥
  pub reasons : r.reasons ≡ 0
  pub complete : r.check.incomplete ≡ 0

-- ---- the claim: two whole files, each with any lent areas and output

pub record Returned (f f' : List ℕ) (m m' : Model) : Type 0 where
  -- whatever `check` returns, as its contract has it
  pub checks : (r r' : CheckResult) (before after before' after' : Lent)
      → Checks f r before after → Checks f' r' before' after'
      → Complete r → Complete r' → SameReturned m m' f f' before before' r r'
  -- whatever `verify` returns, if the search settings are the same
  pub searches : SameSearch m m' → (r r' : Verification) (before after before' after' : Lent) (o o₁ o' o₁' : List ℕ)
      → Verifies f r before after o o₁ → Verifies f' r' before' after' o' o₁'
      → Clear r → Clear r' → SameFound f f' r r'

-- to be proved
abbrev pub Demand3Returned : Type 0
Demand3Returned =
    (f f' : List ℕ) (m m' : Model) → accepted f ≡ answer m → accepted f' ≡ answer m' → Alike m m' → Returned f f' m m'
