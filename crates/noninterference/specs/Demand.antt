-- Demand 3: two accepted models alike in invariants, horizon, start and cone give the same answers about invariants.
use Rattle.std.specs.Prelude.{ℕ, ◌≡◌, true, List, []}
use Rattle.std.proofs.Math.Option.{Option, none, some}
use Rattle.texts.specs.Lists.{all, each, flat}
use Rattle.texts.specs.Texts.{Text, mem_t}
use Rattle.model_spec.specs.Answer.{answer}
use Rattle.model_spec.specs.Model.{Event, Invariant, Model}
use Rattle.model_spec.specs.Validate.{accepted}
use Rattle.engine_spec.specs.Cells.{initial_cells}
use Rattle.engine_spec.specs.Records.{Areas}
use Rattle.engine_spec.specs.Simulate.{Simulation}
use Rattle.checker_spec.specs.Judge.{Reading, read_all, unknown_reasons}
use Rattle.checker_spec.specs.Check.{Check, violation_of, check}
use Rattle.checker_spec.specs.Verify.{Verification, verify}
use Rattle.cone_judge.specs.Reading.{About, about, violation_told, all_told}
use Rattle.noninterference.specs.Alike.{Alike, SameSearch}

-- ---- what a check and a search tell

-- what reading the records of the model's simulation for the invariant gives
unfoldable pub reading_for : Model → Simulation → Invariant → Reading
reading_for m sim i = read_all i (initial_cells m.scenario.entities) sim.trace

-- of each invariant, by the model's simulation
unfoldable pub about_all : Model → Simulation → List About
about_all m sim = each (λ i. about i (reading_for m sim i)) m.scenario.invariants

unfoldable pub witness_events : Verification → Option (List Event)
witness_events v = elim v.witness [ none ↦ none | some w ↦ some w.events ]

-- the incomplete reasons of the witness's check, if there is a witness
unfoldable pub witness_incomplete : Verification → List Text
witness_incomplete v = elim v.witness [ none ↦ [] | some w ↦ w.check.incomplete ]

-- what a check returns is what these readings give: its violations are theirs, in the order of the invariants, and each
-- invariant's own unknown reasons are among those that it lists
pub record OfReadings (m : Model) (c : Check) : Type 0 where
  pub violations : c.violations
      ≡ flat (λ i. violation_of i (reading_for m c.simulation i).failing) m.scenario.invariants
  pub unknown : all (λ i. all (λ t. mem_t t c.unknown) (unknown_reasons i (reading_for m c.simulation i).memory))
      m.scenario.invariants
      ≡ true

pub record SameCheck (m m' : Model) (c c' : Check) : Type 0 where
  pub answers : about_all m c.simulation ≡ about_all m' c'.simulation
  pub returned : each violation_told c.violations ≡ each violation_told c'.violations
  pub readings : OfReadings m c
  pub readings' : OfReadings m' c'

pub record SameVerification (v v' : Verification) : Type 0 where
  pub status : v.status ≡ v'.status
  pub cases : v.cases ≡ v'.cases
  pub events : witness_events v ≡ witness_events v'

-- ---- the claim: two whole model files, each with lent areas of any sizes

-- neither check is refused, neither simulation is incomplete
abbrev pub CheckClaim : (file file' : List ℕ) (m m' : Model) → Type 0
CheckClaim file file' m m' =
    (areas areas' : Areas) (c c' : Check) → check areas file ≡ answer c → check areas' file' ≡ answer c'
    → c.simulation.incomplete ≡ [] → c'.simulation.incomplete ≡ [] → SameCheck m m' c c'

-- neither search is refused, lists a reason or has an incomplete witness
abbrev pub VerifyClaim : (file file' : List ℕ) (m m' : Model) → Type 0
VerifyClaim file file' m m' =
    SameSearch m m' → (areas areas' : Areas) (output output' : ℕ) (v v' : Verification)
    → verify areas output file ≡ answer v → verify areas' output' file' ≡ answer v'
    → v.reasons ≡ [] → v'.reasons ≡ [] → witness_incomplete v ≡ [] → witness_incomplete v' ≡ []
    → SameVerification v v'

-- to be proved
abbrev pub Demand3 : Type 0
Demand3 =
    (file file' : List ℕ) (m m' : Model) → accepted file ≡ answer m → accepted file' ≡ answer m' → Alike m m'
    → CheckClaim file file' m m' × VerifyClaim file file' m m'

-- opens the file, for proofs by computation
unfoldable pub all_demand : Unit {0}
unfolding all_told reading_for about_all witness_events witness_incomplete
all_demand = tt
