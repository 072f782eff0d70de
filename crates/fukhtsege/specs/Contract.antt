-- What the entries for C promise: the promise of the entry that they stand for, its answer as numbers, its refusal as the
-- result.
use Rattle.std.specs.Prelude.{ℕ, ◌≤◌, ◌<◌, ◌≡◌, List, length}
use Rattle.engine_spec.specs.Memory.{Lent}
use Rattle.engine_summary.specs.declared.Simulation.{Simulation}
use Rattle.engine_spec.specs.Simulate.{unsupported_of}
use Rattle.engine_entry.specs.declared.Notes.{Notes}
use Rattle.engine_entry.specs.Contract.{NotesSay, Simulates}
use Rattle.checker_result.specs.declared.CheckResult.{CheckResult}
use Rattle.checker_entry.specs.Contract.{Checks}
use Rattle.search_answer.specs.declared.Verification.{Verification}
use Rattle.search_entry.specs.Contract.{Verifies}
use Rattle.reduce_result.specs.declared.Minimized.{Minimized}
use Rattle.reduce_entry.specs.Contract.{Minimizes}
use Rattle.lint_spec.specs.Memory as lint
use Rattle.lint_entry.specs.declared.Report.{Report}
use Rattle.lint_entry.specs.Contract as lints
use Rattle.cone_entry.specs.declared.ConeResult.{ConeResult}
use Rattle.cone_entry.specs.Contract as cones
use Rattle.c_encoding.specs.Numbers.{
  refusal_of,
  notes_in,
  simulation_in,
  check_in,
  verification_in,
  minimized_in,
  report_in,
  cone_in,
}

-- some result r with this promise: n is its refusal, and its numbers stand in the answer
pub record Told {A : Type 0} (Promise : A → Type 0) (refusal : A → ℕ) (numbers : A → List ℕ → List ℕ) (n : ℕ)
    (a a' : List ℕ) : Type 0 where
  pub r : A
  pub promise : Promise r
  pub refused : n ≡ refusal r
  pub answer : a' ≡ numbers r a

-- An answer of fewer than `size` numbers: 47, and lent memory (`Kept`) and the answer are as they came. Otherwise a result
-- is told.
pub record Entry {A : Type 0} (size : ℕ) (Kept : Type 0) (Promise : A → Type 0) (refusal : A → ℕ)
    (numbers : A → List ℕ → List ℕ) (n : ℕ) (a a' : List ℕ) : Type 0 where
  pub short : length a < size → (n ≡ 47) × (Kept × (a' ≡ a))
  pub told : size ≤ length a → Told Promise refusal numbers n a a'

abbrev pub ListsC : (file : List ℕ) → ℕ → (a a' : List ℕ) → Type 0
ListsC f n a a' =
    Entry 1504 (Unit {0}) (λ (r : Notes). NotesSay f r (unsupported_of f)) (λ (r : Notes). r.refused) notes_in n a a'

abbrev pub SimulatesC : (file : List ℕ) → ℕ → (before after : Lent) → (a a' : List ℕ) → Type 0
SimulatesC f n before after a a' =
    Entry 1540 (after ≡ before) (λ (s : Simulation). Simulates f s before after) (λ (s : Simulation). s.refused)
    (λ (s : Simulation). simulation_in 0 s) n a a'

abbrev pub ChecksC : (file : List ℕ) → ℕ → (before after : Lent) → (a a' : List ℕ) → Type 0
ChecksC f n before after a a' =
    Entry 4000 (after ≡ before) (λ (c : CheckResult). Checks f c before after) (λ (c : CheckResult). c.simulation.refused)
    (λ (c : CheckResult). check_in 0 c) n a a'

abbrev pub VerifiesC : (file : List ℕ) → ℕ → (before after : Lent) → (o o' a a' : List ℕ) → Type 0
VerifiesC f n before after o o' a a' =
    Entry 6076 ((after ≡ before) × (o' ≡ o)) (λ (v : Verification). Verifies f v before after o o')
    (λ (v : Verification). refusal_of v.status) verification_in n a a'

abbrev pub MinimizesC : (file : List ℕ) → ℕ → (before after : Lent) → (o o' a a' : List ℕ) → Type 0
MinimizesC f n before after o o' a a' =
    Entry 4408 ((after ≡ before) × (o' ≡ o)) (λ (m : Minimized). Minimizes f m before after o o')
    (λ (m : Minimized). m.refused) minimized_in n a a'

abbrev pub LintsC : (file : List ℕ) → ℕ → (before after : lint.Lent) → (a a' : List ℕ) → Type 0
LintsC f n before after a a' =
    Entry 228 (after ≡ before) (λ (r : Report). lints.Answers f r before after) (λ (r : Report). r.refused) report_in n a a'

abbrev pub ConesC : (file : List ℕ) → ℕ → (a a' : List ℕ) → Type 0
ConesC f n a a' = Entry 68 (Unit {0}) (λ (r : ConeResult). cones.Answers f r) (λ (r : ConeResult). r.refused) cone_in n a a'
