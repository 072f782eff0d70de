-- What is told of an invariant: that it holds, or why, when and from which source it fails.
use Rattle.std.specs.Prelude.{ℕ, List}
use Rattle.std.proofs.Math.Option.{Option, none, some}
use Rattle.texts.specs.Texts.{Text}
use Rattle.model_spec.specs.Model.{Source, Invariant}
use Rattle.checker_spec.specs.Judge.{
  Failure,
  prohibited_state,
  guard_violated,
  forbidden_transition,
  deadline_missed,
  Reading,
  unknown_reasons,
}
use Rattle.checker_spec.specs.Check.{Violation}

-- the failure, its second and its source; of a missed response the deadline alone
pub data Told : Type 0 where
  failed : (failure : Failure) (at : ℕ) (source : Option Source) → Told
  missed : (deadline : ℕ) → Told

unfoldable pub told : Failure → (at : ℕ) → Option Source → Told
told prohibited_state at src = failed prohibited_state at src
told guard_violated at src = failed guard_violated at src
told forbidden_transition at src = failed forbidden_transition at src
told (deadline_missed d) at src = missed d

-- the unknown reasons count unless it's a failed response
pub data About : Type 0 where
  holds : (unknown : List Text) → About
  fails : (failure : Failure) (at : ℕ) (source : Option Source) (unknown : List Text) → About
  late : (deadline : ℕ) → About

unfoldable pub about_failing : Told → (unknown : List Text) → About
about_failing (failed y at src) us = fails y at src us
about_failing (missed d) us = late d

unfoldable pub about : Invariant → Reading → About
about i r = elim r.failing [
  | none ↦ holds (unknown_reasons i r.memory)
  | some f ↦ about_failing (told f.failure f.at f.source) (unknown_reasons i r.memory)
]

unfoldable pub violation_told : Violation → Text × Told
violation_told v = (v.invariant, told v.failure v.at v.source)

-- opens the file, for proofs by computation
unfoldable pub all_told : Unit {0}
unfolding told about_failing about violation_told
all_told = tt
