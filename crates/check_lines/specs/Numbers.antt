-- What the eight numbers of a violation say, whatever they are.
use Rattle.std.specs.Prelude.{ℕ, List, eqb, get_or, if◌then◌else◌}
use Rattle.std.proofs.Math.Option.{Option, none, some}
use Rattle.texts.specs.Texts.{Text}
use Rattle.texts.specs.Places.{text_at, start_from}
use Rattle.model_spec.specs.Model.{Source}
use Rattle.bounds.specs.Bounds.{at_most}
use Rattle.checker_spec.specs.Judge.{Failure, prohibited_state, guard_violated, forbidden_transition, deadline_missed}
use Rattle.checker_spec.specs.Check.{Violation}
use Rattle.check_lines.specs.declared.Violated.{Violated}

-- the numbers at the start of an area
unfoldable pub violated_of : List ℕ → Violated
violated_of a = record {
  place = get_or a 0 0;
  second = get_or a 1 0;
  index = get_or a 2 0;
  failure = get_or a 3 0;
  deadline = get_or a 4 0;
  sourced = get_or a 5 0;
  line = get_or a 6 0;
  column = get_or a 7 0;
}

-- the text at a place of the file f; no place is above 65,535
unfoldable pub placed_text : (f : List ℕ) → (place : ℕ) → Text
placed_text f k = text_at f (start_from f 6 (at_most k 65535))

unfoldable pub failure_of : (number deadline : ℕ) → Failure
failure_of k d =
    if eqb k 1 then prohibited_state else
    if eqb k 2 then guard_violated else
    if eqb k 3 then forbidden_transition else
    deadline_missed d

unfoldable pub source_of : (sourced line column : ℕ) → Option Source
source_of s l c = if eqb s 0 then none else some (record { line = l; column = c })

unfoldable pub violation_of : (f : List ℕ) → Violated → Violation
violation_of f v = record {
  invariant = placed_text f v.place;
  at = v.second;
  index = v.index;
  source = source_of v.sourced v.line v.column;
  failure = failure_of v.failure v.deadline;
}
