-- What `showcheck` writes of an answer of `check`: the texts that `print_check` writes by the contracts of the functions it
-- calls, in the order of its calls.
use Rattle.std.specs.Prelude.{ℕ, zero, suc, ◌+◌, ◌*◌, List, [], ◌++◌, drop}
use Rattle.texts.specs.Texts.{Text, text}
use Rattle.reasons.specs.Reasons.{render}
use Rattle.reasons.specs.Lists.{reason_of}
use Rattle.checker_result.specs.declared.CheckResult.{CheckResult}
use Rattle.checker_result.specs.declared.Status.{Status}
use Rattle.checker_result.specs.declared.Status.TheVariants.{Refused, Unknown, Violation, Incomplete, NoViolationInTrace}
use Rattle.show.specs.Lines as show
use Rattle.simulate_lines.specs.Lines as reason
use Rattle.simulate_lines.specs.Lines.{steps_line, records_line}
use Rattle.record_lines.specs.Lines as engine
use Rattle.check_lines.specs.Lines as checker
use Rattle.check_lines.specs.Lines.{bare_violated, bare_reason}
use Rattle.check_lines.specs.Numbers.{violated_of, violation_of}
use Rattle.print_check.specs.Answer.{first_line}

-- the lines from the k-th on, as many as are left
unfoldable pub lines_from : (line : ℕ → Text) → (k left : ℕ) → Text
lines_from line k zero = []
lines_from line k (suc n) = line k ++ lines_from line (k + 1) n

unfoldable pub violated_lines : (file violated : List ℕ) → (count : ℕ) → Text
violated_lines f a n = lines_from (λ k. bare_violated (violation_of f (violated_of (drop (k * 8) a)))) 0 n

unfoldable pub reason_lines : (word : Text) → (file reasons : List ℕ) → (count : ℕ) → Text
reason_lines w f a n = lines_from (λ k. bare_reason w (render f (reason_of (drop (k * 5) a)))) 0 n

-- a refusal is told by its number only
unfoldable pub behind : Status → Text → Text
behind (Refused n) t = []
behind Unknown t = t
behind Violation t = t
behind Incomplete t = t
behind NoViolationInTrace t = t

-- the lines by what they tell: violations and reasons with their counts
unfoldable pub lines_of : (file : List ℕ) → Status → (steps records : ℕ) → (violated : List ℕ) → (violations : ℕ)
    → (unknowns : List ℕ) → (unknown : ℕ) → (incompletes : List ℕ) → (incomplete : ℕ) → Text
lines_of f st n k vs v us u is i =
    first_line st
    ++ behind st (steps_line n
    ++ (records_line k
    ++ (violated_lines f vs v
    ++ (reason_lines (text "unknown") f us u
    ++ reason_lines (text "incomplete") f is i))))

unfoldable pub printed : (file : List ℕ) → CheckResult → Text
printed f r =
    lines_of f r.status r.simulation.steps r.simulation.records r.violated r.violations r.unknowns
    r.unknown r.incompletes r.incomplete

-- opens the file, for proofs by computation
unfoldable pub all_printed : Unit {0}
unfolding show.all_lines reason.all_lines engine.all_lines checker.all_lines first_line lines_from violated_lines
    reason_lines behind lines_of printed
all_printed = tt
