-- The scope's example of the program `showcheck`, as ShowCheck.antt of specs states it: the definition's answer is computed,
-- and the lines of what its parts say.
use Prim.Native.Nat.{ℕ}
use mathlib.Core.Path.{◌≡◌, refl, ap, ◌∙◌, subst}
use mathlib.Core.List.{List, [], ◌∷◌}
use mathlib.Core.Option.{some}
use lib.ListN.{length}
use Rattle.texts.specs.Texts.{Text, text}
use Rattle.texts.specs.Places.{text_at, start_from}
use Rattle.model_spec.specs.Answer.{Answer, answer, refused}
use Rattle.model_spec.specs.Rewrite.{all_rewrite}
use Rattle.areas.specs.Areas.{area, words}
use Rattle.reasons.specs.Reasons.{placed}
use Rattle.engine_spec.specs.Memory.{entries}
use Rattle.engine_spec.specs.Records.{Areas}
use Rattle.engine_spec.specs.Words.{source_words, texts_in, entry_words, sizes}
use Rattle.engine_spec.proofs.Distinct.{answer_eq, refused_answer}
use Rattle.bounds.specs.Bounds.{at_most}
use Rattle.checker_spec.specs.Check.{Violation, Status, Check, check, all_check}
use Rattle.checker_spec.specs.Judge.{prohibited_state}
use Rattle.checker_result.specs.declared.CheckResult.{CheckResult}
use Rattle.checker_result.specs.declared.Status.TheVariants as status
use Rattle.checker_entry.specs.Contract.{status_as, violation_words, Shows, Says}
use Rattle.check_lines.specs.Numbers.{violated_of, placed_text, failure_of, source_of, violation_of}
use Rattle.check_example.specs.Lampdoor.{lampdoor}
use Rattle.check_example.specs.Printed.{lines_of, printed, all_printed}
use Rattle.check_example.specs.ShowCheck.{scope_lines, ShowCheck}

-- ---- the definition's answer

abbrev nodoor : Violation
nodoor = record {
  invariant = text "nodoor";
  at = 5;
  index = 4;
  source = some (record { line = 7; column = 3 });
  failure = prohibited_state;
}

-- the parts of a check that the lines tell
abbrev Told : Type 0
Told = Status × (ℕ × (ℕ × (List Violation × (List Text × List Text))))

abbrev told : Check → Told
told c = (
  c.status,
  (c.simulation.steps, (length c.simulation.trace, (c.violations, (c.unknown, c.incomplete)))),
)

abbrev expected : Told
expected = (Status.violation, (5, (7, (nodoor ∷ [], ([], [])))))

unfoldable told_by : Answer Check → Answer Told
told_by (answer c) = answer (told c)
told_by (refused n) = refused n

checked : told_by (check (sizes 16380 16380 16380) lampdoor) ≡ answer expected
unfolding all_check lampdoor told_by
checked = refl

-- ---- the lines

abbrev numbers : List ℕ
numbers = area (violation_words (texts_in lampdoor)) 256 (nodoor ∷ [])

-- opens what reads the numbers back, for proofs by computation
unfoldable all_numbers : Unit {0}
unfolding violated_of placed_text failure_of source_of violation_of placed text_at start_from at_most violation_words source_words
    texts_in area words
all_numbers = tt

-- whatever stands behind the last reason
written : (us is : List ℕ) → lines_of lampdoor status.Violation 5 7 numbers 1 us 0 is 0 ≡ scope_lines
unfolding all_check all_rewrite lampdoor all_printed all_numbers
written us is = refl

lines : (r : CheckResult) (c : Check) → Shows lampdoor r c → told c ≡ expected → printed lampdoor r ≡ scope_lines
unfolding printed
lines r c s e =
    (λ j. lines_of lampdoor ((s.status_is ∙ ap (λ (t : Told). status_as t.0) e) j)
    ((s.simulation.steps ∙ ap (λ (t : Told). t.1.0) e) j)
    ((s.simulation.records ∙ ap (λ (t : Told). t.1.1.0) e) j)
    ((s.violated ∙ ap (λ (t : Told). area (violation_words (texts_in lampdoor)) 256 t.1.1.1.0) e) j)
    ((s.violations ∙ ap (λ (t : Told). length t.1.1.1.0) e) j)
    r.unknowns ((s.unknown.many ∙ ap (λ (t : Told). length t.1.1.1.1.0) e) j)
    r.incompletes ((s.incomplete.many ∙ ap (λ (t : Told). length t.1.1.1.1.1) e) j))
    ∙ written r.unknowns r.incompletes

-- ---- the theorem

pub showcheck : ShowCheck
unfolding told_by entries
showcheck r before after lent ch =
    by (check (sizes 16380 16380 16380) lampdoor) checked
    (subst (λ (a : Areas). Says lampdoor r (check a lampdoor)) holds ch.says)
  where
    holds : entries entry_words before ≡ sizes 16380 16380 16380
    holds = rw (lent.queue, lent.records, lent.runs)

    by : (x : Answer Check) → told_by x ≡ answer expected → Says lampdoor r x
        → printed lampdoor r ≡ scope_lines
    by (answer c) e s = lines r c s (answer_eq e)
    by (refused n) e s = absurd (refused_answer e)
