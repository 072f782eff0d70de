-- A few lines, computed.
use mathlib.Core.Path.{◌≡◌, refl}
use mathlib.Core.List.{◌++◌}
use mathlib.Core.Option.{none, some}
use Rattle.texts.specs.Lists.{all_lists}
use Rattle.texts.specs.Texts.{text, all_texts}
use Rattle.reasons.specs.Reasons.{placed}
use Rattle.checker_spec.specs.Judge.{prohibited_state, deadline_missed, message}
use Rattle.checker_spec.specs.Check.{Violation, Status, status_name}
use Rattle.show.specs.Lines as show
use Rattle.simulate_lines.specs.Lines as reason
use Rattle.record_lines.specs.Lines as engine
use Rattle.check_lines.specs.Lines.{status_line, bare_violated, full_violated, bare_reason, full_reason, all_lines}

-- of the scope's example
nodoor : Violation
nodoor = record {
  invariant = text "nodoor";
  at = 5;
  index = 4;
  source = some (record { line = 7; column = 3 });
  failure =
      prohibited_state;
}

bare : status_line Status.violation ++ bare_violated nodoor ≡ text "status violation\nviolated nodoor 5 4 7:3\n"
unfolding nodoor all_lines engine.all_lines show.all_lines all_lists all_texts status_name placed
bare = refl

full : full_violated nodoor ≡ text "violated \"nodoor\" 5 4 7:3 \"prohibited state reached\"\n"
unfolding nodoor all_lines engine.all_lines show.all_lines all_lists all_texts message placed
full = refl

late : full_violated (record {
  invariant = text "in\"time";
  at = 16;
  index = 9;
  source = none;
  failure =
      deadline_missed 15;
})
    ≡ text "violated \"in\\\"time\" 16 9 - \"response deadline 15 missed\"\n"
unfolding all_lines engine.all_lines show.all_lines all_lists all_texts message
late = refl

reasons : bare_reason (text "unknown") (text "1:1: a\"b") ++ full_reason (text "incomplete") (text "1:1: a\"b")
    ≡ text "unknown 1:1: a\"b\nincomplete \"1:1: a\\\"b\"\n"
unfolding all_lines reason.all_lines show.all_lines all_lists
reasons = refl
