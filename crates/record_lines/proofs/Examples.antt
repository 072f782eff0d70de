-- The lines of two records, computed.
use mathlib.Core.Path.{◌≡◌, refl}
use mathlib.Core.Option.{none, some}
use Rattle.texts.specs.Lists.{all_lists}
use Rattle.texts.specs.Texts.{text, all_texts}
use Rattle.reasons.specs.Reasons.{placed}
use Rattle.engine_spec.specs.Kleene as kleene
use Rattle.engine_spec.specs.Records.{Kind, all_records}
use Rattle.show.specs.Lines as show
use Rattle.record_lines.specs.Lines.{record_line, all_lines}

wrote : record_line 4 (record {
  at = 5;
  kind = Kind.action;
  automation = some (text "lampdoor");
  source = some (record { line = 7; column = 3 });
  change = some (record { entity = text "door"; before = text "locked"; after = text "unlocked" });
}) ≡ text "record 4 5 action \"lampdoor\" 7:3 \"door\" \"locked\" \"unlocked\" \"\"\n"
unfolding all_lines show.all_lines all_lists all_texts all_records placed
wrote = refl

tried : record_line 2 (record {
  at = 5;
  kind = Kind.trigger kleene.Yes;
  automation = some (text "lamp\"door");
  source = some (record { line = 1; column = 1 });
  change = none;
}) ≡ text "record 2 5 trigger \"lamp\\\"door\" 1:1 - - - \"conditions Yes\"\n"
unfolding all_lines show.all_lines all_lists all_texts all_records placed
tried = refl
