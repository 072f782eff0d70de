-- A few lines, computed.
use mathlib.Core.Path.{◌≡◌, refl}
use mathlib.Core.Bool.{true}
use mathlib.Core.List.{◌++◌}
use Rattle.texts.specs.Lists.{all_lists}
use Rattle.texts.specs.Texts.{text, all_texts}
use Rattle.engine_spec.specs.Reasons.{all_reasons}
use Rattle.show.specs.Lines as show
use Rattle.simulate_lines.specs.Lines.{steps_line, reason_line, incomplete_of, incomplete_lines, final_line, all_lines}

others : steps_line 12 ++ (final_line (text "lamp") (text "on") ++ reason_line (text "1:1: sun"))
    ≡ text "steps 12\nfinal \"lamp\" \"on\"\nreason \"1:1: sun\"\n"
unfolding all_lines show.all_lines all_lists all_texts
others = refl

incomplete : incomplete_lines (incomplete_of 2 true)
    ≡ text "sim-incomplete \"step budget exhausted\"\nsim-incomplete \"active or queued runs beyond observation horizon\"\n"
unfolding all_lines show.all_lines all_lists all_reasons
incomplete = refl
