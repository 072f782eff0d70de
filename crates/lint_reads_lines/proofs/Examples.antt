-- A line, computed.
use mathlib.Core.Path.{◌≡◌, refl}
use mathlib.Core.List.{[]}
use Rattle.texts.specs.Lists.{all_lists}
use Rattle.texts.specs.Texts.{text, all_texts}
use Rattle.show.specs.Lines as show
use Rattle.lint_words.specs.Lines as words
use Rattle.lint_reads_lines.specs.Lines.{touched_line}

reads : touched_line (text "reads") (text "a") [] ≡ text "reads \"a\" 0\n"
unfolding touched_line words.all_lines all_lists all_texts show.all_lines
reads = refl
