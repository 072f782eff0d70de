use mathlib.Core.Path.{◌∙◌, ap}
use mathlib.Core.List.{◌∷◌}
use Rattle.texts.specs.Texts.{Text}
use Rattle.show.proofs.Laws as show
use Rattle.lint_reads_lines.proofs.Laws as laws
use Rattle.lint_reads_lines.proofs.put_text_at.Goals as goal

pub returns-then-place-gt65535 : goal.returns-then-place-gt65535
returns-then-place-gt65535 c = show.is (laws.none_at _ _ c.if-place-gt65535.true) (show.nothing _ _)

pub returns : goal.returns
returns c =
    show.is (ap (λ (l : Text). 32 ∷ l) (laws.quoted_place _ _ _ c.text_start.ensures)
    ∙ laws.some_at _ _ c.if-place-gt65535.false) (show.both c.put_byte-m.ensures
    c.put_quoted_text.ensures)
