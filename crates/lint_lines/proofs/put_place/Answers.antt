use mathlib.Core.Path.{ap}
use mathlib.Core.List.{◌∷◌}
use Rattle.texts.specs.Texts.{Text}
use Rattle.show.proofs.Laws as show
use Rattle.lint_lines.proofs.Laws as laws
use Rattle.lint_lines.proofs.put_place.Goals as goal

pub returns : goal.returns
returns c =
    show.is (ap (λ (l : Text). 32 ∷ l) (laws.placed_is _ _))
    (show.both c.put_byte-m.ensures c.put_source.ensures)
