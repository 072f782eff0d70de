use mathlib.Core.Path.{sym, ◌∙◌}
use Rattle.show.proofs.Laws as show
use Rattle.lint_words.proofs.Laws as laws
use Rattle.lint_words.proofs.put_member.Goals as goal

pub returns-then-has : goal.returns-then-has
returns-then-has c =
    show.is (laws.chosen _ _ (sym c.has.ensures ∙ c.if-has.true))
    (show.both c.put_byte-m.ensures c.put_name.ensures)

pub returns : goal.returns
returns c = show.is (laws.not_chosen _ _ (sym c.has.ensures ∙ c.if-has.false)) (show.nothing _ _)
