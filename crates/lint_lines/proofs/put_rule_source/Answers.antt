use mathlib.Core.Path.{sym, ◌∙◌}
use Rattle.show.proofs.Laws as show
use Rattle.lint_words.proofs.Laws as words
use Rattle.lint_lines.proofs.Laws as laws
use Rattle.lint_lines.proofs.put_rule_source.Goals as goal

pub returns-then-has : goal.returns-then-has
returns-then-has c =
    show.is (laws.rule_placed _ _ _ _ _ _ _ _ c.start_at.ensures c.source_at-source.ensures c.number_at-line.ensures
    c.past.ensures c.number_at-column.ensures ∙ words.chosen _ _ (sym c.has.ensures ∙ c.if-has.true))
    c.put_place.ensures

pub returns : goal.returns
returns c = show.is (words.not_chosen _ _ (sym c.has.ensures ∙ c.if-has.false)) (show.nothing _ _)
