use borrow.Author.Rules.{rules}
use mathlib.Core.Path.{sym, ap, ◌∙◌}
use Rattle.engine_table.proofs.Laws as laws
use Rattle.engine_table.proofs.rule_word.Goals as goal

pub returns-in-0 : goal.returns-in-0
returns-in-0 c = c.two_at.ensures.0 ∙ sym (laws.word_0 _ _ _ _ c.in-0.is)

pub returns-in-1 : goal.returns-in-1
returns-in-1 c = c.byte_at.ensures.0 ∙ sym (laws.word_1 _ _ _ _ c.in-1.is)

pub returns-in-2 : goal.returns-in-2
returns-in-2 c = c.four_at.ensures ∙ sym (laws.word_2 _ _ _ _ c.in-2.is)

pub returns-in-3 : goal.returns-in-3
returns-in-3 c = c.capped.ensures ∙ sym (laws.word_3 _ _ _ _ c.in-3.is)

pub returns-in-4 : goal.returns-in-4
returns-in-4 c =
    c.capped-in-4.ensures ∙ ap Rattle.engine_fields.specs.Fields.cap c.conditions_at.ensures.0
    ∙ sym (laws.word_4 _ _ _ _ c.in-4.is)

pub returns-in-5 : goal.returns-in-5
returns-in-5 c =
    c.capped-in-5.ensures ∙ ap Rattle.engine_fields.specs.Fields.cap c.actions_at.ensures
    ∙ sym (laws.word_5 _ _ _ _ c.in-5.is)

pub returns-in-6 : goal.returns-in-6
returns-in-6 c =
    c.capped-in-6.ensures ∙ ap Rattle.engine_fields.specs.Fields.cap c.source_at.ensures
    ∙ sym (laws.word_6 _ _ _ _ c.in-6.is)

pub returns-in_default : goal.returns-in_default
returns-in_default c =
    c.notes_word.ensures
    ∙ sym (laws.word_else _ _ _ _ (search rules) (search rules) (search rules) (search rules) (search rules)
    (search rules) (search rules))
