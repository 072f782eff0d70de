use mathlib.Core.Path.{sym, ◌∙◌}
use Rattle.engine_table.proofs.Laws as laws
use Rattle.engine_table.proofs.head_word.Goals as goal

pub returns-then-k-lt2 : goal.returns-then-k-lt2
returns-then-k-lt2 c = c.count_word.ensures ∙ sym (laws.head_low _ _ _ c.if-k-lt2.true)

pub returns-then-k-eq-HORIZON : goal.returns-then-k-eq-HORIZON
returns-then-k-eq-HORIZON c = c.number_at.ensures ∙ sym (laws.head_2 _ _ _ c.if-k-eq-HORIZON.true)

pub returns-then-k-eq-MAX_STEPS : goal.returns-then-k-eq-MAX_STEPS
returns-then-k-eq-MAX_STEPS c = c.number_at-then-k-eq-MAX_STEPS.ensures ∙ sym (laws.head_3 _ _ _ c.if-k-eq-MAX_STEPS.true)

pub returns-then-k-lt8 : goal.returns-then-k-lt8
returns-then-k-lt8 c =
    c.fixed_word.ensures ∙ sym (laws.head_fixed _ _ _ c.if-k-lt2.false
    c.if-k-eq-HORIZON.false c.if-k-eq-MAX_STEPS.false c.if-k-lt8.true)

pub returns-then-k-eq-START_WEEKDAY : goal.returns-then-k-eq-START_WEEKDAY
returns-then-k-eq-START_WEEKDAY c = c.start_word.ensures ∙ sym (laws.head_10 _ _ _ c.if-k-eq-START_WEEKDAY.true)

pub returns-then-k-eq-START_SECOND : goal.returns-then-k-eq-START_SECOND
returns-then-k-eq-START_SECOND c = c.start_word-then-k-eq-START_SECOND.ensures ∙ sym (laws.head_11 _ _ _ c.if-k-eq-START_SECOND.true)

pub returns : goal.returns
returns c =
    c.count_word-2.ensures ∙ sym (laws.head_high _ _ _
    c.if-k-lt2.false
    c.if-k-eq-HORIZON.false c.if-k-eq-MAX_STEPS.false
    c.if-k-lt8.false c.if-k-eq-START_WEEKDAY.false c.if-k-eq-START_SECOND.false)
