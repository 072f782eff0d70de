use mathlib.Core.Path.{sym, ◌∙◌}
use Rattle.model_sections.proofs.Laws as laws
use Rattle.model_sections.proofs.rule_lists_check.Goals as goal

pub returns-in_default : goal.returns-in_default
returns-in_default c = sym (laws.rule_lists_broken _ _ _ _ _ c.u16_at.ensures c.in_default.is)

pub returns-in_default-a : goal.returns-in_default-a
returns-in_default-a c =
    sym (laws.rule_lists_short _ _ _ _ _ c.u16_at.ensures c.in-Some.is c.skip-a.ensures
    c.in_default-a.is)

pub returns-in_default-u16_at : goal.returns-in_default-u16_at
returns-in_default-u16_at c =
    sym (laws.rule_lists_no_count _ _ _ _ _ c.u16_at.ensures c.in-Some.is c.skip-a.ensures c.in-To.is
    c.u16_at-2.ensures c.in_default-u16_at.is)

pub returns-then-bad_counts : goal.returns-then-bad_counts
returns-then-bad_counts c =
    sym (laws.rule_lists_14 _ _ _ _ _ c.u16_at.ensures c.in-Some.is c.skip-a.ensures c.in-To.is
    c.u16_at-2.ensures c.in-Some-u16_at.is (sym c.bad_counts.ensures ∙ c.if-bad_counts.true))

pub returns : goal.returns
returns c =
    c.lists_check.ensures
    ∙ sym (laws.rule_lists_are _ _ _ _ _ c.u16_at.ensures c.in-Some.is c.skip-a.ensures c.in-To.is
    c.u16_at-2.ensures c.in-Some-u16_at.is (sym c.bad_counts.ensures ∙ c.if-bad_counts.false))
