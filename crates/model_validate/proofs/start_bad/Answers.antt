use mathlib.Core.Path.{sym}
use Rattle.model_validate.proofs.Laws as laws
use Rattle.model_validate.proofs.start_bad.Goals as goal

pub returns-in_default : goal.returns-in_default
returns-in_default c = sym (laws.start_none _ c.in_default.is)

pub returns-then-s-at : goal.returns-then-s-at
returns-then-s-at c = sym (laws.start_ended _ c.in-Some.is c.if-s-at.true)

pub returns-in_default-u32_at : goal.returns-in_default-u32_at
returns-in_default-u32_at c =
    sym (laws.no_weekday _ c.in-Some.is c.if-s-at.false c.u32_at.ensures
    c.in_default-u32_at.is)

pub returns-in_default-u32_at-2 : goal.returns-in_default-u32_at-2
returns-in_default-u32_at-2 c =
    sym (laws.no_second _ c.in-Some.is c.if-s-at.false c.u32_at.ensures
    c.in-Some-u32_at.is c.u32_at-2.ensures c.in_default-u32_at-2.is)

pub returns-then-weekday-gt6 : goal.returns-then-weekday-gt6
returns-then-weekday-gt6 c =
    sym (laws.late_weekday _ c.in-Some.is c.if-s-at.false c.u32_at.ensures
    c.in-Some-u32_at.is c.u32_at-2.ensures c.in-Some-u32_at-2.is c.if-weekday-gt6.true)

pub returns : goal.returns
returns c =
    sym (laws.by_second _ c.in-Some.is c.if-s-at.false c.u32_at.ensures
    c.in-Some-u32_at.is c.u32_at-2.ensures c.in-Some-u32_at-2.is c.if-weekday-gt6.false)
