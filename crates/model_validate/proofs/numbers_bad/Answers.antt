use mathlib.Core.Path.{sym}
use Rattle.model_validate.proofs.Laws as laws
use Rattle.model_validate.proofs.numbers_bad.Goals as goal

pub returns-then-horizon-gt86400 : goal.returns-then-horizon-gt86400
returns-then-horizon-gt86400 c = sym (laws.limits_1 _ _ _ _ c.if-horizon-gt86400.true)

pub returns-then-steps-eq0 : goal.returns-then-steps-eq0
returns-then-steps-eq0 c = sym (laws.limits_2 _ _ _ _ c.if-horizon-gt86400.false c.if-steps-eq0.true)

pub returns-then-steps-gt10000 : goal.returns-then-steps-gt10000
returns-then-steps-gt10000 c = sym (laws.limits_3 _ _ _ _ c.if-horizon-gt86400.false c.if-steps-eq0.false c.if-steps-gt10000.true)

pub returns-then-depth-gt5 : goal.returns-then-depth-gt5
returns-then-depth-gt5 c = sym (laws.limits_4 _ _ _ _ c.if-horizon-gt86400.false c.if-steps-eq0.false c.if-steps-gt10000.false c.if-depth-gt5.true)

pub returns-then-cases-eq0 : goal.returns-then-cases-eq0
returns-then-cases-eq0 c =
    sym (laws.limits_5 _ _ _ _ c.if-horizon-gt86400.false c.if-steps-eq0.false c.if-steps-gt10000.false c.if-depth-gt5.false
    c.if-cases-eq0.true)

pub returns : goal.returns
returns c =
    sym (laws.limits_6 _ _ _ _ c.if-horizon-gt86400.false c.if-steps-eq0.false c.if-steps-gt10000.false c.if-depth-gt5.false
    c.if-cases-eq0.false)
