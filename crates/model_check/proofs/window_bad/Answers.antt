use mathlib.Core.Path.{sym}
use Rattle.model_check.proofs.Laws as laws
use Rattle.model_check.proofs.window_bad.Goals as goal

pub returns-then-start-end : goal.returns-then-start-end
returns-then-start-end c = sym (laws.bad_1 _ _ _ c.if-start-end.true)

pub returns-then-start-gt86399 : goal.returns-then-start-gt86399
returns-then-start-gt86399 c = sym (laws.bad_2 _ _ _ c.if-start-end.false c.if-start-gt86399.true)

pub returns-then-end-gt86399 : goal.returns-then-end-gt86399
returns-then-end-gt86399 c = sym (laws.bad_3 _ _ _ c.if-start-end.false c.if-start-gt86399.false c.if-end-gt86399.true)

pub returns-then-days-eq0 : goal.returns-then-days-eq0
returns-then-days-eq0 c = sym (laws.bad_4 _ _ _ c.if-start-end.false c.if-start-gt86399.false c.if-end-gt86399.false c.if-days-eq0.true)

pub returns : goal.returns
returns c = sym (laws.bad_5 _ _ _ c.if-start-end.false c.if-start-gt86399.false c.if-end-gt86399.false c.if-days-eq0.false)
