use native.Mathlib.Omega.{arith}
use Rattle.arguments.proofs.Laws as laws
use Rattle.arguments.proofs.next.Goals as goal

pub returns-then-digit-lt48 : goal.returns-then-digit-lt48
returns-then-digit-lt48 c = (laws.no_digit _ _ _ c.if-digit-lt48.true, c.requires.0)

pub returns-then-most-x : goal.returns-then-most-x
returns-then-most-x c = (laws.more _ c.args.k _ c.if-digit-lt48.false c.if-most-x.true, omega arith)

pub returns : goal.returns
returns c = (laws.enough _ _ _ c.if-digit-lt48.false c.if-most-x.false, c.if-most-x.false)
