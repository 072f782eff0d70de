use mathlib.Core.Path.{sym}
use native.Mathlib.Omega.{arith}
use Rattle.show.proofs.Laws as laws
use Rattle.reasons.proofs.Digits as digits
use borrow.Fn.PlainCycle.{is}
use Rattle.show.proofs.+put_number.Goals as goal

pub returns-then-x-lt10 : goal.returns-then-x-lt10
returns-then-x-lt10 t c = laws.is (sym (digits.small c.args.x c.if-x-lt10.true)) c.put_byte.ensures

pub put_number-m-requires : goal.put_number-m-requires
put_number-m-requires t c = (omega arith, tt)

pub returns : goal.returns
returns t c =
    laws.is (sym (digits.step c.args.x c.if-x-lt10.false (omega arith)))
    (laws.both c.put_number-m.ensures c.put_byte-2.ensures)
