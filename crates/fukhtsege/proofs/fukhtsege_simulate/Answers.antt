use mathlib.Core.Path.{refl}
use native.Mathlib.Omega.{arith}
use Rattle.fukhtsege.proofs.Laws as laws
use Rattle.fukhtsege.proofs.fukhtsege_simulate.Goals as goal

pub returns-then-answer-lt1540 : goal.returns-then-answer-lt1540
returns-then-answer-lt1540 c = laws.too_short c.if-answer-lt1540.true refl

pub returns : goal.returns
returns c =
    laws.answered (omega (arith, c.if-answer-lt1540.false)) _ c.simulate_lent-s.ensures refl
    c.put_simulation.ensures
