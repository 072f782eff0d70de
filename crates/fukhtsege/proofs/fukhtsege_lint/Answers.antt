use mathlib.Core.Path.{refl}
use native.Mathlib.Omega.{arith}
use Rattle.fukhtsege.proofs.Laws as laws
use Rattle.fukhtsege.proofs.fukhtsege_lint.Goals as goal

pub returns-then-answer-lt228 : goal.returns-then-answer-lt228
returns-then-answer-lt228 c = laws.too_short c.if-answer-lt228.true refl

pub returns : goal.returns
returns c =
    laws.answered (omega (arith, c.if-answer-lt228.false)) c.lint-r.result c.lint-r.ensures refl
    c.put_report.ensures
