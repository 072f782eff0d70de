use mathlib.Core.Path.{sym, ap, ◌∙◌}
use native.Mathlib.Omega.{arith}
use lib.ListN.{length}
use Rattle.checker_collect.proofs.Laws as laws
use Rattle.checker_collect.proofs.push_violation.Goals as goal

pub put-requires : goal.put-requires
put-requires c =
    omega (
      arith,
      c.requires,
      ap length c.numbers_of-w.ensures,
    )

pub returns-then-failed : goal.returns-then-failed
returns-then-failed c =
    laws.pushed_one _ _ _ _ (sym c.if-failed.true ∙ c.failed.ensures) c.requires c.numbers_of-w.ensures
    c.put.ensures

pub returns : goal.returns
returns c = laws.pushed_none _ _ _ _ (sym c.if-failed.false ∙ c.failed.ensures)
