use Prim.Native.Nat.{◌-◌}
use Rattle.lint_pairs.proofs.Laws as laws
use Rattle.lint_pairs.proofs.spelled.Goals as goal

pub returns-then-tier-eq3 : goal.returns-then-tier-eq3
returns-then-tier-eq3 c = laws.spelled_yes _ c.if-tier-eq3.true

pub returns : goal.returns
returns c = laws.spelled_no _ c.if-tier-eq3.false
