use native.Mathlib.Omega.{arith}
use Rattle.engine_state.proofs.Laws as laws
use borrow.Author.Rules.{rules}
use Rattle.engine_state.proofs.uncertain.Goals as goal

pub returns-then-n-gt-LAST_SIMULATION_REASON : goal.returns-then-n-gt-LAST_SIMULATION_REASON
returns-then-n-gt-LAST_SIMULATION_REASON c = laws.moves (λ v n s. laws.enough _ _ _ _ (omega arith) c.if-n-gt-LAST_SIMULATION_REASON.true)

pub push_if_absent-requires : goal.push_if_absent-requires
push_if_absent-requires c = laws.push_fits _ _ _ _ (omega arith) (omega arith)

pub returns : goal.returns
returns c =
    laws.moves (λ v n s. laws.doubted _ _ _ _ _ _ (omega arith) (omega arith) (search rules)
    c.push_if_absent.ensures c.requires.1.1)
