use native.Mathlib.Omega.{arith}
use Rattle.engine_state.proofs.Laws as laws
use borrow.Author.Rules.{rules}
use Rattle.engine_state.proofs.add.Goals as goal

pub returns-then-s-ne0 : goal.returns-then-s-ne0
returns-then-s-ne0 c = laws.moves (λ v n s. laws.stuck _ _ _ _ (omega arith) c.if-s-ne0.true)

pub returns-in_default : goal.returns-in_default
returns-in_default c =
    laws.moves (λ v n s. laws.add_refused _ _ _ _ _ _ c.insert.ensures c.if-s-ne0.false (search rules) (omega arith)
    c.in_default.is)

pub returns : goal.returns
returns c =
    laws.moves (λ v n s. laws.added _ _ _ _ _ _ c.insert.ensures c.if-s-ne0.false (search rules) _ c.in-Some.is)
