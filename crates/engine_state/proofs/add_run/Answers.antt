use native.Mathlib.Omega.{arith}
use Rattle.engine_state.proofs.Laws as laws
use borrow.Author.Rules.{rules}
use Rattle.engine_state.proofs.add_run.Goals as goal

pub returns-then-s-ne0 : goal.returns-then-s-ne0
returns-then-s-ne0 c = laws.moves (λ v n s. laws.unrun _ _ _ _ (omega arith) c.if-s-ne0.true)

pub returns-then-push_run : goal.returns-then-push_run
returns-then-push_run c =
    laws.moves (λ v n s. laws.run_added _ _ _ _ _ _ c.push_run.ensures c.if-s-ne0.false (search rules) _ _
    c.more_than-made.ensures c.more_than-sequence.ensures c.if-push_run.true)

pub returns : goal.returns
returns c =
    laws.moves (λ v n s. laws.run_refused _ _ _ _ _ _ c.push_run.ensures c.if-s-ne0.false (search rules) (omega arith)
    c.if-push_run.false)
