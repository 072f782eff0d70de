use native.Mathlib.Omega.{arith}
use Rattle.engine_state.proofs.Laws as laws
use borrow.Author.Rules.{rules}
use Rattle.engine_state.proofs.log.Goals as goal

pub returns-then-s-ne0 : goal.returns-then-s-ne0
returns-then-s-ne0 c = laws.moves (λ v n s. laws.unlogged _ _ _ _ _ _ (omega arith) c.if-s-ne0.true)

pub returns-then-push_record : goal.returns-then-push_record
returns-then-push_record c =
    laws.moves (λ v n s. laws.logged _ _ _ _ _ _ _ _ c.push_record.ensures c.if-s-ne0.false (search rules)
    c.if-push_record.true)

pub returns : goal.returns
returns c =
    laws.moves (λ v n s. laws.log_refused _ _ _ _ _ _ _ _ c.push_record.ensures c.if-s-ne0.false (search rules)
    (omega arith) c.if-push_record.false)
