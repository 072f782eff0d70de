use Rattle.engine_evaluate.proofs.Laws as laws
use Rattle.engine_evaluate.proofs.branch_at.Goals as goal

pub returns-in-Yes : goal.returns-in-Yes
returns-in-Yes c = laws.branch_yes _ _ _ _ _ _ c.evaluate_all-judged.ensures c.in-Yes.is

pub returns-in-Unknown : goal.returns-in-Unknown
returns-in-Unknown c = laws.branch_unknown _ _ _ _ _ _ c.evaluate_all-judged.ensures c.in-Unknown.is

pub returns-in-No : goal.returns-in-No
returns-in-No c =
    laws.branch_no _ _ _ _ _ _ c.evaluate_all-judged.ensures _ _ c.in-No.is c.actions_at-w.ensures
    c.end_of.ensures
