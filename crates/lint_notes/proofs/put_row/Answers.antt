use Rattle.lint_notes.proofs.Laws as laws
use Rattle.lint_notes.proofs.put_row.Goals as goal

pub returns : goal.returns
returns c =
    laws.row_is _ _ _ c.conditions_at-conditions.ensures c.place_at.ensures c.triggers_at.ensures c.capped.ensures
    c.capped-2.ensures c.predicates_end.ensures c.capped-3.ensures c.past.ensures
    c.capped-4.ensures
