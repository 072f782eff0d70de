use Rattle.lint_entry.proofs.Laws as laws
use Rattle.lint_entry.proofs.told.Goals as goal

pub returns : goal.returns
returns c =
    laws.told_is _ _ _ _ c.first_sets-c.ensures c.rule_sets-t.ensures.0 c.rule_sets-t.ensures.1
    c.undeclared_names-u.ensures
