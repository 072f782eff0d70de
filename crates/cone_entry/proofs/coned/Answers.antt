use Rattle.cone_entry.proofs.Laws as laws
use Rattle.cone_entry.proofs.coned.Goals as goal

pub returns : goal.returns
returns c =
    laws.told_is _ _ c.named-start.ensures c.rule_sets-t.ensures c.close-c.ensures
    c.undeclared_names-u.ensures c.names_in-n.ensures
