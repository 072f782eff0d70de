use Rattle.cone_names.proofs.Laws as laws
use Rattle.cone_names.proofs.with_wanted.Goals as goal

pub returns-then-wanted : goal.returns-then-wanted
returns-then-wanted c = laws.name_yes _ _ _ _ c.wanted.ensures c.if-wanted.true c.with_name.ensures

pub returns : goal.returns
returns c = laws.name_no _ _ _ _ c.wanted.ensures c.if-wanted.false
