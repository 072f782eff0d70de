use Rattle.cone_entry.proofs.Refines as core
use Rattle.cone_entry.proofs.cone.Goals as goal

pub coned-requires : goal.coned-requires
coned-requires c = core.accepted_bounds _ _ c.accept-x.ensures c.in-Read.is

pub returns-in-Refused : goal.returns-in-Refused
returns-in-Refused c =
    core.refused_answers _ _ c.accept-x.ensures c.in-Refused.is
    c.refused.ensures

pub returns-in-Read : goal.returns-in-Read
returns-in-Read c =
    core.accepted_answers _ _ c.accept-x.ensures c.in-Read.is
    c.coned.ensures
