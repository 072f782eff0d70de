use Rattle.lint_entry.proofs.Refines as core
use Rattle.lint_entry.proofs.lint.Goals as goal

pub linted-requires : goal.linted-requires
linted-requires c =
    core.accepted_bounds _ _ c.accept-x.ensures
    c.in-Read.is

pub returns-in-Refused : goal.returns-in-Refused
returns-in-Refused c = core.refused_answers _ _ c.accept-x.ensures c.in-Refused.is c.refused.ensures _ _

pub returns-in-Read : goal.returns-in-Read
returns-in-Read c = core.accepted_answers _ _ c.accept-x.ensures c.in-Read.is c.linted.ensures
