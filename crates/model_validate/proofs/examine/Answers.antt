use Rattle.model_validate.proofs.Refines as agrees
use Rattle.model_validate.proofs.examine.Goals as goal

pub returns-in-Refused : goal.returns-in-Refused
returns-in-Refused c = agrees.outline_refused _ _ _ _ _ _ _ _ _ c.read-x.ensures c.in-Refused.is

pub returns-in-To : goal.returns-in-To
returns-in-To c =
    agrees.outline_accepted _ _ _ _ _ _ _ _ _ c.read-x.ensures c.in-Read.is
    c.whole_check-y.ensures c.declared-d.ensures c.in-To.is

pub returns-in-Refused-y : goal.returns-in-Refused-y
returns-in-Refused-y c =
    agrees.outline_checked _ _ _ _ _ _ _ _ _ c.read-x.ensures c.in-Read.is
    c.whole_check-y.ensures c.declared-d.ensures c.in-Refused-y.is _
    c.refusal.ensures
