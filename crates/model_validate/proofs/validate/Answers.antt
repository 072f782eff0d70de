use Rattle.model_validate.proofs.Refines as agrees
use Rattle.model_validate.proofs.validate.Goals as goal

pub returns-in-Read : goal.returns-in-Read
returns-in-Read c =
    agrees.valid_read _ _ c.examine-x.ensures
    (agrees.is_read _ _ _ _ _ _ _ _ c.in-Read.is)

pub returns-in-Refused : goal.returns-in-Refused
returns-in-Refused c = agrees.valid_refused _ _ c.examine-x.ensures (agrees.is_refusal _ _ _ _ _ _ _ _ c.in-Refused.is)
