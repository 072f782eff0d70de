use Rattle.model_validate.proofs.Refines as agrees
use Rattle.model_validate.proofs.accept.Goals as goal

pub returns : goal.returns
returns c = agrees.file_says _ c.file_of.ensures c.examine-x.ensures
