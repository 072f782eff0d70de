use Rattle.model_validate.proofs.Laws as laws
use Rattle.model_validate.proofs.declared.Goals as goal

pub returns : goal.returns
returns c =
    laws.declared_is _ _ _ c.place_of.ensures c.place_of-2.ensures c.place_of-3.ensures
    c.place_of-4.ensures
