use Rattle.show.proofs.Laws as laws
use Rattle.show.proofs.put_model.Goals as goal

pub returns : goal.returns
returns c =
    laws.is (laws.model_is _) (laws.both c.put-m.ensures
    (laws.both c.put_number-j.ensures c.put_byte.ensures))
