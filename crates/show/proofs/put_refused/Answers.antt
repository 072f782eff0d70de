use Rattle.show.proofs.Laws as laws
use Rattle.show.proofs.put_refused.Goals as goal

pub returns : goal.returns
returns c =
    laws.is (laws.refused_is _) (laws.both c.put-m.ensures
    (laws.both c.put_number-k.ensures c.put_byte.ensures))
