use Rattle.show.proofs.Laws as laws
use Rattle.show.proofs.put_source.Goals as goal

pub returns-in-Some : goal.returns-in-Some
returns-in-Some c =
    laws.is (laws.source_at _ _ _ (cc)) (laws.both c.put_number-m.ensures
    (laws.both c.put_byte-k.ensures c.put_number.ensures))

pub returns-in-None : goal.returns-in-None
returns-in-None c = laws.is (laws.source_absent _ (cc)) c.put_byte.ensures
