use Rattle.show.proofs.Laws as laws
use Rattle.show.proofs.put_number_line.Goals as goal

pub returns : goal.returns
returns c =
    laws.is (laws.number_is _ _) (laws.both c.put-a.ensures
    (laws.both c.put_byte-b.ensures (laws.both c.put_number-c.ensures c.put_byte.ensures)))
