use Rattle.show.proofs.Laws as laws
use Rattle.show.proofs.put_escaped.Goals as goal

pub returns-then-b-eq34 : goal.returns-then-b-eq34
returns-then-b-eq34 c = laws.is (laws.quote _ c.if-b-eq34.true) (laws.both c.put_byte-m.ensures c.put_byte.ensures)

pub returns-then-b-eq92 : goal.returns-then-b-eq92
returns-then-b-eq92 c =
    laws.is (laws.backslash _ c.if-b-eq34.false c.if-b-eq92.true)
    (laws.both c.put_byte-m-then-b-eq92.ensures c.put_byte-then-b-eq92.ensures)

pub returns : goal.returns
returns c = laws.is (laws.other _ c.if-b-eq34.false c.if-b-eq92.false) c.put_byte-2.ensures
