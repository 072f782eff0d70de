use Rattle.simulate_lines.specs.FileTexts.{texts_of}
use Rattle.show.proofs.Laws as show
use Rattle.record_lines.proofs.Numbers as numbers
use Rattle.record_lines.proofs.put_detail.Goals as goal

pub returns-then-kind-ge18 : goal.returns-then-kind-ge18
returns-then-kind-ge18 c =
    show.is (numbers.detail_text c.args.x.now (texts_of c.args.f.now c.args.x.now) _ _ c.if-kind-ge18.true)
    c.put_place.ensures

pub returns : goal.returns
returns c =
    show.is (numbers.detail_is c.args.x.now (texts_of c.args.f.now c.args.x.now) _ _ c.if-kind-ge18.false)
    (show.both c.put_byte-a.ensures (show.both c.put_begin-b.ensures
    (show.both c.put_end-c.ensures c.put_byte.ensures)))
