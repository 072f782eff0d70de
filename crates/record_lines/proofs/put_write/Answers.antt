use Rattle.show.proofs.Laws as show
use Rattle.record_lines.proofs.put_write.Goals as goal

pub returns : goal.returns
returns c =
    show.both c.put_place-i.ensures (show.both c.put_byte-j.ensures
    (show.both c.put_place-k.ensures (show.both c.put_byte-l.ensures
    c.put_place.ensures)))
