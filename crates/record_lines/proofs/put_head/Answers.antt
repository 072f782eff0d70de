use Rattle.show.proofs.Laws as show
use Rattle.record_lines.proofs.put_head.Goals as goal

pub returns : goal.returns
returns c =
    show.both c.put-a.ensures (show.both c.put_number-b.ensures
    (show.both c.put_byte-c.ensures (show.both c.put_number-d.ensures
    (show.both c.put_byte-e.ensures (show.both c.put_name-g.ensures
    c.put_byte.ensures)))))
