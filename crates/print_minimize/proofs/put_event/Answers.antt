use Rattle.show.proofs.Laws as show
use Rattle.print_minimize.proofs.Laws as laws
use Rattle.print_minimize.proofs.put_event.Goals as goal

pub returns : goal.returns
returns c =
    show.is (laws.event_is _) (show.both c.put-a.ensures
    (show.both c.put_number-b.ensures (show.both c.put_byte-c.ensures
    (show.both c.put_input-d.ensures c.put_byte.ensures))))
