use Rattle.show.proofs.Laws as show
use Rattle.print_minimize.proofs.Laws as laws
use Rattle.print_minimize.proofs.put_invariant.Goals as goal

pub returns : goal.returns
returns c =
    show.is (laws.invariant_is _) (show.both c.put-a.ensures
    (show.both c.put_place-b.ensures c.put_byte.ensures))
