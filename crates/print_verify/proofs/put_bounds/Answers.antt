use Rattle.show.proofs.Laws as show
use Rattle.print_verify.proofs.Laws as laws
use Rattle.print_verify.proofs.put_bounds.Goals as goal

pub returns : goal.returns
returns c =
    show.is (laws.bounds_are _ _ _ _) (show.both c.put_bound-a.ensures
    (show.both c.put_bound-b.ensures (show.both c.put_bound-c.ensures
    (show.both c.put_bound-d.ensures c.put_byte.ensures))))
