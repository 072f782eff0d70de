use Rattle.show.proofs.Laws as show
use Rattle.print_minimize.proofs.Laws as laws
use Rattle.print_minimize.proofs.put_input.Goals as goal

pub returns-then-kind-eq1 : goal.returns-then-kind-eq1
returns-then-kind-eq1 c =
    show.is (laws.restarts _ _ _ _ c.if-kind-eq1.true)
    c.put.ensures

pub returns-then-kind-eq2 : goal.returns-then-kind-eq2
returns-then-kind-eq2 c = show.is (laws.reloads _ _ _ _ c.if-kind-eq1.false c.if-kind-eq2.true) c.put-then-kind-eq2.ensures

pub returns : goal.returns
returns c =
    show.is (laws.sets _ _ _ _ c.if-kind-eq1.false c.if-kind-eq2.false)
    (show.both c.put-a.ensures (show.both c.put_place-b.ensures
    (show.both c.put_byte-c.ensures c.put_place.ensures)))
