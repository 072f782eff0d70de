use Rattle.simulate_lines.specs.FileTexts.{texts_of}
use Rattle.show.proofs.Laws as show
use Rattle.simulate_lines.proofs.Laws as laws
use Rattle.simulate_lines.proofs.put_final.Goals as goal

pub returns : goal.returns
returns c =
    show.is (laws.final_is (texts_of c.args.f.now c.args.x.now) _ _ _ c.name_of.ensures)
    (show.both c.put-a.ensures (show.both c.put_place-b.ensures
    (show.both c.put_byte-c.ensures (show.both c.put_place-d.ensures
    c.put_byte.ensures))))
