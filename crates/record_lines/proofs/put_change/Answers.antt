use Rattle.simulate_lines.specs.FileTexts.{texts_of}
use Rattle.show.proofs.Laws as show
use Rattle.record_lines.proofs.Laws as laws
use Rattle.record_lines.proofs.put_change.Goals as goal

pub returns-in-None : goal.returns-in-None
returns-in-None c =
    show.is (laws.no_change c.args.x.now (texts_of c.args.f.now c.args.x.now) c.args.change (cc))
    c.put.ensures

pub returns-in-Some : goal.returns-in-Some
returns-in-Some c =
    show.is (laws.some_change c.args.x.now (texts_of c.args.f.now c.args.x.now) c.args.change
    c.in-Some.w (cc))
    c.put_write.ensures
