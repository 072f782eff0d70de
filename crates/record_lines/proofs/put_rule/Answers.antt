use Rattle.simulate_lines.specs.FileTexts.{texts_of}
use Rattle.show.proofs.Laws as show
use Rattle.record_lines.proofs.Laws as laws
use Rattle.record_lines.proofs.put_rule.Goals as goal

pub returns-in-None : goal.returns-in-None
returns-in-None c =
    show.is (laws.no_rule c.args.x.now (texts_of c.args.f.now c.args.x.now) c.args.rule (cc))
    c.put_byte.ensures

pub returns-in-Some : goal.returns-in-Some
returns-in-Some c =
    show.is (laws.some_rule c.args.x.now (texts_of c.args.f.now c.args.x.now) c.args.rule
    c.in-Some.i _ (cc) c.id_place.ensures) c.put_place.ensures
