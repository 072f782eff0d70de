use Rattle.show.proofs.Laws as show
use Rattle.record_lines.proofs.Laws as laws
use Rattle.record_lines.proofs.put_where.Goals as goal

pub returns-in-None : goal.returns-in-None
returns-in-None c =
    show.is (laws.nowhere c.args.source (cc))
    c.put_byte.ensures

pub returns-in-Some : goal.returns-in-Some
returns-in-Some c = show.is (laws.somewhere c.args.source _ (cc)) c.put_source.ensures
