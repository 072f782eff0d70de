use Rattle.record_lines.proofs.Laws as laws
use Rattle.record_lines.proofs.id_place.Goals as goal

pub returns : goal.returns
returns c = laws.id_is c.args.x.now c.args.i _ c.word_at.ensures
