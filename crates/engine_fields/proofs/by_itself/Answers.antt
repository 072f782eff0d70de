use Rattle.engine_fields.proofs.Laws as laws
use Rattle.engine_fields.proofs.by_itself.Goals as goal

pub returns : goal.returns
returns c = laws.alone_is _
