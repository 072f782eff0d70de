use Rattle.engine_window.proofs.Laws as laws
use Rattle.engine_window.proofs.marks.Goals as goal

pub returns : goal.returns
returns c = laws.marks_is _ _
