use Rattle.lint_lines.proofs.Laws as laws
use Rattle.lint_lines.proofs.note_of.Goals as goal

pub returns : goal.returns
returns c = laws.note_is _
