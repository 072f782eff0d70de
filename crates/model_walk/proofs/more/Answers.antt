use mathlib.Core.Path.{sym}
use Rattle.model_walk.proofs.Laws as laws
use Rattle.model_walk.proofs.more.Goals as goal

pub returns-then-notes-lt64 : goal.returns-then-notes-lt64
returns-then-notes-lt64 c = sym (laws.capped_low _ c.if-notes-lt64.true)

pub returns-else-notes-lt64 : goal.returns-else-notes-lt64
returns-else-notes-lt64 c = sym (laws.capped_high _ c.if-notes-lt64.false)
