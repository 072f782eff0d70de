use mathlib.Core.Path.{sym, ◌∙◌}
use Rattle.model_walk.proofs.Laws as laws
use Rattle.model_walk.proofs.bytes_or_end_at.Goals as goal

pub returns-then-at-s : goal.returns-then-at-s
returns-then-at-s c = c.bytes_at.ensures ∙ sym (laws.zeros_before _ _ _ _ c.if-at-s.true)

pub returns-else-at-s : goal.returns-else-at-s
returns-else-at-s c = sym (laws.zeros_at_end _ _ _ _ c.if-at-s.false)
