use mathlib.Core.Path.{sym}
use Rattle.model_parts.proofs.Laws as laws
use Rattle.model_parts.proofs.put.Goals as goal

pub returns-then-i-lt100 : goal.returns-then-i-lt100
returns-then-i-lt100 c = sym (laws.put_in _ _ _ c.if-i-lt100.true)

pub returns-else-i-lt100 : goal.returns-else-i-lt100
returns-else-i-lt100 c = sym (laws.put_out _ _ _ c.if-i-lt100.false)
