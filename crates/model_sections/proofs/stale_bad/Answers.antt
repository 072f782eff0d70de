use mathlib.Core.Path.{sym}
use Rattle.model_sections.proofs.Laws as laws
use Rattle.model_sections.proofs.stale_bad.Goals as goal

pub returns-then-seconds-eq4294967295 : goal.returns-then-seconds-eq4294967295
returns-then-seconds-eq4294967295 c = sym (laws.stale_none _ c.if-seconds-eq4294967295.true)

pub returns : goal.returns
returns c = sym (laws.stale_some _ c.if-seconds-eq4294967295.false)
