use mathlib.Core.Path.{sym, ◌∙◌}
use Prim.Native.Nat.{◌-◌}
use Rattle.lint_findings.proofs.Laws as laws
use Rattle.lint_findings.proofs.delayed.Goals as goal

pub returns-then-writes-eq0 : goal.returns-then-writes-eq0
returns-then-writes-eq0 c = sym (laws.delayed_no _ _ _ c.if-writes-eq0.true)

pub returns : goal.returns
returns c = c.delays.ensures ∙ laws.delayed_is _ _ _ c.if-writes-eq0.false
