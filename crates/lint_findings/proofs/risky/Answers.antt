use mathlib.Core.Path.{sym, ◌∙◌}
use Prim.Native.Nat.{◌-◌}
use Rattle.lint_findings.proofs.Laws as laws
use Rattle.lint_findings.proofs.risky.Goals as goal

pub returns-then-tier-lt2 : goal.returns-then-tier-lt2
returns-then-tier-lt2 c = sym (laws.risky_low _ _ _ _ _ c.tier.ensures c.if-tier-lt2.true)

pub returns : goal.returns
returns c = c.unguarded.ensures ∙ laws.risky_is _ _ _ _ _ c.tier.ensures c.if-tier-lt2.false
