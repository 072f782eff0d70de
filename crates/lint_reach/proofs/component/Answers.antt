use mathlib.Core.Path.{sym, ◌∙◌}
use native.Mathlib.Omega.{arith}
use Rattle.lint_reach.proofs.ComponentLaws as parts
use Prim.Native.Nat.{◌-◌}
use Rattle.lint_reach.proofs.component.Goals as goal

pub loop-j-init : goal.loop-j-init
loop-j-init c = (parts.collect_first _ _ _, omega arith)

pub loop-j-preserved : goal.loop-j-preserved
loop-j-preserved c = (
  c.loop-j.invariant.0 ∙ parts.collect_next _ _ _ _ _ _ c.loop-j-test.true c.both.ensures
      c.with_if-set.ensures,
  omega arith,
)

pub returns : goal.returns
returns c = sym (c.loop-j.invariant.0 ∙ parts.collect_end _ _ _ _ c.loop-j-test.false)
