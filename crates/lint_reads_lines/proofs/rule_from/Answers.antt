use mathlib.Core.Path.{sym, ap, ◌∙◌}
use Prim.Native.Nat.{◌-◌}
use native.Mathlib.Omega.{arith}
use Rattle.texts.specs.Lists.{through}
use Rattle.lint_reads_lines.proofs.Loops as loops
use Rattle.lint_reads_lines.proofs.Laws as laws
use Rattle.lint_reads_lines.proofs.rule_from.Goals as goal

pub loop-i-init : goal.loop-i-init
loop-i-init c = (laws.rules_begin _ _ _, omega arith)

pub loop-i-preserved : goal.loop-i-preserved
loop-i-preserved c = (
  c.loop-i.invariant.0 ∙ loops.each_turn _ _ c.loop-i.i _
      (omega (arith, c.loop-i-test.true, c.wide-count.ensures)) ∙ ap (through _ _) (sym c.better-found.ensures),
  omega (arith, c.loop-i-test.true, c.wide-count.ensures),
)

pub returns : goal.returns
returns c =
    sym (c.loop-i.invariant.0 ∙ loops.each_over _ _ _ _
    (omega (arith, c.loop-i-test.false, c.wide-count.ensures)))
