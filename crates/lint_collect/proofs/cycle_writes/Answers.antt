use mathlib.Core.Path.{sym, ◌∙◌}
use Prim.Native.Nat.{◌-◌}
use Rattle.lint_walk.proofs.Sizes as sizes
use Rattle.lint_collect.proofs.Laws as laws
use Rattle.lint_collect.proofs.cycle_writes.Goals as goal
use Rattle.lint_collect.proofs.cycle_writes.Goals.{then-has, else-has}

pub loop-i-init : goal.loop-i-init
loop-i-init c = λ z y. laws.writes_start _ _ _ _

pub writes-more-requires : goal.writes-more-requires
writes-more-requires c = (c.requires.0, (sizes.sized _ _ c.rule_walk-c.ensures).0)

pub loop-i-preserved : goal.loop-i-preserved
loop-i-preserved c =
    elim c.if-has.branch [
      | then-has w ↦ rw w.writes-is (λ z y. c.loop-i.invariant z y ∙ laws.writes_yes _ _ _ _ _ _ _ c.loop-i-test.true c.has.ensures w.if-has.true
          w.rule_walk-c.ensures w.writes-more.ensures w.union-writes.ensures)
      | else-has w ↦ rw w.writes-is (λ z y. c.loop-i.invariant z y ∙ laws.writes_no _ _ _ _ _ _ _ c.loop-i-test.true c.has.ensures
          w.if-has.false)
    ]

pub returns : goal.returns
returns c = sym (c.loop-i.invariant _ _ ∙ laws.writes_end _ _ _ _ _ _ _ c.loop-i-test.false)
