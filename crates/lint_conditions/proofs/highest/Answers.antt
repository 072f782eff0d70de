use mathlib.Core.Path.{refl, sym, ◌∙◌}
use Prim.Native.Nat.{◌-◌}
use Rattle.lint_conditions.proofs.Laws as laws
use Rattle.lint_conditions.proofs.highest.Goals as goal
use Rattle.lint_conditions.proofs.highest.Goals.{then-has, else-has}

pub loop-k-init : goal.loop-k-init
loop-k-init c = λ z. laws.highest_start _ _ _ refl

pub loop-k-preserved : goal.loop-k-preserved
loop-k-preserved c =
    elim c.if-has.branch [
      | then-has w ↦ rw w.best-is (λ z. c.loop-k.invariant z ∙ laws.highest_yes _ _ _ _ _ _ c.loop-k-test.true c.has.ensures w.if-has.true
          w.tier.ensures w.greater-best.ensures)
      | else-has w ↦ rw w.best-is (λ z. c.loop-k.invariant z ∙ laws.highest_no _ _ _ _ _ _ c.loop-k-test.true c.has.ensures
          w.if-has.false)
    ]

pub returns : goal.returns
returns c = sym (c.loop-k.invariant _ ∙ laws.highest_end _ _ _ _ _ _ c.loop-k-test.false)
