use borrow.Author.Rules.{rules}
use mathlib.Core.Path.{refl}
use Prim.Native.Nat.{◌-◌}
use Rattle.lint_notes.proofs.Laws as laws
use Rattle.lint_notes.proofs.notes.Goals as goal

pub loop-i-init : goal.loop-i-init
loop-i-init c = ((λ k e h. laws.from_start _ _ _ h), refl)

pub loop-i-preserved : goal.loop-i-preserved
loop-i-preserved c =
    let done = c.rule_notes-out.ensures in (
      (λ k e h. c.loop-i.invariant.0 k e (laws.one_less _ _ _ _ c.loop-i-test.true (done k _ refl) h)),
      search rules,
    )

pub returns : goal.returns
returns c = λ k. c.loop-i.invariant.0 k _ (laws.none_left _ _ _ _ c.loop-i-test.false)
