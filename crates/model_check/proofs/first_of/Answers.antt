use mathlib.Core.Path.{◌≡◌, sym, ◌∙◌}
use native.Mathlib.Omega.{arith}
use Rattle.model_check.proofs.Laws as laws
use Rattle.model_check.proofs.first_of.Goals as goal

pub loop-i-init : goal.loop-i-init
loop-i-init c = (laws.first_same _ _ _ _ (omega arith), omega arith)

pub returns-then-place_is : goal.returns-then-place_is
returns-then-place_is c = (
  sym (c.loop-i.invariant.0 ∙ laws.first_here _ _ _ _ _ (omega arith) (sym c.place_is.ensures ∙ c.if-place_is.true)),
  omega arith,
)

pub loop-i-preserved : goal.loop-i-preserved
loop-i-preserved c = (
  c.loop-i.invariant.0 ∙ laws.first_later _ _ _ _ _ (omega arith) (sym c.place_is.ensures ∙ c.if-place_is.false)
      ∙ laws.first_same _ _ _ _ (omega arith),
  omega arith,
)

pub returns : goal.returns
returns c =
    let e : c.args.count ≡ c.loop-i.i = omega arith in
    (e ∙ sym (c.loop-i.invariant.0 ∙ laws.first_end _ _ _ _ _ (omega arith)), omega arith)
