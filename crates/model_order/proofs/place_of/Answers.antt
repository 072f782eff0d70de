use mathlib.Core.Path.{◌≡◌, sym, ◌∙◌}
use native.Mathlib.Omega.{arith}
use Rattle.model_order.proofs.Laws as laws
use Rattle.model_order.proofs.place_of.Goals as goal

pub loop-place-init : goal.loop-place-init
loop-place-init c = (laws.place_left _ _ _ _ (omega arith), (omega arith, omega arith))

pub returns-then-text_is : goal.returns-then-text_is
returns-then-text_is c =
    sym (c.loop-place.invariant.0
    ∙ laws.place_here _ _ _ _ c.text_is.ensures _ (omega arith) c.if-text_is.true)

pub loop-place-preserved : goal.loop-place-preserved
loop-place-preserved c = (
  c.loop-place.invariant.0 ∙ laws.place_later _ _ _ _ c.text_is.ensures _ _ (omega arith)
      c.if-text_is.false (omega arith) ∙ laws.place_left _ _ _ _ (omega arith),
  (omega arith, omega arith),
)

pub returns : goal.returns
returns c =
    let e : c.args.count ≡ c.loop-place.place = omega arith in
    e ∙ sym (c.loop-place.invariant.0 ∙ laws.place_end _ _ _ _ _ (omega arith))
