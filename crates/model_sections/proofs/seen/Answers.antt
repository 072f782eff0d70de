use mathlib.Core.Path.{refl, sym, ◌∙◌}
use native.Mathlib.Omega.{arith}
use Rattle.model_sections.proofs.Laws as laws
use Rattle.model_sections.proofs.seen.Goals as goal

pub loop-i-init : goal.loop-i-init
loop-i-init c = (refl, omega arith)

pub returns-then-id_is : goal.returns-then-id_is
returns-then-id_is c =
    sym (c.loop-i.invariant.0 ∙ laws.seen_here _ _ _ _ _ _ c.loop-i-test.true refl
    (sym c.id_is.ensures ∙ c.if-id_is.true))

pub loop-i-preserved : goal.loop-i-preserved
loop-i-preserved c = (
  c.loop-i.invariant.0 ∙ laws.seen_later _ _ _ _ _ _ c.loop-i-test.true refl
      (sym c.id_is.ensures ∙ c.if-id_is.false),
  omega arith,
)

pub returns : goal.returns
returns c = sym (c.loop-i.invariant.0 ∙ laws.seen_none _ _ _ _ _ c.loop-i-test.false)
