use mathlib.Core.Path.{sym, ◌∙◌}
use native.Mathlib.Omega.{arith}
use Rattle.engine_fields.proofs.Laws as laws
use Prim.Native.Nat.{◌-◌}
use Rattle.engine_fields.proofs.entity_of.Goals as goal

pub loop-e-init : goal.loop-e-init
loop-e-init c = (laws.entity_start _ _ _ c.at_most-n.ensures.0, omega arith)

pub returns-then-name_of-id : goal.returns-then-name_of-id
returns-then-name_of-id c =
    sym (c.loop-e.invariant.0 ∙ laws.entity_here _ _ _ _ _ c.loop-e-test.true c.name_of.ensures
    c.if-name_of-id.true)

pub loop-e-preserved : goal.loop-e-preserved
loop-e-preserved c = (
  c.loop-e.invariant.0 ∙ laws.entity_later _ _ _ _ _ c.loop-e-test.true c.name_of.ensures
      c.if-name_of-id.false,
  omega arith,
)

pub returns : goal.returns
returns c = sym (c.loop-e.invariant.0 ∙ laws.entity_none _ _ _ _ c.loop-e-test.false)
