use Rattle.checker_result.proofs.Laws as laws
use native.Mathlib.Omega.{arith}
use Rattle.checker_result.proofs.add_stopped.Goals as goal

pub returns-then-why-eq0 : goal.returns-then-why-eq0
returns-then-why-eq0 c = laws.starts_none _ _ c.if-why-eq0.true _

pub insert_sorted-requires : goal.insert_sorted-requires
insert_sorted-requires c = laws.insert_room _ _ 0 _ (omega (arith, c.requires))

pub returns-then-why-eq1 : goal.returns-then-why-eq1
returns-then-why-eq1 c =
    laws.starts_space _ _ c.if-why-eq0.false c.if-why-eq1.true c.by_itself-space.ensures _ _
    c.insert_sorted.ensures

pub insert_sorted-requires-2 : goal.insert_sorted-requires-2
insert_sorted-requires-2 c = laws.insert_room _ _ 0 _ (omega (arith, c.requires))

pub returns : goal.returns
returns c =
    laws.starts_steps _ _ c.if-why-eq0.false c.if-why-eq1.false c.by_itself-steps.ensures _ _
    c.insert_sorted-2.ensures
