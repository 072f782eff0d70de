use native.Mathlib.Nat.{sub-zero, sub-add-eq}
use native.Mathlib.Omega.{arith}
use Prim.Native.Nat.{◌-◌}
use mathlib.Core.Path.{sym, ◌∙◌}
use Rattle.engine_evaluate.proofs.Laws as laws
use Rattle.engine_evaluate.proofs.select.Goals as goal

pub loop-init : goal.loop-init
loop-init c =
    rw sub-zero (laws.select_start _ _ _ _ _ _ _ c.two_at-count.ensures.0 c.after-p.ensures)

pub returns-in-Take : goal.returns-in-Take
returns-in-Take c =
    sym (c.loop.invariant ∙ laws.select_take _ _ _ _ _ _ _ (omega arith) c.branch_at-b.ensures _
    c.in-Take.is)

pub returns-in-Unclear : goal.returns-in-Unclear
returns-in-Unclear c =
    sym (c.loop.invariant ∙ laws.select_unclear _ _ _ _ _ _ _ (omega arith) c.branch_at-b.ensures
    c.in-Unclear.is)

pub loop-preserved : goal.loop-preserved
loop-preserved c =
    rw sub-add-eq (c.loop.invariant ∙ laws.select_skip _ _ _ _ _ _ _ (omega arith) c.branch_at-b.ensures _
    c.in-Skip.is)

pub returns : goal.returns
returns c = sym (c.loop.invariant ∙ laws.select_end _ _ _ _ _ _ (omega arith))
