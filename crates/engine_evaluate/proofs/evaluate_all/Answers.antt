use native.Mathlib.Nat.{sub-zero, sub-add-eq}
use native.Mathlib.Omega.{arith}
use Prim.Native.Nat.{◌-◌}
use mathlib.Core.Path.{sym, ◌∙◌}
use Rattle.engine_evaluate.proofs.Laws as laws
use Rattle.engine_evaluate.proofs.evaluate_all.Goals as goal

pub loop-init : goal.loop-init
loop-init c =
    rw sub-zero (laws.all_start _ _ _ _ _ _ _ c.two_at-count.ensures.0 c.after-p.ensures)

pub loop-preserved : goal.loop-preserved
loop-preserved c =
    rw sub-add-eq (c.loop.invariant ∙ laws.all_more _ _ _ _ _ _ _ _ _ _ _ (omega arith) c.evaluate.ensures
    c.both-t.ensures c.predicate_size.ensures c.after-p-in-loop.ensures)

pub returns : goal.returns
returns c = sym (c.loop.invariant ∙ laws.all_end _ _ _ _ _ _ _ (omega arith))
