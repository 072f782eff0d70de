use native.Mathlib.Nat.{sub-zero, sub-add-eq}
use native.Mathlib.Omega.{arith}
use Prim.Native.Nat.{◌-◌}
use mathlib.Core.Path.{sym, ◌∙◌}
use Rattle.checker_judge.proofs.Named as named
use Rattle.checker_judge.proofs.name_list.Goals as goal

pub loop-init : goal.loop-init
loop-init c =
    rw sub-zero (named.each_start _ _ _ _ _ c.two_at-count.ensures.0 c.after-p.ensures)

pub loop-preserved : goal.loop-preserved
loop-preserved c =
    rw sub-add-eq (c.loop.invariant
    ∙ named.each_more _ _ _ _ _ _ (omega arith) c.name_predicate.ensures
    c.after_predicate-p.ensures)

pub returns : goal.returns
returns c = sym (c.loop.invariant ∙ named.each_end _ _ _ _ (omega arith))
