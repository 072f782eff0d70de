use native.Mathlib.Nat.{sub-zero, sub-add-eq}
use native.Mathlib.Omega.{arith}
use Prim.Native.Nat.{◌-◌}
use mathlib.Core.Path.{sym, ◌∙◌}
use Rattle.engine_evaluate.proofs.Laws as laws
use Rattle.engine_evaluate.proofs.any_matches.Goals as goal

pub loop-init : goal.loop-init
loop-init c =
    rw sub-zero (laws.any_start _ _ _ _ _ c.two_at-count.ensures.0 c.after-p.ensures)

pub returns-then-matches : goal.returns-then-matches
returns-then-matches c =
    sym (c.loop.invariant ∙ laws.any_here _ _ _ _ _ (omega arith) c.matches.ensures
    c.if-matches.true)

pub loop-preserved : goal.loop-preserved
loop-preserved c =
    rw sub-add-eq (c.loop.invariant ∙ laws.any_later _ _ _ _ _ (omega arith) c.matches.ensures _
    c.if-matches.false c.after-p-in-loop.ensures)

pub returns : goal.returns
returns c = sym (c.loop.invariant ∙ laws.any_end _ _ _ _ (omega arith))
