use Prim.Native.Nat.{◌-◌}
use mathlib.Core.Path.{refl, ◌∙◌}
use lib.ListN.{length-set}
use native.Mathlib.Omega.{arith}
use Rattle.live_runs.proofs.Laws as laws
use Rattle.live_runs.proofs.forget.Goals as goal

pub loop-i-init : goal.loop-i-init
loop-i-init c = (omega arith, (refl, λ j h. absurd (omega arith)))

pub loop-i-preserved : goal.loop-i-preserved
loop-i-preserved c =
    let l = c.loop-i in (
      omega arith,
      (simp length-set l.invariant.1.0, laws.zero_more l.live l.i l.invariant.1.1),
    )

pub returns : goal.returns
returns c =
    record {
      is = λ l k. laws.none_yet _ (c.loop-i.invariant.1.0 ∙ k.wide) (λ i h. c.loop-i.invariant.1.1 i (omega arith));
    }
