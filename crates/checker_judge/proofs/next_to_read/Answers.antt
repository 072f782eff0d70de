use mathlib.Core.Path.{refl, sym, ◌∙◌}
use Prim.Native.Nat.{◌-◌}
use native.Mathlib.Omega.{arith}
use Rattle.checker_judge.proofs.Laws as laws
use Rattle.checker_judge.proofs.next_to_read.Goals as goal

pub returns-then-k-eq0 : goal.returns-then-k-eq0
returns-then-k-eq0 c = laws.skips_none _ _ _ _ _ _ c.if-k-eq0.true

pub returns-then-pending : goal.returns-then-pending
returns-then-pending c = laws.skips_none _ _ _ _ _ _ refl

pub loop-j-init : goal.loop-j-init
loop-j-init c = laws.none_quiet _ _ _ _ _ refl

pub overflow_add-j : goal.overflow_add-j
overflow_add-j c =
    omega (
      arith,
      c.is_quiet.ensures.among c.loop-j-test.true,
      c.ranges,
    )

pub loop-j-smaller : goal.loop-j-smaller
loop-j-smaller c = omega (arith, c.is_quiet.ensures.among c.loop-j-test.true)

pub loop-j-preserved : goal.loop-j-preserved
loop-j-preserved c = laws.one_more _ _ _ _ _ c.loop-j.invariant c.is_quiet.ensures c.loop-j-test.true

pub returns : goal.returns
returns c =
    record {
      quiet = c.loop-j.invariant;
      later_ones = λ h. omega (arith, c.if-k-eq0.false);
      idle = λ h. sym c.pending.ensures ∙ c.if-pending.false;
    }
