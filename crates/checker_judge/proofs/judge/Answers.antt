use mathlib.Core.Path.{refl}
use Prim.Native.Nat.{◌-◌}
use native.Mathlib.Omega.{arith}
use Rattle.checker_judge.proofs.Laws as laws
use Rattle.checker_judge.proofs.judge.Goals as goal

pub loop-k-init : goal.loop-k-init
loop-k-init c = (
  laws.starts _ _ _ _ _ _ _ _ c.capped-p.ensures c.nothing_yet-m.ensures,
  (refl, c.name_all.ensures),
)

pub next_turn-shown-requires : goal.next_turn-shown-requires
next_turn-shown-requires c = (omega (arith, c.if-n-k.false, c.requires), c.loop-k.invariant.1.0)

pub overflow_add-k : goal.overflow_add-k
overflow_add-k c = omega (arith, c.if-n-k.false, c.ranges)

pub loop-k-smaller : goal.loop-k-smaller
loop-k-smaller c = omega (arith, c.if-n-k.false, c.next_to_read-k.ensures.quiet.onward)

pub loop-k-preserved : goal.loop-k-preserved
loop-k-preserved c =
    let inv = c.loop-k.invariant in
    let skipped = laws.skips _ _ _ _ _ _ _ _ _ _ inv.1.1 _ _ inv.0 c.next_to_read-k.ensures in
    let turn = c.next_turn-shown.ensures in (
      laws.goes _ _ _ _ _ _ _ _ _ _ skipped _ _ c.if-n-k.false turn.turned _ _ refl c.failed.ensures
          c.if-failed.false,
      (turn.same, inv.1.1),
    )

pub returns-then-n-k : goal.returns-then-n-k
returns-then-n-k c =
    let inv = c.loop-k.invariant in
    let skipped = laws.skips _ _ _ _ _ _ _ _ _ _ inv.1.1 _ _ inv.0 c.next_to_read-k.ensures in
    laws.ends _ _ _ _ _ _ _ _ _ _ skipped _ refl _ c.if-n-k.true c.unfailed-reading.ensures

pub returns-then-failed : goal.returns-then-failed
returns-then-failed c =
    let inv = c.loop-k.invariant in
    let skipped = laws.skips _ _ _ _ _ _ _ _ _ _ inv.1.1 _ _ inv.0 c.next_to_read-k.ensures in
    laws.fails _ _ _ _ _ _ _ _ _ _ skipped _ _ c.if-n-k.false c.next_turn-shown.ensures.turned _ _ refl
    c.failed.ensures _ refl c.if-failed.true
