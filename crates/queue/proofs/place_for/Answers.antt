use borrow.Author.Rules.{rules}
use Prim.Native.Nat.{◌+◌, ◌-◌, ◌≤◌, ◌<◌, ◌/◌}
use native.Mathlib.Omega.{arith}
use lib.ListN.{get_or}
use Rattle.queue.specs.Order.{in_order}
use Rattle.queue.specs.Queue.{second_of}
use Rattle.queue.proofs.Order as order
use Rattle.queue.proofs.Laws as laws
use Rattle.queue.proofs.place_for.Goals as goal

pub loop-low-init : goal.loop-low-init
loop-low-init c = (
  search rules,
  (
    search rules,
    λ l x ln s rep. (
      order.pass_none second_of x (in_order second_of l),
      order.ahead_none second_of x (in_order second_of l) c.args.n (omega (arith, order.order_length second_of l)),
    ),
  ),
)

pub loop-low-preserved-then-a-first : goal.loop-low-preserved-then-a-first
loop-low-preserved-then-a-first c =
    let a = c.args in let o = c.loop-low in let mid = o.low + (o.high - o.low) / 2 in (
      omega arith,
      (
        omega arith,
        λ l x ln s rep. let e =
            laws.second_at a.a.now a.first a.n l ln rep c.requires mid x (omega arith) in
            let q : (get_or (in_order second_of l) mid x).second ≤ x.second = omega (arith, c.if-a-first.true) in
            (order.pass_to second_of x l mid x (omega arith) q, (o.invariant.1.1 l x ln s rep).1),
      ),
    )

pub loop-low-preserved : goal.loop-low-preserved
loop-low-preserved c =
    let a = c.args in let o = c.loop-low in let mid = o.low + (o.high - o.low) / 2 in (
      omega arith,
      (
        omega arith,
        λ l x ln s rep. let e =
            laws.second_at a.a.now a.first a.n l ln rep c.requires mid x (omega arith) in
            let q : x.second < (get_or (in_order second_of l) mid x).second = omega (arith, c.if-a-first.false) in (
              (o.invariant.1.1 l x ln s rep).0,
              order.ahead_of second_of x (in_order second_of l) mid x
                  (omega (arith, order.order_length second_of l)) q,
            ),
      ),
    )

pub returns : goal.returns
returns c =
    let o = c.loop-low in record {
      within = omega arith;
      is = λ l x ln s rep. let r = o.invariant.1.1 l x ln s rep in
          order.placed second_of x (in_order second_of l) o.low o.high r.0 r.1 (omega arith);
    }
