use lib.ListN.{length, length-take, length-drop, length-append}
use Rattle.model_rewrite.specs.Written.{first_events, event_at}
use mathlib.Core.Path.{◌≡◌, refl, ap}
use borrow.Author.Rules.{rules}
use native.Mathlib.Omega.{arith}
use Rattle.model_rewrite.proofs.Laws as laws
use Rattle.model_rewrite.proofs.write_each.Goals as goal

pub loop-k-init : goal.loop-k-init
loop-k-init c = (search rules, (refl, laws.none_yet _ _))

pub slice_bounds-write_event-count : goal.slice_bounds-write_event-count
slice_bounds-write_event-count c =
    let o = c.loop-k in let a = c.args in let h =
    laws.next_size a.events.now a.n o.k c.loop-k-test.true in let s = o.invariant.1.1.is_size in omega arith

pub slice_bounds-write_event-start : goal.slice_bounds-write_event-start
slice_bounds-write_event-start c =
    let o = c.loop-k in let a = c.args in let h =
    laws.next_size a.events.now a.n o.k c.loop-k-test.true in let s = o.invariant.1.1.is_size in search rules

pub write_event-at-requires : goal.write_event-at-requires
write_event-at-requires c =
    let o = c.loop-k in let a = c.args in let h =
    laws.next_size a.events.now a.n o.k c.loop-k-test.true in let s = o.invariant.1.1.is_size in (
      omega arith,
      (
        c.requires.0.each o.k c.loop-k-test.true,
        simp (length-take, length-drop) (omega arith),
      ),
    )

pub overflow_add-at : goal.overflow_add-at
overflow_add-at c =
    let o = c.loop-k in let a = c.args in let h = laws.next_size a.events.now a.n o.k c.loop-k-test.true in
    let s = o.invariant.1.1.is_size in omega (arith, c.write_event-at.ensures.is_size)

pub loop-k-preserved : goal.loop-k-preserved
loop-k-preserved c =
    let o = c.loop-k in let a = c.args in let h = laws.next_size a.events.now a.n o.k c.loop-k-test.true in
    let s = o.invariant.1.1.is_size in let w = laws.event_more a.events.now o.k o.invariant.1.1 refl (omega arith)
    c.write_event-at.ensures in (
      search rules,
      (
        laws.wrote_length w
            (omega (
              arith,
              ap length (laws.next_event a.events.now o.k),
              length-append (first_events a.events.now o.k) (event_at a.events.now o.k),
            )),
        w,
      ),
    )

pub shape_of-out : goal.shape_of-out
shape_of-out c = c.loop-k.invariant.1.0

pub returns : goal.returns
returns c =
    let o = c.loop-k in let e : o.k ≡ c.args.n = omega arith in
    rw e at o.invariant.1.1
