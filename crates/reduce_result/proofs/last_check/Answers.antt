use mathlib.Core.Path.{◌∙◌, sym}
use native.Mathlib.Omega.{arith}
use Rattle.bounds.proofs.Laws as bounds
use Rattle.reduce_result.proofs.Laws as laws
use Rattle.reduce_result.proofs.last_check.Goals as goal

pub slice_bounds-check_of-end : goal.slice_bounds-check_of-end
slice_bounds-check_of-end c = omega (arith, c.requires.long)

pub check_of-check-requires : goal.check_of-check-requires
check_of-check-requires c = c.requires.room.events.words

pub returns-then-s-ne0 : goal.returns-then-s-ne0
returns-then-s-ne0 c = laws.last_full c.check_of-check.ensures c.if-s-ne0.true c.refused.ensures _

pub slice_bounds-rewrite-end : goal.slice_bounds-rewrite-end
slice_bounds-rewrite-end c = omega (arith, c.requires.long)

pub rewrite-written-requires : goal.rewrite-written-requires
rewrite-written-requires c = laws.asked_here c.requires.room c.events_in-span.ensures

pub returns : goal.returns
returns c =
    laws.last_done c.check_of-check.ensures c.if-s-ne0.false c.events_in-span.ensures c.rewrite-written.ensures
    (λ h. c.place_of-invariant.ensures ∙ sym (bounds.most_yes _ _ h))
