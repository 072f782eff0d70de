use Rattle.bounds.proofs.Laws as bounds
use Rattle.checker_retry.proofs.Laws as laws
use Rattle.checker_retry.proofs.check_part.Goals as goal

pub slice_bounds-check_events-end-2 : goal.slice_bounds-check_events-end-2
slice_bounds-check_events-end-2 c = laws.prefix _ _ (bounds.smaller c.min-items.ensures).inside

pub slice_bounds-check_events-end-4 : goal.slice_bounds-check_events-end-4
slice_bounds-check_events-end-4 c = laws.prefix _ _ (bounds.smaller c.min-lines.ensures).inside

pub slice_bounds-check_events-end-6 : goal.slice_bounds-check_events-end-6
slice_bounds-check_events-end-6 c = laws.prefix _ _ (bounds.smaller c.min-rows.ensures).inside

pub returns : goal.returns
returns c =
    laws.partly c.check_events.ensures _ _ _ (laws.shorter _ _ (bounds.smaller c.min-items.ensures).inside)
    (laws.shorter _ _ (bounds.smaller c.min-lines.ensures).inside) (laws.shorter _ _ (bounds.smaller c.min-rows.ensures).inside)
