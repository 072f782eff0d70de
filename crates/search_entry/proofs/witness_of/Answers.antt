use Rattle.search_entry.proofs.Rewriting as rewriting
use mathlib.Core.Path.{refl, sym}
use Rattle.search_entry.proofs.witness_of.Goals as goal

pub slice_bounds-check_settled-end : goal.slice_bounds-check_settled-end
slice_bounds-check_settled-end c = sym (rewriting.long c.requires)

pub check_settled-check-requires : goal.check_settled-check-requires
check_settled-check-requires c = rewriting.check_asks c.requires

pub slice_bounds-rewrite-end : goal.slice_bounds-rewrite-end
slice_bounds-rewrite-end c = sym (rewriting.long c.requires)

pub rewrite-written-requires : goal.rewrite-written-requires
rewrite-written-requires c = rewriting.write_asks c.requires c.events_in-place.ensures c.args.output.now refl

pub returns : goal.returns
returns c =
    rewriting.writes_so c.args.placed c.check_settled-check.ensures c.events_in-place.ensures
    c.rewrite-written.ensures
