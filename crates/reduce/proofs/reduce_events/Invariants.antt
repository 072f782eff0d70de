use Prim.Native.Nat.{◌-◌}
use Rattle.engine_entry.specs.Prepared.{prepared_of}
use Rattle.reduce.proofs.Reduction.{Looped}
use Rattle.reduce.proofs.reduce_events.Given as goal

abbrev pub invariant-loop-more : goal.invariant-loop-more
invariant-loop-more l =
    Looped l.file l.starts l.shared.invariants (prepared_of l.table l.shared.cells l.shared.notes l.notes) l.target l.initial.r.words
    l.n l.r l.more l.initial.queue l.queue l.initial.records l.records l.initial.runs l.runs

abbrev pub decreases-loop-more : goal.decreases-loop-more
decreases-loop-more l = 200 - l.r.attempts
