use Prim.Native.Nat.{◌-◌}
use mathlib.Core.Path.{◌≡◌}
use lib.ListN.{length}
use Rattle.reasons.specs.Readable.{HasText}
use Rattle.reasons.specs.Lists.{listed, Clean}
use Rattle.engine_notes.specs.Listing.{parts_m, part_m, times_m}
use Rattle.engine_notes.proofs.part_notes.Given as goal

abbrev pub invariant-loop : goal.invariant-loop
invariant-loop l =
    ((length l.u ≡ length l.initial.u) × (HasText l.f → Clean l.f l.n l.initial.u → Clean l.f l.k l.u))
    × (parts_m l.part l.id l.f l.at (listed l.f l.n l.initial.u) ≡ times_m (l.count - l.counter) (part_m l.part l.id) l.f l.p (listed l.f l.k l.u))
