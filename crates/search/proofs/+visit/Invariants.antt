use Prim.Native.Nat.{◌-◌, ◌≤◌}
use mathlib.Core.Path.{◌≡◌}
use lib.ListN.{length}
use Rattle.search.specs.Meaning.{entire}
use Rattle.search.specs.Promises.{Walks}
use Rattle.search.proofs.+visit.Given as goal

abbrev pub decreases-visit : goal.decreases-visit
decreases-visit l = l.remaining

abbrev pub invariant-loop-k : goal.invariant-loop-k
invariant-loop-k l =
    (length l.queue ≡ length l.initial.queue) × ((length l.records ≡ length l.initial.records)
    × ((length l.runs ≡ length l.initial.runs) × ((length l.w ≡ length l.initial.w)
    × ((l.k ≤ l.pairs) × Walks l.file (entire l.p l.table l.starts l.notes) (l.remaining - 1) l.placed l.initial.s l.initial.w l.k l.s l.w (length l.initial.queue)
    (length l.initial.records) (length l.initial.runs)))))
