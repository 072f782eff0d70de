use Prim.Native.Nat.{◌+◌, ◌-◌, ◌≤◌}
use mathlib.Core.Path.{◌≡◌}
use lib.ListN.{length}
use Rattle.search.specs.Meaning.{entire}
use Rattle.search.specs.Promises.{Depths}
use Rattle.search.proofs.deepen.Given as goal

abbrev pub invariant-loop-d : goal.invariant-loop-d
invariant-loop-d l =
    (length l.queue ≡ length l.initial.queue) × ((length l.records ≡ length l.initial.records)
    × ((length l.runs ≡ length l.initial.runs) × ((length l.w ≡ length l.initial.w)
    × ((l.d ≤ l.depth + 1) × Depths l.file (entire l.p l.table l.starts l.notes) l.d l.initial.s l.initial.w l.s l.w (length l.initial.queue) (length l.initial.records)
    (length l.initial.runs)))))
