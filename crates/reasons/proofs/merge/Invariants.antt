use Prim.Native.Nat.{◌-◌}
use lib.ListN.{length, drop}
use Rattle.reasons.specs.Lists.{listed, insert_all, Clean}
use mathlib.Core.Path.{◌≡◌}
use Rattle.reasons.proofs.merge.Given as goal

abbrev pub invariant-loop-j : goal.invariant-loop-j
invariant-loop-j l =
    (length l.a ≡ length l.initial.a)
    × ((insert_all (listed l.f l.m l.b) (listed l.f l.n l.initial.a) ≡ insert_all (drop l.j (listed l.f l.m l.b)) (listed l.f l.k l.a))
    × (Clean l.f l.m l.b → Clean l.f l.n l.initial.a → Clean l.f l.k l.a))
