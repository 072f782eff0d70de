use mathlib.Core.Path.{◌≡◌}
use lib.ListN.{length}
use Prim.Native.Nat.{◌-◌, ◌≤◌}
use Rattle.reasons.specs.Readable.{HasText}
use Rattle.reasons.specs.Lists.{listed, Clean}
use Rattle.engine_unsupported.specs.Listing.{unsupported_m, rules_m}
use Rattle.engine_unsupported.proofs.unsupported.Given as goal

abbrev pub invariant-loop-i : goal.invariant-loop-i
invariant-loop-i l =
    ((length l.u ≡ length l.initial.u) × ((l.rules ≤ 32) × (HasText l.f → Clean l.f l.k l.u)))
    × (unsupported_m l.f l.x ≡ rules_m l.f l.x (l.rules - l.i) l.i (listed l.f l.k l.u))
