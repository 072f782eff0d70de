use Prim.Native.Nat.{◌+◌, ◌*◌, ◌-◌, ◌≤◌}
use Rattle.texts.specs.Places.{start_from}
use mathlib.Core.Path.{◌≡◌}
use Rattle.texts.proofs.text_start.Given as goal

abbrev pub invariant-loop : goal.invariant-loop
invariant-loop l =
    (start_from l.f l.from l.place ≡ start_from l.f l.at (l.place - l.counter))
    × (l.at ≤ l.from + 256 * l.counter)
