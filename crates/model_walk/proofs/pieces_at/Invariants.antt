use Prim.Native.Nat.{◌-◌}
use mathlib.Core.Path.{◌≡◌}
use Rattle.model_walk.specs.Walk.{pieces_m, times_m, piece_m}
use Rattle.model_walk.proofs.pieces_at.Given as goal

abbrev pub invariant-loop : goal.invariant-loop
invariant-loop l = pieces_m l.texts l.piece l.s l.at l.notes ≡ times_m (l.count - l.counter) (piece_m l.texts l.piece) l.s l.p l.n
