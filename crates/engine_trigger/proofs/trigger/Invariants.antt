use Rattle.layout.specs.Sizes.{simulation_reason_words}
use Prim.Native.Nat.{◌≤◌, ◌-◌}
use lib.ListN.{length}
use Rattle.engine_trigger.specs.Triggers.{offer_first_m}
use Rattle.engine_state.specs.Steps.{Moves, goes, kept, told}
use Rattle.engine_trigger.proofs.trigger.Given as goal

abbrev pub invariant-loop-i : goal.invariant-loop-i
invariant-loop-i l =
    Moves (offer_first_m l.f l.x l.m l.i) l.initial.s l.s (goes l.initial.q l.q) (goes l.initial.a l.a) (goes l.initial.r l.r) (told l.f l.initial.u l.u) (goes l.values l.values) kept
    (goes l.initial.sequences l.sequences) × ((l.i ≤ l.n) × (simulation_reason_words ≤ length l.u))
