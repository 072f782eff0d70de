use mathlib.Core.Path.{◌≡◌}
use Prim.Native.Nat.{◌-◌}
use Rattle.lint_access.specs.Sets.{section_by, along, add_trigger_m}
use Rattle.lint_walk.specs.Raw.{past}
use Rattle.lint_access.proofs.add_triggers.Given as goal

abbrev pub invariant-loop : goal.invariant-loop
invariant-loop l =
    along (add_trigger_m l.s (section_by l.entities l.many)) (λ q. past l.s q 16) l.count l.initial.p l.initial.out
    ≡ along (add_trigger_m l.s (section_by l.entities l.many)) (λ q. past l.s q 16) (l.count - l.counter) l.p l.out
