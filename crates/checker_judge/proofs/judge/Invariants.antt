use mathlib.Core.Path.{◌≡◌}
use Prim.Native.Nat.{◌-◌}
use Rattle.checker_judge.specs.Names.{named_in}
use Rattle.checker_judge.proofs.Laws as laws
use Rattle.checker_judge.proofs.judge.Given as goal

abbrev pub invariant-loop-k : goal.invariant-loop-k
invariant-loop-k l = laws.From l.f l.x l.at l.initial.before l.a l.n l.p l.before l.m l.k × ((l.before ≡ l.present) × (l.named ≡ named_in l.f l.p))

abbrev pub decreases-loop-k : goal.decreases-loop-k
decreases-loop-k l = l.n - l.k
