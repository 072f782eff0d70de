use mathlib.Core.List.{List}
use Prim.Native.Nat.{◌-◌, ◌*◌, ◌≤◌}
use Rattle.records.specs.declared.Record.{Record}
use Rattle.checker_collect.specs.Collect.{first_m, Changes}
use Rattle.checker_collect.proofs.judge_all.Given as goal

abbrev pub invariant-loop-k : goal.invariant-loop-k
invariant-loop-k s = (s.k ≤ s.many) × Changes (λ (l : List Record). first_m s.f s.x s.starts s.cells l s.k) s.k (s.k * 2) s.k s.f s.a s.n s.initial.t s.t s.initial.v s.v s.initial.u s.u s.initial.w s.w
