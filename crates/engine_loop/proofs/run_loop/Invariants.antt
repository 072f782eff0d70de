use Rattle.engine_loop.proofs.Laws.{Looped}
use Rattle.engine_loop.proofs.run_loop.Given as goal

abbrev pub invariant-loop-stop_reason : goal.invariant-loop-stop_reason
invariant-loop-stop_reason l = Looped l.f l.x l.initial.s l.s l.initial.q l.q l.initial.a l.a l.initial.r l.r l.initial.u l.u l.initial.values l.values l.initial.versions l.versions l.initial.sequences l.sequences l.left l.stop_reason

abbrev pub decreases-loop-stop_reason : goal.decreases-loop-stop_reason
decreases-loop-stop_reason l = l.left
