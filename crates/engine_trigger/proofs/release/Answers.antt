use mathlib.Core.Path.{refl}
use native.Mathlib.Omega.{arith}
use Rattle.engine_state.proofs.Laws.{none, one, two, same}
use Rattle.engine_state.proofs.Laws as states
use Rattle.engine_trigger.proofs.Laws as laws
use Rattle.engine_trigger.specs.Runs.{release_run_m, release_at_m, release_m}
use Rattle.engine_modes.specs.Modes.{now_m}
use borrow.Author.Rules.{rules}
use Rattle.engine_trigger.proofs.release.Goals as goal

pub run_at-run-requires : goal.run_at-run-requires
run_at-run-requires c = omega (arith, c.requires, c.find_queued-found.ensures.within _ c.in-Some.is)

pub put_run-requires : goal.put_run-requires
put_run-requires c = omega (arith, c.requires, c.find_queued-found.ensures.within _ c.in-Some.is)

pub returns-in-Some : goal.returns-in-Some
unfolding release_m release_at_m release_run_m
returns-in-Some c =
    states.moves (λ v n s. laws.with_found release_at_m c.find_queued-found.ensures c.in-Some.is
    (laws.with_run (release_run_m _) c.run_at-run.ensures (c.find_queued-found.ensures.within _ c.in-Some.is)
    (states.follow (now_m _) (laws.replaced _ _ _ c.requires.1 (search rules) _ _ _ c.put_run.ensures
    c.released.ensures (c.find_queued-found.ensures.within _ c.in-Some.is))
    (c.next_step.ensures.does _ _ _) two none one none)))

pub returns-in-None : goal.returns-in-None
unfolding release_m release_at_m release_run_m
returns-in-None c =
    states.moves (λ v n s. laws.with_found release_at_m c.find_queued-found.ensures c.in-None.is
    (states.stay (λ k. refl) (same c.requires.0) none (same c.requires.1) none))
