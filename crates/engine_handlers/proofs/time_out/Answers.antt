use mathlib.Core.Path.{refl}
use native.Mathlib.Omega.{arith}
use Rattle.engine_state.proofs.Laws.{none, same}
use Rattle.engine_state.proofs.Laws as states
use Rattle.engine_trigger.proofs.Laws as steps
use Rattle.engine_handlers.proofs.Laws as laws
use Rattle.engine_handlers.specs.Handlers.{time_out_m, time_at_m, time_run_m}
use Rattle.engine_handlers.proofs.time_out.Goals as goal

pub returns-in_default : goal.returns-in_default
unfolding time_out_m time_at_m
returns-in_default c =
    states.moves (λ v n s. steps.with_found time_at_m c.find_run-found.ensures c.in_default.is
    (states.stay (λ k. refl) (same c.requires.0) (same c.requires.1.0) (same c.requires.1.1) none))

pub run_at-run-requires : goal.run_at-run-requires
run_at-run-requires c = omega (arith, c.requires, c.find_run-found.ensures.within _ c.in-Some.is)

pub returns-in_default-phase : goal.returns-in_default-phase
unfolding time_out_m time_at_m
returns-in_default-phase c =
    states.moves (λ v n s. steps.with_found time_at_m c.find_run-found.ensures c.in-Some.is
    (steps.with_run (time_run_m _) c.run_at-run.ensures
    (c.find_run-found.ensures.within _ c.in-Some.is)
    (states.stay (λ k. laws.time_going _ _ _ c.in_default-phase.is) (same c.requires.0) (same c.requires.1.0)
    (same c.requires.1.1) none)))

pub wait_over-requires : goal.wait_over-requires
wait_over-requires c = (c.find_run-found.ensures.within _ c.in-Some.is, c.requires)

pub returns : goal.returns
unfolding time_out_m time_at_m
returns c =
    states.moves (λ v n s. steps.with_found time_at_m c.find_run-found.ensures c.in-Some.is
    (steps.with_run (time_run_m _) c.run_at-run.ensures (c.find_run-found.ensures.within _ c.in-Some.is)
    (states.renamed _ (c.wait_over.ensures.does _ _ _) (λ k. laws.time_wait _ _ _ _ c.in-Some-phase.is))))
