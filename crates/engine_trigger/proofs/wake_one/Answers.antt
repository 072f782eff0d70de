use mathlib.Core.Path.{refl, sym, ◌∙◌, ap}
use native.Mathlib.Omega.{arith}
use Rattle.engine_state.proofs.Laws.{none, one, two, same}
use Rattle.engine_state.proofs.Laws as states
use Rattle.engine_trigger.proofs.Laws as laws
use Rattle.engine_trigger.specs.Runs.{wake_run_m, wake_one_m}
use Rattle.engine_modes.specs.Modes.{now_m}
use borrow.Author.Rules.{rules}
use Rattle.engine_trigger.proofs.wake_one.Goals as goal

pub returns-in_default : goal.returns-in_default
unfolding wake_one_m
returns-in_default c = (
  states.moves (λ v n s. laws.with_run (wake_run_m _ _ _) refl c.requires.0
      (states.stay (λ k. laws.wake_going _ _ _ _ _ (sym c.phase_at-phase.ensures ∙ c.in_default.is))
      (same c.requires.1.0) none (same c.requires.1.1) none)),
  refl,
)

pub put_run-requires : goal.put_run-requires
put_run-requires c =
    omega (
      arith,
      c.requires,
    )

pub next_step-requires : goal.next_step-requires
next_step-requires c = omega (arith, c.requires)

pub returns-then-matches : goal.returns-then-matches
unfolding wake_one_m
returns-then-matches c = (
  states.moves (λ v n s. laws.with_run (wake_run_m _ _ _) c.run_at-run.ensures c.requires.0
      (states.renamed _
      (states.follow (now_m _) (laws.replaced _ _ _ c.requires.1.1 (search rules) _ _ _ c.put_run.ensures
      c.with_phase-going.ensures c.requires.0) (c.next_step.ensures.does _ _ _) two none one none)
      (λ k. laws.wake_yes _ _ _ _ _ _ _ (ap (λ z. z.phase) c.run_at-run.ensures ∙ sym c.phase_at-phase.ensures
      ∙ c.in-Some.is) c.matches.ensures c.if-matches.true))),
  c.next_step.ensures.runs,
)

pub returns : goal.returns
unfolding wake_one_m
returns c = (
  states.moves (λ v n s. laws.with_run (wake_run_m _ _ _) refl c.requires.0
      (states.stay (λ k. laws.wake_no _ _ _ _ _ _ _ (sym c.phase_at-phase.ensures ∙ c.in-Some.is)
      c.matches.ensures c.if-matches.false) (same c.requires.1.0) none (same c.requires.1.1) none)),
  refl,
)
