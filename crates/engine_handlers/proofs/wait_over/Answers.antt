use native.Mathlib.Omega.{arith}
use Rattle.engine_state.proofs.Laws.{none, one, two, both, same}
use Rattle.engine_state.proofs.Laws as states
use Rattle.engine_trigger.proofs.Laws as steps
use Rattle.engine_handlers.proofs.Laws as laws
use Rattle.engine_handlers.specs.Handlers.{over_on_m, over_end_m}
use Rattle.engine_modes.specs.Modes.{now_m}
use Rattle.engine_trigger.specs.Runs.{put_run_m, finish_m}
use borrow.Author.Rules.{rules}
use Rattle.engine_handlers.proofs.wait_over.Goals as goal

pub returns-then-w-st : goal.returns-then-w-st
returns-then-w-st c =
    states.moves (λ v n s. states.stay (λ k. laws.over_early _ _ _ _ c.if-w-st.true) (same c.requires.1.0)
    (same c.requires.1.1.0) (same c.requires.1.1.1) none)

pub put_run-requires : goal.put_run-requires
put_run-requires c =
    omega (
      arith,
      c.requires,
    )

pub next_step-requires : goal.next_step-requires
next_step-requires c = omega (arith, c.requires, c.log_action-s1.ensures.queue)

pub returns-then-w : goal.returns-then-w
unfolding over_on_m
returns-then-w c =
    states.moves
    (λ v n s. states.renamed _ (states.follow (now_m _)
    (states.follow (put_run_m _ _) (c.log_action-s1.ensures.does _ _ _)
    (steps.replaced _ _ _ (omega (arith, c.requires, c.log_action-s1.ensures.runs)) (search rules) _ _ _
    c.put_run.ensures c.with_phase-going.ensures (omega (arith, c.requires, c.log_action-s1.ensures.runs)))
    none one two none) (c.next_step.ensures.does _ _ _) two one one none)
    (λ k. laws.over_goes _ _ _ _ c.if-w-st.false c.if-w.true))

pub finish-requires : goal.finish-requires
finish-requires c = (
  omega (arith, c.requires, c.log_action-s2.ensures.runs),
  (
    omega (arith, c.requires, c.log_action-s2.ensures.queue),
    (
      omega (arith, c.requires, c.log_action-s2.ensures.records),
      omega (arith, c.requires, c.log_action-s2.ensures.runs),
    ),
  ),
)

pub returns : goal.returns
unfolding over_end_m
returns c =
    states.moves
    (λ v n s. states.renamed _ (states.follow (finish_m _) (c.log_action-s2.ensures.does _ _ _)
    (c.finish.ensures.does _ _ _) two both two none) (λ k. laws.over_ends _ _ _ _ c.if-w-st.false c.if-w.false))
