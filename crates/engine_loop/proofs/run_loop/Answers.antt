use mathlib.Core.List.{[]}
use mathlib.Core.Path.{refl}
use native.Mathlib.Omega.{arith}
use Rattle.engine_state.proofs.Laws.{same}
use Rattle.engine_state.proofs.Laws as states
use Rattle.engine_loop.proofs.Laws as laws
use Rattle.engine_loop.proofs.run_loop.Goals as goal

pub why_stop-stop_reason-requires : goal.why_stop-stop_reason-requires
why_stop-stop_reason-requires c = omega (arith, c.requires)

pub loop-stop_reason-init : goal.loop-stop_reason-init
loop-stop_reason-init c =
    laws.loop_start _ _ _ (states.stay (λ k. refl) (same (omega (arith, c.requires))) (same (omega (arith, c.requires)))
    (same (omega (arith, c.requires))) (same (omega (arith, c.requires)))) c.why_stop-stop_reason.ensures (omega (arith, c.requires))

pub turn-s-requires : goal.turn-s-requires
turn-s-requires c = (
  omega (arith, c.loop-stop_reason.invariant.steps.queue),
  (
    omega (arith, c.loop-stop_reason.invariant.steps.records),
    (
      omega (arith, c.loop-stop_reason.invariant.steps.runs),
      (
        omega (arith, c.loop-stop_reason.invariant.steps.reasons),
        omega (arith, c.loop-stop_reason.invariant.room),
      ),
    ),
  ),
)

pub overflow_sub-left : goal.overflow_sub-left
overflow_sub-left c = omega (arith, c.loop-stop_reason.invariant.why_is.more c.loop-stop_reason-test.true)

pub why_stop-stop_reason-requires-in-loop-stop_reason : goal.why_stop-stop_reason-requires-in-loop-stop_reason
why_stop-stop_reason-requires-in-loop-stop_reason c = omega (arith, c.turn-s.ensures.queue)

pub loop-stop_reason-smaller : goal.loop-stop_reason-smaller
loop-stop_reason-smaller c = omega (arith, c.loop-stop_reason.invariant.why_is.more c.loop-stop_reason-test.true)

pub loop-stop_reason-preserved : goal.loop-stop_reason-preserved
loop-stop_reason-preserved c =
    laws.loop_step c.loop-stop_reason.invariant c.loop-stop_reason-test.true (c.turn-s.ensures.does [] [] []) c.why_stop-stop_reason-in-loop-stop_reason.ensures
    (omega (arith, c.loop-stop_reason.invariant.room, c.turn-s.ensures.reasons))

pub overflow_sub-steps : goal.overflow_sub-steps
overflow_sub-steps c = omega (arith, c.loop-stop_reason.invariant.least)

pub returns : goal.returns
returns c = laws.loop_halts c.loop-stop_reason.invariant _ refl c.loop-stop_reason-test.false
