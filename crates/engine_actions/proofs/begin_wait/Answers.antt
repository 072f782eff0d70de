use mathlib.Core.Path.{refl}
use Rattle.engine_fields.proofs.Readable.{alone_readable}
use native.Mathlib.Omega.{arith}
use Rattle.engine_state.proofs.Laws.{none, one, two, same, wide}
use Rattle.engine_state.proofs.Laws as states
use Rattle.engine_trigger.proofs.Laws as steps
use Rattle.engine_actions.proofs.Laws as laws
use Rattle.engine_actions.specs.Actions.{waiting_m}
use Rattle.engine_trigger.specs.Runs.{finish_m}
use Rattle.engine_state.specs.Changes.{log_action_m, add_m}
use borrow.Author.Rules.{rules}
use Rattle.engine_actions.proofs.begin_wait.Goals as goal

pub uncertain-s0-requires : goal.uncertain-s0-requires
uncertain-s0-requires c = (
  search rules,
  (search rules, λ t. alone_readable c.by_itself-why.ensures (record { known = omega arith; is = refl })),
)

pub finish-requires : goal.finish-requires
finish-requires c = (
  omega (arith, c.requires, c.uncertain-s0.ensures.runs),
  (
    omega (arith, c.requires, c.uncertain-s0.ensures.queue),
    (omega (arith, c.requires, c.uncertain-s0.ensures.records), omega (arith, c.requires, c.uncertain-s0.ensures.runs)),
  ),
)

pub returns-then-two_at-ne-NO_PLACE : goal.returns-then-two_at-ne-NO_PLACE
returns-then-two_at-ne-NO_PLACE c =
    states.moves
    (λ v n s. states.renamed _ (states.follow (finish_m _) (c.uncertain-s0.ensures.does _ _ _)
    (c.finish.ensures.does _ _ _) two two two one)
    (λ k. laws.wait_note _ _ _ _ _ _ _ c.two_at.ensures.0 _ c.if-two_at-ne-NO_PLACE.true c.by_itself-why.ensures))

pub put_run-requires : goal.put_run-requires
put_run-requires c =
    omega (
      arith,
      c.requires,
    )

pub add-s1-requires : goal.add-s1-requires
add-s1-requires c = omega (arith, c.requires)

pub log_action-requires : goal.log_action-requires
log_action-requires c = omega (arith, c.requires, c.add-s1.ensures.records)

pub returns : goal.returns
unfolding waiting_m
returns c =
    states.moves
    (λ v n s. states.renamed _
    (states.widen (states.follow (log_action_m 16 _ _ _)
    (states.follow (add_m _ _) (steps.replaced _ _ _ (omega (arith, c.requires)) (search rules) _ _ _
    c.put_run.ensures c.with_phase-waiting.ensures (omega (arith, c.requires))) (c.add-s1.ensures.does _ _ _)
    two none one none) (c.log_action.ensures.does _ _ _) one two one none) same same same
    (wide (omega (arith, c.requires)))) (λ k. laws.wait_goes _ _ _ _ _ _ _ c.two_at.ensures.0 _ _ _ c.if-two_at-ne-NO_PLACE.false
    c.four_at-seconds.ensures c.after-deadline.ensures c.byte_at-continue_on_timeout.ensures.0))
