use Rattle.engine_fields.proofs.Readable.{note_readable}
use native.Mathlib.Omega.{arith}
use Rattle.engine_state.proofs.Laws.{none, one, two, both}
use Rattle.engine_state.proofs.Laws as states
use Rattle.engine_actions.proofs.Laws as laws
use Rattle.engine_trigger.specs.Runs.{finish_m}
use Rattle.engine_state.specs.Changes.{log_action_m}
use borrow.Author.Rules.{rules}
use Rattle.engine_actions.proofs.give_up.Goals as goal

pub uncertain-s1-requires : goal.uncertain-s1-requires
uncertain-s1-requires c = (search rules, (search rules, note_readable _ c.note_reason-why.ensures))

pub log_action-s2-requires : goal.log_action-s2-requires
log_action-s2-requires c = omega (arith, c.requires, c.uncertain-s1.ensures.records)

pub finish-requires : goal.finish-requires
finish-requires c = (
  omega (arith, c.requires, c.uncertain-s1.ensures.runs, c.log_action-s2.ensures.runs),
  (
    omega (arith, c.requires, c.uncertain-s1.ensures.queue, c.log_action-s2.ensures.queue),
    (
      omega (arith, c.log_action-s2.ensures.records),
      omega (arith, c.requires, c.uncertain-s1.ensures.runs, c.log_action-s2.ensures.runs),
    ),
  ),
)

pub returns : goal.returns
returns c =
    states.moves
    (λ v n s. states.renamed _ (states.follow (finish_m _)
    (states.follow (log_action_m _ _ _ _) (c.uncertain-s1.ensures.does _ _ _) (c.log_action-s2.ensures.does _ _ _)
    none two none one) (c.finish.ensures.does _ _ _) two both two one)
    (λ k. laws.give_is _ _ _ _ _ _ _ c.note_reason-why.ensures))
