use Rattle.engine_state.proofs.Laws as states
use Rattle.engine_trigger.specs.Triggers.{log_trigger_m}
use Rattle.engine_trigger.proofs.log_trigger.Goals as goal

pub returns : goal.returns
unfolding log_trigger_m
returns c =
    states.moves (λ v n s. states.renamed _ (c.log.ensures.does _ _ _)
    (λ k. rw (
      ← c.rule_word-at.ensures,
      ← c.four_at-line.ensures,
      ← c.four_at-column.ensures,
      ← c.number_of-detail.ensures,
    )))
