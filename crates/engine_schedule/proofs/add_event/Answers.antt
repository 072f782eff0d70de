use Rattle.engine_state.proofs.Laws as states
use Rattle.engine_schedule.specs.Events.{add_event_m}
use Rattle.engine_schedule.proofs.add_event.Goals as goal

pub returns : goal.returns
unfolding add_event_m
returns c =
    states.moves (λ v n s. states.renamed _ (c.add.ensures.does _ _ _)
    (λ k. rw (← c.event_work-work.ensures)))
