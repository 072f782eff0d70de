use Rattle.bounds.proofs.Laws as bounds
use Rattle.engine_entry.proofs.Laws as laws
use Rattle.engine_entry.proofs.run_events.Goals as goal

pub returns : goal.returns
returns c =
    laws.ran_so (bounds.smaller c.min-count.ensures) c.simulated-s.ensures c.simulated-s.auto.u
    c.at_most-entities.ensures.0 (c.summed.ensures _)
