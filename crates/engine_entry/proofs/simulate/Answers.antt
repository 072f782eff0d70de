use Rattle.engine_entry.proofs.Laws as laws
use Rattle.engine_entry.proofs.simulate.Goals as goal

pub returns : goal.returns
returns c =
    laws.simulates_as c.with_reasons.ensures
    c.simulate_lent-s.ensures
