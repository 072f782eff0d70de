use Rattle.engine_inputs.proofs.Laws as laws
use Rattle.engine_inputs.proofs.value_word.Goals as goal

pub returns-then-e-count : goal.returns-then-e-count
returns-then-e-count c =
    laws.value_in _ _ _ _ c.if-e-count.true c.capped-p.ensures
    c.initial_at.ensures

pub returns : goal.returns
returns c = laws.value_out _ _ _ _ c.if-e-count.false
