use Rattle.engine_inputs.proofs.Laws as laws
use Rattle.engine_inputs.proofs.event_word.Goals as goal

pub returns : goal.returns
returns c = laws.word_is _ _ _ c.capped-p.ensures c.event_part.ensures
