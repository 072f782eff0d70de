use Rattle.search_inputs.proofs.Laws as laws
use Rattle.search_inputs.proofs.input_word.Goals as goal

pub returns-then-k-count : goal.returns-then-k-count
returns-then-k-count c = laws.word_in _ _ _ c.if-k-count.true c.capped-p.ensures c.input_part.ensures

pub returns : goal.returns
returns c = laws.word_out _ _ _ c.if-k-count.false
