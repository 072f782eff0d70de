use Rattle.search_inputs.proofs.Laws as laws
use Rattle.search_inputs.proofs.gap_word.Goals as goal

pub returns-then-k-count : goal.returns-then-k-count
returns-then-k-count c = laws.gap_in _ _ _ c.if-k-count.true c.capped-p.ensures c.four_at.ensures

pub returns : goal.returns
returns c = laws.gap_out _ _ _ c.if-k-count.false
