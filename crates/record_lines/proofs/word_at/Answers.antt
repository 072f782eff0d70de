use Rattle.record_lines.proofs.Laws as laws
use Rattle.record_lines.proofs.word_at.Goals as goal

pub returns : goal.returns
returns c = laws.word_past c.args.x.now _ c.if-k-x.false
