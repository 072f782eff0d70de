use Rattle.lint_reach.proofs.Bits as bits
use Rattle.lint_reach.proofs.with.Goals as goal

pub returns : goal.returns
returns c = rw (bits.shl1 c.args.i c.requires)
