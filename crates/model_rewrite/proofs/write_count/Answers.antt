use Rattle.model_rewrite.proofs.Laws as laws
use borrow.Author.Rules.{rules}
use Rattle.model_rewrite.proofs.write_count.Goals as goal

pub returns : goal.returns
returns c = laws.two c.args.out.now c.args.n (search rules)
