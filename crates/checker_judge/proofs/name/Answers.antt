use Rattle.checker_judge.specs.Names.{with_m}
use borrow.Author.Rules.{rules}
use Rattle.checker_judge.proofs.name.Goals as goal

pub returns : goal.returns
unfolding with_m
returns c = search rules
