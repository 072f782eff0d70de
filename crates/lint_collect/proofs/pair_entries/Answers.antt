use Rattle.lint_walk.proofs.Sizes as sizes
use Rattle.lint_collect.proofs.Laws as laws
use Rattle.lint_collect.proofs.pair_entries.Goals as goal

pub oppose_pair-requires : goal.oppose_pair-requires
oppose_pair-requires c = (c.requires.0, c.requires.3, (sizes.sized _ _ c.rule_walk-c.ensures).0)

pub returns : goal.returns
returns c =
    λ k. laws.pair_is _ _ _ _ _ _ _ c.rule_walk-c.ensures c.with.ensures c.with-set.ensures
    (c.oppose_pair.ensures k)
