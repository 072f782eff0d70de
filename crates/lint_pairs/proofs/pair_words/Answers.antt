use Prim.Native.Nat.{◌-◌}
use Rattle.lint_pairs.proofs.Laws as laws
use Rattle.lint_pairs.proofs.pair_words.Goals as goal

pub returns : goal.returns
returns c =
    laws.pair_is _ _ _ _ _ _ c.tier.ensures c.spelled-tier.ensures c.number_at-line.ensures c.past.ensures
    c.number_at-column.ensures c.number_at-line2.ensures c.past-2.ensures
    c.number_at-column2.ensures
