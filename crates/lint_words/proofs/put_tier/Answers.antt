use borrow.Author.Rules.{rules}
use Rattle.show.proofs.Laws as show
use Rattle.lint_words.proofs.Laws as laws
use Rattle.lint_words.proofs.put_tier.Goals as goal

pub returns-in-0 : goal.returns-in-0
returns-in-0 c = show.is (laws.tier_0 _ c.in-0.is) c.put.ensures

pub returns-in-1 : goal.returns-in-1
returns-in-1 c = show.is (laws.tier_1 _ c.in-1.is) c.put-in-1.ensures

pub returns-in-2 : goal.returns-in-2
returns-in-2 c = show.is (laws.tier_2 _ c.in-2.is) c.put-in-2.ensures

pub returns-in-3 : goal.returns-in-3
returns-in-3 c = show.is (laws.tier_3 _ c.in-3.is) c.put-in-3.ensures

pub returns-in-4 : goal.returns-in-4
returns-in-4 c = show.is (laws.tier_4 _ c.in-4.is) c.put-in-4.ensures

pub returns-in_default : goal.returns-in_default
returns-in_default c =
    show.is (laws.tier_other _ (search rules) (search rules) (search rules) (search rules) (search rules))
    c.put-in_default.ensures
