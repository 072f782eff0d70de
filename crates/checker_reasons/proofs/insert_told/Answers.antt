use Rattle.checker_reasons.proofs.Laws as laws
use borrow.Author.Rules.{rules}
use Rattle.checker_reasons.proofs.insert_told.Goals as goal

pub insert_sorted-requires : goal.insert_sorted-requires
insert_sorted-requires c =
    laws.one_fits _ _ _ c.in-One.is _ _
    c.requires

pub insert_sorted-k-requires : goal.insert_sorted-k-requires
insert_sorted-k-requires c =
    laws.two_fits _ _ _ _ c.in-Two.is _ _
    c.requires

pub insert_sorted-requires-in-Two : goal.insert_sorted-requires-in-Two
insert_sorted-requires-in-Two c = laws.two_then _ _ _ _ c.in-Two.is _ _ c.insert_sorted-k.ensures _ c.requires (search rules)

pub returns-in-Nothing : goal.returns-in-Nothing
returns-in-Nothing c = laws.none_told _ _ _ _ c.in-Nothing.is

pub returns-in-One : goal.returns-in-One
returns-in-One c =
    laws.one_told _ _ _ c.in-One.is _ _
    c.insert_sorted.ensures

pub returns-in-Two : goal.returns-in-Two
returns-in-Two c = laws.two_told _ _ _ _ c.in-Two.is _ _ c.insert_sorted-k.ensures c.insert_sorted-in-Two.ensures
