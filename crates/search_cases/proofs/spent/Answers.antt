use Rattle.bounds.proofs.Laws as bounds
use Rattle.search_cases.proofs.Laws as laws
use native.Mathlib.Omega.{arith}
use mathlib.Core.Path.{refl}
use Rattle.checker_result.proofs.Laws as entry
use borrow.Author.Rules.{rules}
use Rattle.search_cases.proofs.spent.Goals as goal

pub by_itself-why-requires : goal.by_itself-why-requires
by_itself-why-requires c = search rules

pub insert_sorted-count-requires : goal.insert_sorted-count-requires
insert_sorted-count-requires c = entry.insert_room _ _ _ _ (omega (arith, (bounds.smaller c.min-n.ensures).most, c.requires))

pub shape_of-w : goal.shape_of-w
shape_of-w c = search rules

pub returns : goal.returns
returns c =
    record {
      refused = refl;
      cases = refl;
      steps = refl;
      found = refl;
      shortest = refl;
      stopped = refl;
      witness = refl;
      reasons = laws.spent_reasons _ _ (bounds.smaller c.min-n.ensures) c.by_itself-why.ensures
          c.insert_sorted-count.ensures;
    }
