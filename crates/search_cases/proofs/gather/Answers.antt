use Rattle.bounds.proofs.Laws as bounds
use Rattle.search_cases.proofs.Laws as laws
use native.Mathlib.Omega.{arith}
use Rattle.search_cases.proofs.gather.Goals as goal

pub merge-first-requires : goal.merge-first-requires
merge-first-requires c =
    laws.merge_room _ _ _ _ _ (omega (arith, (bounds.smaller c.min-many.ensures).most))
    (omega (arith, (bounds.smaller c.min-k.ensures).most, (bounds.smaller c.min-many.ensures).most)) c.requires

pub merge-requires : goal.merge-requires
merge-requires c =
    laws.merge_room _ _ _ _ _ (omega (arith, (bounds.smaller c.min-more.ensures).most))
    (omega (arith, (bounds.smaller c.min-j.ensures).most, (bounds.smaller c.min-more.ensures).most))
    (omega (arith, c.merge-first.auto.a, c.requires))

pub returns : goal.returns
returns c =
    laws.gathers_is _ _ _ _ _ (bounds.smaller c.min-k.ensures) (bounds.smaller c.min-many.ensures) c.merge-first.ensures
    (bounds.smaller c.min-j.ensures)
    (bounds.smaller c.min-more.ensures) c.merge.ensures
