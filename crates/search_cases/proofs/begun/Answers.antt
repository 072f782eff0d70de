use Rattle.bounds.proofs.Laws as bounds
use Rattle.search_cases.proofs.Laws as laws
use native.Mathlib.Omega.{arith}
use mathlib.Core.Path.{refl}
use Rattle.search_cases.proofs.begun.Goals as goal

pub merge-count-requires : goal.merge-count-requires
merge-count-requires c =
    laws.merge_room _ _ _ _ 0 (omega (arith, (bounds.smaller c.min-many.ensures).most))
    (omega (arith, (bounds.smaller c.min-many.ensures).most)) c.requires

pub returns : goal.returns
returns c =
    record {
      refused = refl;
      cases = refl;
      steps = refl;
      found = refl;
      shortest = refl;
      stopped = refl;
      reasons =
          laws.begins_reasons _ _ _ (bounds.smaller c.min-many.ensures) c.merge-count.ensures;
    }
