use Rattle.bounds.proofs.Laws as bounds
use Rattle.search_answer.proofs.Laws as laws
use mathlib.Core.Path.{refl}
use borrow.Author.Rules.{rules}
use Rattle.search_answer.proofs.told_of.Goals as goal

pub merge-reasons-requires : goal.merge-reasons-requires
merge-reasons-requires c = laws.told_room _ c.args.w.now _ _ (bounds.smaller c.min-many.ensures).most c.requires (search rules)

pub returns : goal.returns
returns c =
    λ v us ws s. record {
      status_is = c.status_of-status.ensures;
      cases = refl;
      total_steps = refl;
      depth =
          c.limit.ensures;
      horizon = refl;
      max_cases = c.limit-2.ensures;
      max_steps_per_case =
          c.limit-3.ensures;
      alphabet = refl;
      inputs = refl;
      gaps = refl;
      seconds = refl;
      shortest = refl;
      events = refl;
      words = refl;
      written = refl;
      check = refl;
      reasons =
          laws.told_reasons _ _ (bounds.smaller c.min-many.ensures) c.merge-reasons.ensures;
    }
