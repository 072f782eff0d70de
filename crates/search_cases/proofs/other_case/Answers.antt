use Prim.Native.Nat.{ℕ, ◌+◌}
use mathlib.Core.Path.{refl, ap}
use borrow.Author.Rules.{rules}
use Rattle.bounds.proofs.Laws as bounds
use Rattle.search_cases.proofs.other_case.Goals as goal

pub overflow_add-result : goal.overflow_add-result
overflow_add-result c = search rules

pub overflow_add-result-2 : goal.overflow_add-result-2
overflow_add-result-2 c = search rules

pub returns : goal.returns
returns c =
    record {
      refused = refl;
      cases = refl;
      steps = λ h. ap (λ (y : ℕ). c.args.o.steps + y)
          ((bounds.smaller c.min.ensures).same h);
      reasons = refl;
      found = refl;
      shortest = refl;
      stopped = refl;
      witness =
          refl;
    }
