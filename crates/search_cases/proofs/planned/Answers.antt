use Prim.Native.Nat.{ℕ}
use mathlib.Core.Path.{refl, subst}
use Rattle.bounds.specs.Bounds.{AtMost}
use Rattle.bounds.proofs.Laws as bounds
use Rattle.search_cases.proofs.planned.Goals as goal

pub returns : goal.returns
returns c =
    record {
      cells = refl;
      notes_are = refl;
      invariants = refl;
      alphabet = c.alphabet_of-alphabet.ensures;
      gaps =
          c.gaps_of-gaps.ensures;
      horizon = c.limit-horizon.ensures;
      cases =
          subst (λ (y : ℕ). AtMost y 2000 c.min-cases.result) c.limit.ensures (bounds.smaller c.min-cases.ensures);
    }
