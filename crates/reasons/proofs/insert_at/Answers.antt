use mathlib.Core.Path.{ap, ◌∙◌}
use mathlib.Core.List.{List}
use Prim.Native.Nat.{ℕ, ◌+◌, ◌*◌}
use lib.ListN.{get_or}
use native.Mathlib.Omega.{arith}
use Rattle.reasons.specs.Lists.{words_of, reasons}
use Rattle.reasons.proofs.Entries as entries
use Rattle.reasons.proofs.Cleaning as cleaning
use Rattle.reasons.proofs.insert_at.Goals as goal

pub returns : goal.returns
returns c =
    let a = c.args in
    let e = c.put_in.ensures in
    record {
      is = ap (reasons (a.n + 1)) e ∙ entries.put_in a.n a.k a.a.now a.r (omega arith) (omega arith);
      rest = λ i h. ap (λ (l : List ℕ). get_or l i 0) e
          ∙ cleaning.put_behind a.a.now (a.k * 5) (a.n * 5) (words_of a.r) (omega arith) (omega arith) i h;
    }
