use mathlib.Core.Path.{refl, sym, ◌∙◌}
use Prim.Native.Nat.{◌-◌}
use native.Mathlib.Omega.{arith}
use lib.ListN.{length}
use Rattle.runs.proofs.Laws as laws
use Rattle.areas.proofs.Laws as areas
use Rattle.runs.proofs.push_run.Goals as goal

pub returns-then-a-n-lt28 : goal.returns-then-a-n-lt28
returns-then-a-n-lt28 c =
    let a = c.args in record {
      room =
          sym (areas.full 28 a.n (length a.a.now) (omega arith) (omega arith));
      more = λ e l held. cc;
      same =
          λ e. refl;
    }

pub returns : goal.returns
returns c =
    let a = c.args in record {
      room = sym (areas.room 28 a.n (length a.a.now) (omega arith) (omega arith));
      more =
          λ e l held. c.write_run.ensures ∙ laws.push_is a.a.now a.n l held a.r (omega arith);
      same = λ e. cc;
    }
