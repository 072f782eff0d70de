use mathlib.Core.Path.{refl, sym, ◌∙◌, ap}
use Prim.Native.Nat.{◌*◌}
use native.Mathlib.Omega.{arith}
use lib.ListN.{length}
use Rattle.records.specs.Records.{record_words}
use Rattle.records.proofs.Laws as laws
use Rattle.areas.proofs.Laws as areas
use Rattle.areas.specs.Areas.{written}
use Rattle.records.proofs.push_record.Goals as goal

pub returns-then-a-n-lt13 : goal.returns-then-a-n-lt13
returns-then-a-n-lt13 c =
    let a = c.args in record {
      room =
          sym (areas.full 13 a.n (length a.a.now) (omega arith) (omega arith));
      more = λ e l ln rep. cc;
      same =
          λ e. refl;
    }

pub returns : goal.returns
returns c =
    let a = c.args in record {
      room = sym (areas.room 13 a.n (length a.a.now) (omega arith) (omega arith));
      more =
          λ e l ln rep. c.write_record.ensures ∙ ap (λ x. written x (a.n * 13) (record_words a.r)) rep
          ∙ areas.push_is record_words 13 laws.sized (length a.a.now) l a.r a.n ln (omega arith);
      same = λ e. cc;
    }
