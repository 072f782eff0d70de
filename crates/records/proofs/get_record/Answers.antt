use mathlib.Core.Path.{◌∙◌, ap}
use lib.ListN.{length}
use Rattle.records.specs.Records.{record_at}
use Rattle.records.proofs.Laws as laws
use Rattle.records.proofs.get_record.Goals as goal

pub returns : goal.returns
returns c =
    let a = c.args in record {
      is =
          λ l d h rep. c.record_at.ensures ∙ ap (λ x. record_at x a.k) rep
          ∙ laws.record_is (length a.a.now) l a.k d h;
    }
