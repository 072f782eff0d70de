use mathlib.Core.Path.{◌∙◌}
use Rattle.runs.proofs.Laws as laws
use Rattle.runs.proofs.put_run.Goals as goal

pub returns : goal.returns
returns c =
    let a = c.args in record {
      is = λ n l held h. c.write_run.ensures
          ∙ laws.put_is a.a.now n l held a.r a.k h;
    }
