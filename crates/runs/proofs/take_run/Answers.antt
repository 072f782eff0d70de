use borrow.Author.Rules.{rules}
use mathlib.Core.Path.{◌∙◌}
use Rattle.runs.proofs.Laws as laws
use Rattle.runs.proofs.take_run.Goals as goal

pub returns : goal.returns
returns c =
    let a = c.args in record {
      is = λ l held. c.take_out.ensures
          ∙ laws.out_is a.a.now a.n l held a.k (search rules) (search rules);
    }
