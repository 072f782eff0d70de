use borrow.Author.Rules.{rules}
use mathlib.Core.Path.{◌∙◌, ap}
use Rattle.areas.specs.Areas.{written}
use Rattle.areas.proofs.Lists as lists
use Rattle.areas.proofs.put_in.Goals as goal

pub returns : goal.returns
returns c =
    let a = c.args in c.put.ensures ∙ ap (λ l. written l a.at a.w.now) c.copy_within.ensures.after
    ∙ lists.open_is a.a.now a.w.now a.at a.end (search rules) (search rules)
