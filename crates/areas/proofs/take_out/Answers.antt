use borrow.Author.Rules.{rules}
use mathlib.Core.Path.{◌∙◌, ap}
use Prim.Native.Nat.{◌-◌}
use Rattle.areas.specs.Areas.{cleared}
use Rattle.areas.proofs.Lists as lists
use Rattle.areas.proofs.take_out.Goals as goal

pub returns : goal.returns
returns c =
    let a = c.args in c.clear.ensures
    ∙ ap (λ l. cleared l (a.end - a.size) a.size) c.copy_within.ensures.after
    ∙ lists.close_is a.a.now a.at a.size a.end (search rules) (search rules)
