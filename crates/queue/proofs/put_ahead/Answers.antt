use mathlib.Core.Path.{◌∙◌, ap}
use mathlib.Core.List.{List}
use Prim.Native.Nat.{ℕ, ◌+◌, ◌-◌, ◌*◌}
use Rattle.areas.specs.Areas.{written}
use Rattle.queue.proofs.put_ahead.Goals as goal

pub returns : goal.returns
returns c =
    c.put.ensures
    ∙ ap (λ (l : List ℕ). written l ((c.args.first - 1 + c.args.i) * 5) c.args.w.now)
    c.take_out.ensures
