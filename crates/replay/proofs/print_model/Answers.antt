use mathlib.Core.Path.{◌≡◌}
use native.Mathlib.Omega.{arith}
use Rattle.replay.specs.declared.Next.TheVariants.{Model}
use Rattle.replay.proofs.print_model.Goals as goal

pub slice_bounds-print_part-start : goal.slice_bounds-print_part-start
slice_bounds-print_part-start c =
    let e : c.read_model-next.result ≡ Model c.in-Model.size = cc in let g =
    rw e at c.read_model-next.ensures in omega (arith, g)
