use Rattle.c_encoding.specs.Numbers.{simulation_in}
use Rattle.c_encoding.proofs.put_simulation.Goals as goal

pub returns : goal.returns
unfolding simulation_in
returns c =
    rw (
      c.lay_simulation.ensures,
      c.wide.ensures,
      c.wide-2.ensures,
      c.wide-3.ensures,
      c.flag.ensures,
    )
