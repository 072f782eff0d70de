use Rattle.c_encoding.specs.Numbers.{minimized_in}
use Rattle.c_encoding.proofs.put_minimized.Goals as goal

pub returns : goal.returns
unfolding minimized_in
returns c =
    rw (
      c.put_result.ensures,
      c.lay_reduction.ensures,
      c.wide.ensures,
      c.wide-2.ensures,
      c.flag.ensures,
    )
