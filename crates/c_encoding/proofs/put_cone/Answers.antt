use Rattle.c_encoding.specs.Numbers.{cone_in}
use Rattle.c_encoding.proofs.put_cone.Goals as goal

pub returns : goal.returns
unfolding cone_in
returns c = rw (c.lay_cone.ensures, c.wide.ensures, c.wide-2.ensures)
