use Rattle.c_encoding.specs.Numbers.{check_in}
use Rattle.c_encoding.proofs.put_result.Goals as goal

pub returns : goal.returns
unfolding check_in
returns c = rw (c.put_simulation.ensures, c.lay_check.ensures, c.status_number.ensures)
