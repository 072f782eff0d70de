use Rattle.c_encoding.specs.Numbers.{laid_simulation}
use Rattle.c_encoding.proofs.lay_simulation.Goals as goal

pub returns : goal.returns
unfolding laid_simulation
returns c = rw (c.put_words-2.ensures, c.put_words.ensures, c.put_numbers.ensures)
