use Rattle.c_encoding.specs.Numbers.{laid_reduction}
use Rattle.c_encoding.proofs.lay_reduction.Goals as goal

pub returns : goal.returns
unfolding laid_reduction
returns c =
    rw (
      c.put_words.ensures,
      c.put_numbers.ensures,
    )
