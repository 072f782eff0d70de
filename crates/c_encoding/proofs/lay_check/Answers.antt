use Rattle.c_encoding.specs.Numbers.{laid_check}
use Rattle.c_encoding.proofs.lay_check.Goals as goal

pub returns : goal.returns
unfolding laid_check
returns c =
    rw (
      c.put_words-2.ensures,
      c.put_words.ensures,
      c.put_numbers-2.ensures,
      c.put_numbers.ensures,
    )
