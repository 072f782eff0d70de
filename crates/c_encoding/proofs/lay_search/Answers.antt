use Rattle.c_encoding.specs.Numbers.{laid_search}
use Rattle.c_encoding.proofs.lay_search.Goals as goal

pub returns : goal.returns
unfolding laid_search
returns c =
    rw (
      c.put_words-4.ensures,
      c.put_words-3.ensures,
      c.put_words-2.ensures,
      c.put_words.ensures,
      c.put_numbers.ensures,
    )
