use Rattle.c_encoding.specs.Numbers.{laid_cone}
use Rattle.c_encoding.proofs.lay_cone.Goals as goal

pub returns : goal.returns
unfolding laid_cone
returns c =
    rw (
      c.put_words.ensures,
      c.put_numbers.ensures,
    )
