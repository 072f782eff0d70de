use Rattle.c_encoding.specs.Numbers.{laid_notes}
use Rattle.c_encoding.proofs.lay_notes.Goals as goal

pub returns : goal.returns
unfolding laid_notes
returns c =
    rw (
      c.put_words.ensures,
      c.put_numbers.ensures,
    )
