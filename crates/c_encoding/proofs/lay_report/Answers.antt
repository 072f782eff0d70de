use Rattle.c_encoding.specs.Numbers.{laid_report}
use Rattle.c_encoding.proofs.lay_report.Goals as goal

pub returns : goal.returns
unfolding laid_report
returns c =
    rw (
      c.put_words-5.ensures,
      c.put_words-4.ensures,
      c.put_words-3.ensures,
      c.put_words-2.ensures,
      c.put_words.ensures,
      c.put_numbers.ensures,
    )
