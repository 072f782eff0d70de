use Rattle.c_encoding.specs.Numbers.{search_in}
use Rattle.c_encoding.proofs.put_searched.Goals as goal

pub returns : goal.returns
unfolding search_in
returns c =
    rw (
      c.lay_search.ensures,
      c.found_number.ensures,
      c.wide.ensures,
      c.wide-2.ensures,
      c.wide-3.ensures,
      c.wide-4.ensures,
      c.wide-5.ensures,
      c.wide-6.ensures,
      c.flag.ensures,
    )
