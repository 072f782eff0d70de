use Rattle.c_encoding.specs.Numbers.{search_in, verification_in}
use Rattle.c_encoding.proofs.put_verification.Goals as goal

pub returns : goal.returns
unfolding verification_in search_in
returns c =
    rw (
      c.put_check.ensures,
      c.put_searched.ensures,
    )
