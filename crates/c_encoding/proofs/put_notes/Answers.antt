use Rattle.c_encoding.specs.Numbers.{notes_in}
use Rattle.c_encoding.proofs.put_notes.Goals as goal

pub returns : goal.returns
unfolding notes_in
returns c = rw c.lay_notes.ensures
