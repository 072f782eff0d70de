use Rattle.std.proofs.lemmas.List.{drop-drop}
use native.Mathlib.Nat.{add-sub_cancel_left}
use Rattle.areas.specs.Areas.{written}
use Rattle.c_encoding.proofs.put_numbers.Goals as goal

pub returns : goal.returns
unfolding written
returns c = rw (add-sub_cancel_left, c.copy_from_slice.ensures.after, drop-drop)
