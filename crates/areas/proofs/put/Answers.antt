use native.Mathlib.Omega.{arith}
use Rattle.areas.proofs.Lists as lists
use Rattle.areas.proofs.put.Goals as goal

pub returns : goal.returns
returns c = lists.put_is c.args.a.now c.args.w.now _ c.args.at _ (omega arith) c.copy_from_slice.ensures.after
