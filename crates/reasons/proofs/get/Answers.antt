use Prim.Native.Nat.{◌*◌}
use Rattle.reasons.proofs.Entries as entries
use Rattle.reasons.proofs.get.Goals as goal

pub returns : goal.returns
returns c =
    entries.get_is c.args.a.now
    (c.args.i * 5)
