use Prim.Native.Nat.{◌*◌}
use Rattle.check_lines.proofs.Laws as laws
use Rattle.check_lines.proofs.violated_at.Goals as goal

pub returns : goal.returns
returns c = laws.violated_is c.args.a.now (c.args.k * 8)
