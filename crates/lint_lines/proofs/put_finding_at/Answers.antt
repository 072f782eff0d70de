use mathlib.Core.Path.{refl}
use Prim.Native.Nat.{◌+◌, ◌*◌}
use native.Mathlib.Omega.{arith}
use Rattle.show.proofs.Laws as show
use Rattle.lint_lines.proofs.Laws as laws
use Rattle.lint_lines.proofs.put_finding_at.Goals as goal

pub returns-then-a-k : goal.returns-then-a-k
returns-then-a-k c = show.is (laws.no_finding _ _ _ _ c.if-a-k.true) (show.nothing _ _)

pub put_finding-requires : goal.put_finding-requires
put_finding-requires c =
    laws.fourteen c.args.a.now (14 * c.args.k) (14 * c.args.k + 14) refl
    (omega (arith, c.if-a-k.false))

pub returns : goal.returns
returns c = show.is (laws.finding_there _ _ _ _ _ _ c.if-a-k.false refl refl) c.put_finding.ensures
