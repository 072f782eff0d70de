use native.Mathlib.Omega.{arith}
use Prim.Native.Nat.{◌*◌}
use lib.ListN.{drop}
use Rattle.texts.specs.Texts.{text}
use Rattle.reasons.specs.Lists.{reason_of}
use Rattle.show.proofs.Laws as show
use Rattle.simulate_lines.proofs.Lengths as lengths
use Rattle.simulate_lines.proofs.print_reason.Goals as goal

pub returns-in-Reason : goal.returns-in-Reason
returns-in-Reason c =
    show.kept c.args.n c.put_reason.ensures
    (lengths.reason_short c.args.f.now (λ i. omega (arith, c.shared_slice_known-1.given i)) (text "reason")
    (reason_of (drop (c.args.i * 5) c.args.a.now)) (omega arith)) c.room-free.ensures.1

pub returns-in-SimUnknown : goal.returns-in-SimUnknown
returns-in-SimUnknown c =
    show.kept c.args.n c.put_unknown.ensures
    (lengths.reason_short c.args.f.now (λ i. omega (arith, c.shared_slice_known-1.given i)) (text "sim-unknown")
    (reason_of (drop (c.args.i * 5) c.args.a.now)) (omega arith)) c.room-free.ensures.1
