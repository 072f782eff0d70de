use native.Mathlib.Omega.{arith}
use Rattle.show.proofs.Laws as show
use Rattle.record_lines.proofs.Lengths as lengths
use Rattle.record_lines.proofs.print_record.Goals as goal

pub returns : goal.returns
returns c =
    show.kept c.args.n c.put_record.ensures.written
    (lengths.record_short c.args.f.now (λ i. omega (arith, c.shared_slice_known-1.given i)) c.args.x.now
    c.args.k c.put_record.ensures.read) c.room-m.ensures.1
