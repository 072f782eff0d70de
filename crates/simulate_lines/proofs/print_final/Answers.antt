use native.Mathlib.Omega.{arith}
use Rattle.engine_fields.specs.Fields.{name}
use Rattle.show.proofs.Laws as show
use Rattle.simulate_lines.proofs.Lengths as lengths
use Rattle.simulate_lines.proofs.print_final.Goals as goal

pub returns : goal.returns
returns c =
    show.kept c.args.n c.put_final.ensures
    (lengths.final_short c.args.f.now (λ i. omega (arith, c.shared_slice_known-1.given i)) c.args.x.now
    (name c.args.x.now c.args.e) c.args.value) c.room-m.ensures.1
