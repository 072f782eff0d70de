use native.Mathlib.Omega.{arith}
use Rattle.texts.specs.Texts.{text}
use Rattle.show.proofs.Laws as show
use Rattle.simulate_lines.proofs.Lengths as lengths
use Rattle.print_simulate.proofs.print_count.Goals as goal

pub returns : goal.returns
returns c =
    show.kept c.args.n c.put_unsupported.ensures
    (omega (arith, lengths.number_short (text "unsupported") c.args.count)) c.room-m.ensures.1
