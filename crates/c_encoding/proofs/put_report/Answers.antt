use Rattle.c_encoding.specs.Numbers.{report_in}
use Rattle.c_encoding.proofs.put_report.Goals as goal

pub returns : goal.returns
unfolding report_in
returns c = rw c.lay_report.ensures
