use Rattle.show.proofs.Laws as show
use Rattle.lint_reads_lines.proofs.Laws as laws
use Rattle.lint_reads_lines.proofs.put_reads_line.Goals as goal

pub returns : goal.returns
returns c =
    show.is (laws.reads_line_is _ _ _ _) (show.both c.put-a.ensures
    (show.both c.put_name-b.ensures (show.both c.put_byte-c.ensures
    (show.both c.put_reads-d.ensures c.put_byte.ensures))))
