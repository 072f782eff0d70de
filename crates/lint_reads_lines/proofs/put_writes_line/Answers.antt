use Rattle.show.proofs.Laws as show
use Rattle.lint_reads_lines.proofs.Laws as laws
use Rattle.lint_reads_lines.proofs.put_writes_line.Goals as goal

pub returns : goal.returns
returns c =
    show.is (laws.writes_line_is _ _ _ _ _ c.set_at.ensures)
    (show.both c.put-a.ensures (show.both c.put_name-b.ensures
    (show.both c.put_byte-c.ensures (show.both c.put_members-d.ensures
    c.put_byte.ensures))))
