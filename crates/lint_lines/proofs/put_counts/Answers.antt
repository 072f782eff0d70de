use Rattle.show.proofs.Laws as show
use Rattle.lint_lines.proofs.Laws as laws
use Rattle.lint_lines.proofs.put_counts.Goals as goal

pub returns : goal.returns
returns c =
    show.is (laws.counts_are _ _ _) (show.both c.put-a.ensures
    (show.both c.put_number-b.ensures (show.both c.put-c.ensures
    (show.both c.put_number-d.ensures (show.both c.put-e.ensures
    (show.both c.put_number-g.ensures c.put_byte.ensures))))))
