use Rattle.show.proofs.Laws as show
use Rattle.lint_lines.proofs.Laws as laws
use Rattle.lint_lines.proofs.put_finding.Goals as goal

pub returns : goal.returns
returns c =
    show.is (laws.finding_is _ _ _ _ _ c.wide-e.ensures c.note_of.ensures)
    (show.both (c.put_kind-a.ensures _ _) (show.both c.put_message-b.ensures
    c.put_places.ensures))
