use Rattle.show.proofs.Laws as show
use Rattle.lint_lines.proofs.Laws as laws
use Rattle.lint_lines.proofs.put_places.Goals as goal

pub returns : goal.returns
returns c =
    show.is (laws.places_are _ _) (show.both c.put-a.ensures
    (show.both c.put_members-b.ensures (show.both c.put-c.ensures
    (show.both c.put_sources-d.ensures c.put_byte.ensures))))
