use Rattle.show.proofs.Laws as show
use Rattle.lint_lines.proofs.Laws as laws
use Rattle.lint_lines.proofs.put_component.Goals as goal

pub returns : goal.returns
returns c =
    show.is (laws.component_is _) (show.both c.put-a.ensures
    (show.both c.put_members-b.ensures c.put_byte.ensures))
