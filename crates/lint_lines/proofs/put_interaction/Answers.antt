use Rattle.show.proofs.Laws as show
use Rattle.lint_lines.proofs.Laws as laws
use Rattle.lint_lines.proofs.put_interaction.Goals as goal

pub returns : goal.returns
returns c =
    show.is (laws.interaction_is _ _ _ _ _) (show.both c.put-a.ensures
    (show.both c.put_name-b.ensures (show.both c.put_byte-c.ensures
    (show.both c.put_name-d.ensures (show.both c.put_byte-e.ensures
    (show.both c.put_name-g.ensures c.put_byte.ensures))))))
