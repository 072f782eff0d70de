use Rattle.show.proofs.Laws as show
use Rattle.lint_lines.proofs.Laws as laws
use Rattle.lint_lines.proofs.put_kind.Goals as goal

pub returns : goal.returns
returns c =
    λ x t. show.is (laws.kind_is _ _ _) (show.both c.put-a.ensures
    (show.both (c.put_code-b.ensures x t) (show.both c.put_byte-c.ensures
    (show.both c.put_certainty-d.ensures (show.both c.put_byte-e.ensures
    (show.both c.put_tier-g.ensures c.put_byte.ensures))))))
