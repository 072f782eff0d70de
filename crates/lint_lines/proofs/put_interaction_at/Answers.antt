use Rattle.show.proofs.Laws as show
use Rattle.lint_lines.proofs.Laws as laws
use Rattle.lint_lines.proofs.put_interaction_at.Goals as goal

pub returns-then-a-k : goal.returns-then-a-k
returns-then-a-k c = show.is (laws.no_interaction _ _ _ _ c.if-a-k.true) (show.nothing _ _)

pub returns : goal.returns
returns c =
    show.is (laws.interaction_there _ _ _ _ _ _ _ c.if-a-k.false c.wide-from.ensures c.wide-to.ensures
    c.wide-entity.ensures) c.put_interaction.ensures
