use Rattle.show.proofs.Laws as show
use Rattle.lint_lines.proofs.Laws as laws
use Rattle.lint_lines.proofs.put_component_at.Goals as goal

pub returns-then-r-k : goal.returns-then-r-k
returns-then-r-k c = show.is (laws.past_components _ _ _ _ c.if-r-k.true) (show.nothing _ _)

pub returns-then-k-lt32 : goal.returns-then-k-lt32
returns-then-k-lt32 c = show.is (laws.component_there _ _ _ _ c.if-r-k.false c.if-k-lt32.true) c.put_component.ensures

pub returns : goal.returns
returns c = show.is (laws.past_cycles _ _ _ _ c.if-r-k.false c.if-k-lt32.false) (show.nothing _ _)
