use Rattle.engine_inputs.proofs.Laws as laws
use Rattle.engine_inputs.proofs.input_part.Goals as goal

pub returns-then-j-eq0 : goal.returns-then-j-eq0
returns-then-j-eq0 c = laws.part_kind _ _ _ c.byte_at-kind.ensures.0 c.if-j-eq0.true

pub returns-then-kind-ne0 : goal.returns-then-kind-ne0
returns-then-kind-ne0 c = laws.part_none _ _ _ c.byte_at-kind.ensures.0 c.if-j-eq0.false c.if-kind-ne0.true

pub returns-then-j-eq1 : goal.returns-then-j-eq1
returns-then-j-eq1 c =
    laws.part_entity _ _ _ c.byte_at-kind.ensures.0 c.if-kind-ne0.false c.if-j-eq1.true
    c.two_at.ensures.0

pub returns : goal.returns
returns c =
    laws.part_value _ _ _ c.byte_at-kind.ensures.0 c.if-j-eq0.false c.if-kind-ne0.false c.if-j-eq1.false
    c.two_at-2.ensures.0
