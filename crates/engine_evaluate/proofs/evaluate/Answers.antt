use Rattle.engine_evaluate.specs.declared.Truth.TheVariants.{Unknown}
use Rattle.engine_evaluate.proofs.Laws as laws
use Rattle.engine_evaluate.proofs.evaluate.Goals as goal

pub returns-then-kind-eq1 : goal.returns-then-kind-eq1
returns-then-kind-eq1 c = laws.note_is _ _ _ _ _ _ c.byte_at-kind.ensures.0 c.if-kind-eq1.true

pub returns-then-open_at : goal.returns-then-open_at
returns-then-open_at c =
    laws.window_yes _ _ _ _ _ _ _ c.byte_at-kind.ensures.0
    c.if-kind-eq2.true c.open_at.ensures c.if-open_at.true

pub returns-then-kind-eq2 : goal.returns-then-kind-eq2
returns-then-kind-eq2 c =
    laws.window_no _ _ _ _ _ _ _ c.byte_at-kind.ensures.0
    c.if-kind-eq2.true c.open_at.ensures c.if-open_at.false

pub returns-then-e-lt32 : goal.returns-then-e-lt32
returns-then-e-lt32 c =
    laws.evaluate_known _ _ _ _ _ _ _ _ _ c.two_at.ensures.0
    c.entity_of-e.ensures _
    c.byte_at-kind.ensures.0
    c.if-kind-eq1.false
    c.if-kind-eq2.false c.if-e-lt32.true
    c.two_at-then-e-lt32.ensures.0 c.against.ensures

pub returns : goal.returns
returns c =
    laws.evaluate_none _ _ _ _ _ _ _ 0 Unknown c.two_at.ensures.0
    c.entity_of-e.ensures _ c.byte_at-kind.ensures.0
    c.if-kind-eq1.false c.if-kind-eq2.false c.if-e-lt32.false
