use mathlib.Core.Path.{◌∙◌}
use Rattle.cone_sets.proofs.Laws as laws
use Rattle.cone_sets.proofs.add_named.Goals as goal

pub returns-then-kind-eq0 : goal.returns-then-kind-eq0
returns-then-kind-eq0 c =
    c.add_predicates.ensures ∙ laws.named_0 _ _ _ _ c.byte_at-kind.ensures c.past-p.ensures
    c.if-kind-eq0.true

pub returns-then-kind-eq1 : goal.returns-then-kind-eq1
returns-then-kind-eq1 c =
    c.add_predicates-then-kind-eq1.ensures ∙ laws.named_1 _ _ _ _ c.byte_at-kind.ensures c.past-p.ensures c.if-kind-eq0.false
    c.if-kind-eq1.true c.place_at.ensures c.add_entity-guarded.ensures c.past.ensures

pub returns-then-kind-eq2 : goal.returns-then-kind-eq2
returns-then-kind-eq2 c =
    c.add_entity.ensures ∙ laws.named_2 _ _ _ _ c.byte_at-kind.ensures c.past-p.ensures c.if-kind-eq0.false c.if-kind-eq1.false
    c.if-kind-eq2.true c.place_at-then-kind-eq2.ensures

pub returns : goal.returns
returns c =
    c.add_predicate.ensures ∙ laws.named_else _ _ _ _ c.byte_at-kind.ensures c.past-p.ensures c.if-kind-eq0.false
    c.if-kind-eq1.false c.if-kind-eq2.false c.add_predicate-when.ensures c.predicate_end.ensures
