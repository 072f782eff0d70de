use Prim.Native.Nat.{◌-◌}
use Rattle.lint_findings.proofs.Laws as laws
use Rattle.lint_findings.proofs.write_findings.Goals as goal

pub returns-then-kind_at-gt1 : goal.returns-then-kind_at-gt1
returns-then-kind_at-gt1 c = laws.write_none _ _ _ _ _ _ c.kind_at.ensures c.if-kind_at-gt1.true

pub returns-then-count-e : goal.returns-then-count-e
returns-then-count-e c =
    laws.write_undeclared _ _ _ _ _ _ c.kind_at.ensures c.if-kind_at-gt1.false c.past.ensures c.place_at-x.ensures
    c.first_of-e.ensures.0 c.if-count-e.true

pub interactions_of-requires : goal.interactions_of-requires
interactions_of-requires c = c.requires.2

pub returns : goal.returns
returns c =
    laws.write_is _ _ _ _ _ _ c.kind_at.ensures c.if-kind_at-gt1.false c.past.ensures c.place_at-x.ensures
    c.first_of-e.ensures.0 c.if-count-e.false c.value-v.ensures
    (laws.with_finding _ c.risky-test.ensures c.at_action-words.ensures (c.push_if-p.ensures _))
    (c.interactions_of.ensures _)
