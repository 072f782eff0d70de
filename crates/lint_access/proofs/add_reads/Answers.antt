use mathlib.Core.Path.{◌∙◌}
use Prim.Native.Nat.{◌-◌}
use Rattle.lint_access.proofs.Laws as laws
use Rattle.lint_access.proofs.add_reads.Goals as goal

pub returns-then-kind-eq3 : goal.returns-then-kind-eq3
returns-then-kind-eq3 c =
    c.add_predicate.ensures ∙ laws.reads_3 _ _ _ _ c.kind_at-kind.ensures c.past-p.ensures
    c.if-kind-eq3.true

pub returns-then-kind-eq4 : goal.returns-then-kind-eq4
returns-then-kind-eq4 c =
    c.add_branches.ensures ∙ laws.reads_4 _ _ _ _ c.kind_at-kind.ensures c.past-p.ensures c.if-kind-eq3.false
    c.if-kind-eq4.true

pub returns-then-kind-eq5 : goal.returns-then-kind-eq5
returns-then-kind-eq5 c =
    c.add_entity.ensures ∙ laws.reads_5 _ _ _ _ c.kind_at-kind.ensures c.past-p.ensures c.if-kind-eq3.false c.if-kind-eq4.false
    c.if-kind-eq5.true c.place_at.ensures

pub returns : goal.returns
returns c =
    laws.reads_else _ _ _ _ c.kind_at-kind.ensures c.past-p.ensures c.if-kind-eq3.false c.if-kind-eq4.false
    c.if-kind-eq5.false
