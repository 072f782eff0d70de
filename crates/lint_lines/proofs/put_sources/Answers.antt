use Rattle.show.proofs.Laws as show
use Rattle.lint_lines.proofs.Laws as laws
use Rattle.lint_lines.proofs.put_sources.Goals as goal

pub returns-then-code-eq5 : goal.returns-then-code-eq5
returns-then-code-eq5 c =
    show.is (laws.cycle_sources _ _ _ c.if-code-eq5.true)
    c.put_rule_sources.ensures

pub returns-then-code-eq8 : goal.returns-then-code-eq8
returns-then-code-eq8 c =
    show.is (laws.two_sources _ _ _ c.if-code-eq5.false c.if-code-eq8.true)
    (show.both c.put_byte-m.ensures (show.both c.put_place-k.ensures c.put_place.ensures))

pub returns : goal.returns
returns c =
    show.is (laws.one_source _ _ _ c.if-code-eq5.false c.if-code-eq8.false)
    (show.both c.put_byte-m-2.ensures c.put_place-2.ensures)
