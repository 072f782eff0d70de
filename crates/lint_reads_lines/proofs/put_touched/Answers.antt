use Rattle.show.proofs.Laws as show
use Rattle.lint_reads_lines.proofs.Laws as laws
use Rattle.lint_reads_lines.proofs.put_touched.Goals as goal

pub returns-then-i-eq32 : goal.returns-then-i-eq32
returns-then-i-eq32 c = show.is (laws.none_touched _ _ _ _ _ _ c.rule_from-i.ensures c.if-i-eq32.true) (show.nothing _ _)

pub returns-then-writes : goal.returns-then-writes
returns-then-writes c =
    show.is (laws.writes_touched _ _ _ _ _ _ c.rule_from-i.ensures c.if-i-eq32.false c.if-writes.true)
    c.put_writes_line.ensures

pub returns : goal.returns
returns c =
    show.is (laws.reads_touched _ _ _ _ _ _ c.rule_from-i.ensures c.if-i-eq32.false c.if-writes.false)
    c.put_reads_line.ensures
