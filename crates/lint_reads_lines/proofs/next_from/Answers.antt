use Rattle.lint_reads_lines.proofs.Laws as laws
use Rattle.lint_reads_lines.proofs.next_from.Goals as goal

pub returns-then-i-lt32 : goal.returns-then-i-lt32
returns-then-i-lt32 c =
    laws.next_is _ _ _ _ _ _ c.rule_from-i.ensures c.if-i-lt32.true c.name_place.ensures
    c.behind.ensures

pub returns : goal.returns
returns c = laws.next_none _ _ _ _ c.rule_from-i.ensures c.if-i-lt32.false
