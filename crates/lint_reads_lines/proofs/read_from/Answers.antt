use Rattle.lint_reads_lines.proofs.Laws as laws
use Rattle.lint_reads_lines.proofs.read_from.Goals as goal

pub returns : goal.returns
returns c =
    laws.reads_are _ _ _ _ _ _ _ _ c.set_at.ensures c.member_from-best.ensures
    c.stranger_from.ensures
