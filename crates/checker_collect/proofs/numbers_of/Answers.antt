use Rattle.checker_collect.proofs.Laws as laws
use Rattle.checker_collect.proofs.numbers_of.Goals as goal

pub returns : goal.returns
returns c =
    laws.numbers_are _ c.args.r c.failure_number-number.ensures c.failure_deadline-deadline.ensures c.source_part-some.ensures
    c.source_part-line.ensures c.source_part-column.ensures
