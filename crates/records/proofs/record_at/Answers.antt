use Rattle.records.specs.Records.{record_at}
use Rattle.records.proofs.record_at.Goals as goal

pub returns : goal.returns
unfolding record_at
returns c = rw (c.rule_of-rule.ensures, c.where_of-source.ensures, c.change_at-change.ensures.words)
