use Rattle.lint_walk.proofs.Sizes as sizes
use Rattle.lint_collect.proofs.Laws as laws
use Rattle.lint_access.proofs.reads.Reads as reads-reads
use Rattle.lint_collect.proofs.rule_entries.Goals as goal

pub writes-writes-requires : goal.writes-writes-requires
writes-writes-requires c = (
  c.requires.0,
  (sizes.sized _ _ c.rule_walk-c.ensures).0,
)

pub reads-reads-requires : goal.reads-reads-requires
reads-reads-requires c = (c.requires.0, (sizes.sized _ _ c.rule_walk-c.ensures).0)

pub rule_findings-requires : goal.rule_findings-requires
rule_findings-requires c = (c.requires.0, c.requires.1, c.requires.2, (sizes.sized _ _ c.rule_walk-c.ensures).0)

pub returns : goal.returns
returns c =
    laws.rule_is _ _ _ _ _ c.rule_walk-c.ensures c.writes-writes.ensures c.reads-reads.ensures c.about-a.ensures
    c.rule_findings.ensures
