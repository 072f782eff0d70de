use borrow.Author.Rules.{rules}
use Rattle.layout.specs.Sizes.{simulation_reason_words}
use Rattle.reasons.proofs.Cleaning.{zeros}
use Rattle.engine_entry.proofs.prepared.Goals as goal

pub unsupported-count-requires : goal.unsupported-count-requires
unsupported-count-requires c = (search rules, zeros simulation_reason_words)
