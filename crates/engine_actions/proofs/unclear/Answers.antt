use Rattle.engine_fields.proofs.Readable.{about_readable}
use native.Mathlib.Omega.{arith}
use Rattle.engine_state.proofs.Laws.{one, two}
use Rattle.engine_state.proofs.Laws as states
use Rattle.engine_actions.proofs.Laws as laws
use Rattle.engine_actions.specs.Actions.{unclear_m}
use Rattle.engine_trigger.specs.Runs.{finish_m}
use borrow.Author.Rules.{rules}
use Rattle.engine_actions.proofs.unclear.Goals as goal

pub uncertain-s1-requires : goal.uncertain-s1-requires
uncertain-s1-requires c = (search rules, (search rules, about_readable _ _ c.about_rule-why.ensures c.requires.0))

pub finish-requires : goal.finish-requires
finish-requires c = (
  omega (arith, c.requires, c.uncertain-s1.ensures.runs),
  (
    omega (arith, c.requires, c.uncertain-s1.ensures.queue),
    (omega (arith, c.requires, c.uncertain-s1.ensures.records), omega (arith, c.requires, c.uncertain-s1.ensures.runs)),
  ),
)

pub returns : goal.returns
unfolding unclear_m
returns c =
    states.moves (λ v n s. states.follow (finish_m _)
    (states.renamed _ (c.uncertain-s1.ensures.does _ _ _)
    (λ k. laws.doubt_is _ _ _ _ _ _ _ c.at_most-i.ensures.0 c.about_rule-why.ensures))
    (c.finish.ensures.does _ _ _) two two two one)
