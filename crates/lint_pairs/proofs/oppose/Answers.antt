use Rattle.lint_pairs.proofs.Laws as laws
use Rattle.lint_pairs.proofs.oppose.Goals as goal

pub returns-then-count-e : goal.returns-then-count-e
returns-then-count-e c = λ i. laws.found_none _ _ _ _ _ _ _ c.first_of-e.ensures.0 c.if-count-e.true

pub returns : goal.returns
returns c =
    λ i. laws.found_is _ _ _ _ _ _ _ c.first_of-e.ensures.0 c.if-count-e.false c.pair_words.ensures
    (c.push_finding.ensures i)
