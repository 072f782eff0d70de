use native.Mathlib.Omega.{arith}
use Rattle.lint_areas.proofs.Laws as laws
use borrow.Author.Rules.{rules}
use Rattle.lint_areas.proofs.push_interaction.Goals as goal

pub returns-then-o-gt0 : goal.returns-then-o-gt0
returns-then-o-gt0 c = λ f. laws.interaction_after _ _ _ _ (λ z. omega arith)

pub returns-then-interactions-n : goal.returns-then-interactions-n
returns-then-interactions-n c = λ f. laws.interaction_full _ _ _ _ (search rules) c.if-interactions-n.true

pub returns : goal.returns
returns c =
    λ f. laws.interaction_in _ _ _ _ _ (search rules) c.if-interactions-n.false
    c.put.ensures
