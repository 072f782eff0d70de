use borrow.Author.Rules.{rules}
use mathlib.Core.Path.{◌∙◌}
use Rattle.show.proofs.Laws as show
use Rattle.lint_words.proofs.Laws as laws
use Rattle.lint_words.proofs.put_code.Goals as goal

pub returns-in-0 : goal.returns-in-0
returns-in-0 c = λ x t. show.is (laws.code_0 x t ∙ laws.code_at x t _ 0 c.in-0.is) c.put.ensures

pub returns-in-1 : goal.returns-in-1
returns-in-1 c = λ x t. show.is (laws.code_1 x t ∙ laws.code_at x t _ 1 c.in-1.is) c.put-in-1.ensures

pub returns-in-2 : goal.returns-in-2
returns-in-2 c = λ x t. show.is (laws.code_2 x t ∙ laws.code_at x t _ 2 c.in-2.is) c.put-in-2.ensures

pub returns-in-3 : goal.returns-in-3
returns-in-3 c = λ x t. show.is (laws.code_3 x t ∙ laws.code_at x t _ 3 c.in-3.is) c.put-in-3.ensures

pub returns-in-4 : goal.returns-in-4
returns-in-4 c = λ x t. show.is (laws.code_4 x t ∙ laws.code_at x t _ 4 c.in-4.is) c.put-in-4.ensures

pub returns-in-5 : goal.returns-in-5
returns-in-5 c = λ x t. show.is (laws.code_5 x t ∙ laws.code_at x t _ 5 c.in-5.is) c.put-in-5.ensures

pub returns-in-6 : goal.returns-in-6
returns-in-6 c = λ x t. show.is (laws.code_6 x t ∙ laws.code_at x t _ 6 c.in-6.is) c.put-in-6.ensures

pub returns-in-7 : goal.returns-in-7
returns-in-7 c = λ x t. show.is (laws.code_7 x t ∙ laws.code_at x t _ 7 c.in-7.is) c.put-in-7.ensures

pub returns-in-8 : goal.returns-in-8
returns-in-8 c = λ x t. show.is (laws.code_8 x t ∙ laws.code_at x t _ 8 c.in-8.is) c.put-in-8.ensures

pub returns-in_default : goal.returns-in_default
returns-in_default c =
    λ x t. show.is (laws.code_other x t _ (search rules) (search rules) (search rules) (search rules) (search rules)
    (search rules) (search rules) (search rules) (search rules)) c.put-in_default.ensures
