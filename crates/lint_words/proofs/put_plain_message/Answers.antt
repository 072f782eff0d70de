use borrow.Author.Rules.{rules}
use mathlib.Core.Path.{◌∙◌}
use Rattle.show.proofs.Laws as show
use Rattle.lint_words.proofs.Laws as laws
use Rattle.lint_words.proofs.put_plain_message.Goals as goal

pub returns-in-0 : goal.returns-in-0
returns-in-0 c = λ x t. show.is (laws.message_0 x t ∙ laws.message_at x t _ 0 c.in-0.is) c.put_quoted.ensures

pub returns-in-1 : goal.returns-in-1
returns-in-1 c = λ x t. show.is (laws.message_1 x t ∙ laws.message_at x t _ 1 c.in-1.is) c.put_quoted-in-1.ensures

pub returns-in-2 : goal.returns-in-2
returns-in-2 c = λ x t. show.is (laws.message_2 x t ∙ laws.message_at x t _ 2 c.in-2.is) c.put_quoted-in-2.ensures

pub returns-in-3 : goal.returns-in-3
returns-in-3 c = λ x t. show.is (laws.message_3 x t ∙ laws.message_at x t _ 3 c.in-3.is) c.put_quoted-in-3.ensures

pub returns-in-4 : goal.returns-in-4
returns-in-4 c = λ x t. show.is (laws.message_4 x t ∙ laws.message_at x t _ 4 c.in-4.is) c.put_quoted-in-4.ensures

pub returns-in_default : goal.returns-in_default
returns-in_default c =
    λ x t. show.is (laws.message_5 x t ∙ laws.message_at x t _ 5
    (laws.is_5 _ c.requires (search rules) (search rules) (search rules) (search rules) (search rules)))
    c.put_quoted-in_default.ensures
