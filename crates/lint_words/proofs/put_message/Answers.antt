use Rattle.show.proofs.Laws as show
use Rattle.lint_words.proofs.Laws as laws
use Rattle.lint_words.proofs.put_message.Goals as goal

pub returns-then-code-lt6 : goal.returns-then-code-lt6
returns-then-code-lt6 c = c.put_plain_message.ensures _ _

pub returns-then-code-lt9 : goal.returns-then-code-lt9
returns-then-code-lt9 c = c.put_entity_message.ensures _

pub returns : goal.returns
returns c =
    show.is (laws.message_9 _ _ _ c.if-code-lt9.false)
    c.put_quoted_reason.ensures
