use mathlib.Core.Path.{◌∙◌}
use Rattle.show.proofs.Laws as show
use Rattle.lint_words.proofs.Laws as laws
use Rattle.lint_words.proofs.put_entity_message.Goals as goal

pub returns-then-code-eq6 : goal.returns-then-code-eq6
returns-then-code-eq6 c =
    λ t. show.is (laws.message_6 _ t ∙ laws.message_at _ t _ 6 c.if-code-eq6.true)
    (show.both c.put_byte-a.ensures (show.both c.put_inner_name-b.ensures c.put.ensures))

pub returns-then-code-eq7 : goal.returns-then-code-eq7
returns-then-code-eq7 c =
    λ t. show.is (laws.message_7 _ t ∙ laws.message_at _ t _ 7 c.if-code-eq7.true)
    (show.both c.put_byte-c.ensures (show.both c.put_inner_name-d.ensures c.put-then-code-eq7.ensures))

pub returns : goal.returns
returns c =
    λ t. show.is (laws.message_8 _ t ∙ laws.message_at _ t _ 8 (laws.is_8 _ c.requires c.if-code-eq6.false c.if-code-eq7.false))
    (show.both c.put-g.ensures (show.both c.put_inner_name-h.ensures c.put-2.ensures))
