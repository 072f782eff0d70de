use Rattle.engine_fields.proofs.Laws as laws
use Rattle.engine_fields.proofs.list_word.Goals as goal

pub returns-then-position-gt32767 : goal.returns-then-position-gt32767
returns-then-position-gt32767 c = laws.word_far _ _ _ c.place_word.ensures c.if-position-gt32767.true

pub returns : goal.returns
returns c = laws.word_near _ _ _ c.place_word-2.ensures c.if-position-gt32767.false
