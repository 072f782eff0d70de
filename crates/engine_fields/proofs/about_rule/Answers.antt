use Rattle.engine_fields.proofs.Laws as laws
use Rattle.engine_fields.proofs.about_rule.Goals as goal

pub returns : goal.returns
returns c = laws.about_is _ _ _ _ _ _ c.rule_word.ensures c.text_position.ensures
