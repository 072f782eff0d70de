use Rattle.engine_unsupported.proofs.Laws as laws
use Rattle.engine_unsupported.proofs.rule_notes.Goals as goal

pub returns : goal.returns
returns c =
    record {
      is = laws.rule_is _ _ _ _ c.rule_word-actions.ensures c.own_notes-k.ensures.is
          c.actions_notes-d.ensures.is;
      clean = λ t k. c.actions_notes-d.ensures.clean t (c.own_notes-k.ensures.clean t k);
    }
