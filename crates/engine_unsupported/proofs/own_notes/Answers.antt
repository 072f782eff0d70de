use Rattle.engine_unsupported.proofs.Laws as laws
use Rattle.engine_unsupported.proofs.own_notes.Goals as goal

pub returns : goal.returns
returns c =
    record {
      is = laws.own_is _ _ _ _ c.rule_word-id.ensures c.rule_word-notes.ensures c.rule_word-triggers.ensures
          c.rule_word-conditions.ensures c.part_notes-a.ensures.is c.part_notes-b.ensures.is
          c.part_notes-c.ensures.is;
      clean = λ t k. c.part_notes-c.ensures.clean t
          (c.part_notes-b.ensures.clean t (c.part_notes-a.ensures.clean t k));
    }
