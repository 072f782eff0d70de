use Rattle.checker_judge.proofs.Laws as laws
use Rattle.checker_judge.proofs.next_turn.Goals as goal

pub returns : goal.returns
returns c =
    let put-too = c.put-2.ensures in
    let same = laws.agree _ _ _ _ _ _ c.requires.1 c.put.ensures put-too in record {
      same = same;
      turned = laws.turns _ _ _ _ _ _ _ _ c.get_record-r.ensures _ _ _ _ _ same put-too c.entity_in-e.ensures
          c.value_in-value.ensures c.read-s.ensures;
    }
