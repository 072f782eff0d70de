use Rattle.checker_result.proofs.Laws as laws
use Rattle.checker_result.proofs.add_waiting.Goals as goal

pub insert_sorted-requires : goal.insert_sorted-requires
insert_sorted-requires c =
    laws.insert_room _ _ _ _
    c.requires

pub returns-then-waiting : goal.returns-then-waiting
returns-then-waiting c = laws.ends_one _ _ _ c.if-waiting.true c.by_itself-left.ensures c.insert_sorted.ensures

pub returns : goal.returns
returns c = laws.ends_none _ _ _ c.if-waiting.false
