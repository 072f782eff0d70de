use Rattle.search_entry.proofs.Finish as finish
use Rattle.search_entry.proofs.ended.Goals as goal

pub returns-then-o-ne0 : goal.returns-then-o-ne0
returns-then-o-ne0 c =
    finish.end_refused c.if-o-ne0.true c.refused.ensures c.clear_three.ensures.queue
    c.clear_three.ensures.records
    c.clear_three.ensures.runs

pub witness_of-x-requires : goal.witness_of-x-requires
witness_of-x-requires c = finish.writable c.requires c.if-o-ne0.false c.if-o.true

pub told_of-requires : goal.told_of-requires
told_of-requires c = c.requires.area

pub returns-then-o : goal.returns-then-o
returns-then-o c = finish.end_some c.if-o-ne0.false c.if-o.true c.witness_of-x.ensures (c.told_of.ensures _ _ _ _)

pub told_of-requires-2 : goal.told_of-requires-2
told_of-requires-2 c = c.requires.area

pub returns : goal.returns
returns c =
    finish.end_none c.if-o-ne0.false c.if-o.false c.no_witness-x.ensures (c.told_of-2.ensures _ _ _ _)
    c.clear_three-2.ensures.queue c.clear_three-2.ensures.records c.clear_three-2.ensures.runs
