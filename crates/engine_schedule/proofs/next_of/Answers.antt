use Rattle.engine_schedule.proofs.Laws as laws
use Rattle.engine_schedule.proofs.next_of.Goals as goal

pub returns-in_default : goal.returns-in_default
returns-in_default c = laws.seen_nothing _ _ _ _ c.next.ensures.item c.in_default.is

pub returns-then-st-ge10000 : goal.returns-then-st-ge10000
returns-then-st-ge10000 c = laws.seen_records _ _ _ _ c.next.ensures.item _ c.in-Some.is c.if-st-ge10000.true

pub returns-then-st-gt20000 : goal.returns-then-st-gt20000
returns-then-st-gt20000 c = laws.seen_items _ _ _ _ c.next.ensures.item _ c.in-Some.is c.if-st-ge10000.false c.if-st-gt20000.true

pub returns-then-x-it : goal.returns-then-x-it
returns-then-x-it c = laws.seen_late _ _ _ _ c.next.ensures.item _ c.in-Some.is c.if-st-ge10000.false c.if-st-gt20000.false c.if-x-it.true

pub returns : goal.returns
returns c = laws.seen_take _ _ _ _ c.next.ensures.item _ c.in-Some.is c.if-st-ge10000.false c.if-st-gt20000.false c.if-x-it.false
