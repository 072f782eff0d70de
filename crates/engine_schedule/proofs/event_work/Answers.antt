use borrow.Author.Rules.{rules}
use borrow.Author.Tests.{ne_eqb}
use Rattle.engine_schedule.specs.Events.{event_m}
use Rattle.engine_schedule.proofs.event_work.Goals as goal

pub returns-in-0 : goal.returns-in-0
unfolding event_m
returns-in-0 c = rw c.in-0.is

pub returns-in-1 : goal.returns-in-1
unfolding event_m
returns-in-1 c = rw c.in-1.is

pub returns-in_default : goal.returns-in_default
unfolding event_m
returns-in_default c = rw (ne_eqb c.args.kind 0 (search rules), ne_eqb c.args.kind 1 (search rules))
