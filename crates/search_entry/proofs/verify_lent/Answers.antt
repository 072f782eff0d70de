use Rattle.search_entry.proofs.Entry as entry
use borrow.Author.Rules.{rules}
use Rattle.search_entry.proofs.verify_lent.Goals as goal

pub accept-x-requires : goal.accept-x-requires
accept-x-requires c = search rules

pub enum_known-status : goal.enum_known-status
enum_known-status c = search rules

pub refused-requires : goal.refused-requires
refused-requires c = search rules

pub enum_told-1 : goal.enum_told-1
enum_told-1 c = search rules

pub admitted-requires : goal.admitted-requires
admitted-requires c = entry.accepted_so _ _ c.accept-x.ensures c.in-Read.is

pub returns-in-Refused : goal.returns-in-Refused
returns-in-Refused c = entry.verify_refused _ _ c.accept-x.ensures c.in-Refused.is c.refused.ensures _ _

pub shape_of-queue : goal.shape_of-queue
shape_of-queue c = search rules

pub shape_of-records : goal.shape_of-records
shape_of-records c = search rules

pub shape_of-runs : goal.shape_of-runs
shape_of-runs c = search rules

pub shape_of-output : goal.shape_of-output
shape_of-output c = search rules

pub returns-in-Read : goal.returns-in-Read
returns-in-Read c = entry.verify_read _ _ c.accept-x.ensures c.in-Read.is c.admitted.ensures
