use native.Mathlib.Omega.{arith}
use Rattle.engine_notes.proofs.Laws as laws
use Rattle.engine_notes.proofs.put.Goals as goal

pub returns-then-n-gt-LAST_SIMULATION_REASON : goal.returns-then-n-gt-LAST_SIMULATION_REASON
returns-then-n-gt-LAST_SIMULATION_REASON c = laws.put_full _ _ _ _ c.if-n-gt-LAST_SIMULATION_REASON.true

pub insert_sorted-requires : goal.insert_sorted-requires
insert_sorted-requires c = laws.put_fits _ _ _ _ (omega arith) (omega arith)

pub returns : goal.returns
returns c = laws.put_in _ _ _ _ (omega arith) c.insert_sorted.ensures c.requires.1
