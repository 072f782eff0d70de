use native.Mathlib.Omega.{arith}
use Rattle.engine_entry.proofs.Entry as entry
use Rattle.engine_entry.proofs.unsupported.Goals as goal

pub returns-in-Refused : goal.returns-in-Refused
returns-in-Refused c = entry.notes_refused _ _ c.accept-x.ensures c.in-Refused.is c.refused_notes.ensures

pub returns-in-Read : goal.returns-in-Read
returns-in-Read c =
    entry.notes_read _ _ c.accept-x.ensures (λ k. omega (arith, c.shared_slice_known-1.given k))
    c.in-Read.is _ c.prepared-b.ensures
