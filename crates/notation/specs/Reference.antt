-- Words for contracts: what a lent place held when the function was called, and what it holds when it ends.
use denote.Triple.Both.{Both}
use Rattle.std.specs.Borrow.{MutBor}

abbrev pub was : {X Y : Type 0} → Both (MutBor X) Y → X
was q = q.entry.now

abbrev pub is : {X Y : Type 0} → Both Y (MutBor X) → X
is q = q.exit.now
