use mathlib.Core.Path.{sym}
use native.Mathlib.Omega.{arith}
use Rattle.model_walk.proofs.Laws as laws
use Rattle.model_walk.proofs.predicate_size.Goals as goal

pub returns-in-0 : goal.returns-in-0
returns-in-0 c = sym (laws.size_of_state _ c.in-0.is)

pub returns-in-1 : goal.returns-in-1
returns-in-1 c = sym (laws.size_of_note _ c.in-1.is)

pub returns-in_default : goal.returns-in_default
returns-in_default c = sym (laws.size_of_other _ (λ e. omega arith) (λ e. omega arith))
