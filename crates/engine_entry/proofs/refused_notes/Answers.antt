use mathlib.Core.Path.{refl}
use Rattle.engine_entry.specs.Contract.{no_notes}
use Rattle.engine_entry.proofs.refused_notes.Goals as goal

pub returns : goal.returns
unfolding no_notes
returns c = refl
