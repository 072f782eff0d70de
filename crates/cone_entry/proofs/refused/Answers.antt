use mathlib.Core.Path.{refl}
use Rattle.cone_entry.specs.Contract.{no_cone}
use Rattle.cone_entry.proofs.refused.Goals as goal

pub returns : goal.returns
unfolding no_cone
returns c = refl
