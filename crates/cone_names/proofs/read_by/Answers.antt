use mathlib.Core.Path.{refl}
use Rattle.cone_names.proofs.Laws as laws
use Rattle.cone_names.proofs.read_by.Goals as goal

pub returns-then-u-j : goal.returns-then-u-j
returns-then-u-j c = laws.read_other _ _ _ _ c.if-u-j.true

pub returns-then-i-ge32 : goal.returns-then-i-ge32
returns-then-i-ge32 c = laws.read_far _ _ _ _ c.if-u-j.false refl c.if-i-ge32.true

pub returns : goal.returns
returns c = laws.read_is _ _ _ _ c.if-u-j.false refl c.if-i-ge32.false c.has.ensures
