use mathlib.Core.Path.{sym}
use native.Mathlib.Omega.{arith}
use Rattle.model_order.proofs.Laws as laws
use Rattle.model_order.proofs.text_fits.Goals as goal

pub returns-then-s-p : goal.returns-then-s-p
returns-then-s-p c = sym (laws.fits_no _ _ (omega arith))

pub overflow_cast-n : goal.overflow_cast-n
overflow_cast-n c = omega (arith, c.shared_slice_known-1.given c.args.p)

pub returns-then-s-p-2 : goal.returns-then-s-p-2
returns-then-s-p-2 c = sym (laws.fits_no _ _ (omega arith))

pub returns : goal.returns
returns c = sym (laws.fits_yes _ _ (omega arith))
