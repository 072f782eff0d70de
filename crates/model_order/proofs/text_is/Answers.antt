use mathlib.Core.Path.{sym, ◌∙◌}
use native.Mathlib.Omega.{arith}
use Rattle.model_order.proofs.Laws as laws
use Rattle.model_order.proofs.text_is.Goals as goal

pub returns-then-not-text_fits : goal.returns-then-not-text_fits
returns-then-not-text_fits c = sym (laws.is_none _ _ _ (sym c.text_fits.ensures ∙ c.if-not-text_fits.true))

pub bounds-s-p : goal.bounds-s-p
bounds-s-p c = omega (arith, laws.fits_is _ _ (sym c.text_fits.ensures ∙ c.if-not-text_fits.false))

pub overflow_cast-n : goal.overflow_cast-n
overflow_cast-n c = omega (arith, c.shared_slice_known-3-1.given c.args.p)

pub loop-i-init : goal.loop-i-init
loop-i-init c = laws.is_whole _ _ _ (sym c.text_fits.ensures ∙ c.if-not-text_fits.false)

pub returns-then-n-i : goal.returns-then-n-i
returns-then-n-i c =
    sym (c.loop-i.invariant ∙ laws.is_ended _ _ _ (sym c.text_fits.ensures ∙ c.if-not-text_fits.false) _
    c.if-n-i.true)

pub returns-then-word-i : goal.returns-then-word-i
returns-then-word-i c =
    sym (c.loop-i.invariant ∙ laws.is_longer _ _ _ (sym c.text_fits.ensures ∙ c.if-not-text_fits.false) _
    c.if-n-i.false c.if-word-i.true)

pub overflow_add-p : goal.overflow_add-p
overflow_add-p c = omega (arith, laws.fits_is _ _ (sym c.text_fits.ensures ∙ c.if-not-text_fits.false))

pub overflow_add-p-in-loop-i : goal.overflow_add-p-in-loop-i
overflow_add-p-in-loop-i c = omega (arith, laws.fits_is _ _ (sym c.text_fits.ensures ∙ c.if-not-text_fits.false))

pub bounds-s-p-in-loop-i : goal.bounds-s-p-in-loop-i
bounds-s-p-in-loop-i c = omega (arith, laws.fits_is _ _ (sym c.text_fits.ensures ∙ c.if-not-text_fits.false))

pub returns-then-word-i-2 : goal.returns-then-word-i-2
returns-then-word-i-2 c =
    sym (c.loop-i.invariant ∙ laws.is_other _ _ _ (sym c.text_fits.ensures ∙ c.if-not-text_fits.false) _ c.if-n-i.false
    c.if-word-i.false c.if-word-i-2.true)

pub overflow_add-i : goal.overflow_add-i
overflow_add-i c = omega (arith, laws.fits_is _ _ (sym c.text_fits.ensures ∙ c.if-not-text_fits.false))

pub loop-i-smaller : goal.loop-i-smaller
loop-i-smaller c = omega arith

pub loop-i-preserved : goal.loop-i-preserved
loop-i-preserved c =
    c.loop-i.invariant ∙ laws.is_same _ _ _ (sym c.text_fits.ensures ∙ c.if-not-text_fits.false) _ c.if-n-i.false
    c.if-word-i.false c.if-word-i-2.false
