use mathlib.Core.Path.{sym, ◌∙◌}
use native.Mathlib.Omega.{arith}
use Rattle.model_order.proofs.Laws as laws
use Rattle.model_order.proofs.text_before.Goals as goal

pub returns-then-not-text_fits : goal.returns-then-not-text_fits
returns-then-not-text_fits c = sym (laws.no_first _ _ _ (sym c.text_fits.ensures ∙ c.if-not-text_fits.true))

pub returns-then-not-text_fits-2 : goal.returns-then-not-text_fits-2
returns-then-not-text_fits-2 c =
    sym (laws.no_second _ _ _ (sym c.text_fits.ensures ∙ c.if-not-text_fits.false)
    (sym c.text_fits-2.ensures ∙ c.if-not-text_fits-2.true))

pub bounds-s-a : goal.bounds-s-a
bounds-s-a c =
    omega (
      arith,
      laws.fits_is _ _ (sym c.text_fits.ensures ∙ c.if-not-text_fits.false),
      laws.fits_is _ _ (sym c.text_fits-2.ensures ∙ c.if-not-text_fits-2.false),
    )

pub overflow_cast-n : goal.overflow_cast-n
overflow_cast-n c = omega (arith, c.shared_slice_known-1.given c.args.a)

pub bounds-s-b : goal.bounds-s-b
bounds-s-b c =
    omega (
      arith,
      laws.fits_is _ _ (sym c.text_fits.ensures ∙ c.if-not-text_fits.false),
      laws.fits_is _ _ (sym c.text_fits-2.ensures ∙ c.if-not-text_fits-2.false),
    )

pub overflow_cast-m : goal.overflow_cast-m
overflow_cast-m c = omega (arith, c.shared_slice_known-1.given c.args.b)

pub loop-i-init : goal.loop-i-init
loop-i-init c =
    laws.whole _ _ _ (sym c.text_fits.ensures ∙ c.if-not-text_fits.false)
    (sym c.text_fits-2.ensures ∙ c.if-not-text_fits-2.false)

pub returns-then-n-i : goal.returns-then-n-i
returns-then-n-i c =
    sym (c.loop-i.invariant ∙ laws.shorter _ _ _ (sym c.text_fits.ensures ∙ c.if-not-text_fits.false)
    (sym c.text_fits-2.ensures ∙ c.if-not-text_fits-2.false) _ c.if-n-i.true)

pub returns-then-m-i : goal.returns-then-m-i
returns-then-m-i c =
    sym (c.loop-i.invariant ∙ laws.longer _ _ _ (sym c.text_fits.ensures ∙ c.if-not-text_fits.false)
    (sym c.text_fits-2.ensures ∙ c.if-not-text_fits-2.false) _ c.if-n-i.false c.if-m-i.true)

pub overflow_add-x : goal.overflow_add-x
overflow_add-x c =
    omega (
      arith,
      laws.fits_is _ _ (sym c.text_fits.ensures ∙ c.if-not-text_fits.false),
      laws.fits_is _ _ (sym c.text_fits-2.ensures ∙ c.if-not-text_fits-2.false),
    )

pub overflow_add-x-in-loop-i : goal.overflow_add-x-in-loop-i
overflow_add-x-in-loop-i c =
    omega (
      arith,
      laws.fits_is _ _ (sym c.text_fits.ensures ∙ c.if-not-text_fits.false),
      laws.fits_is _ _ (sym c.text_fits-2.ensures ∙ c.if-not-text_fits-2.false),
    )

pub bounds-s-a-in-loop-i : goal.bounds-s-a-in-loop-i
bounds-s-a-in-loop-i c =
    omega (
      arith,
      laws.fits_is _ _ (sym c.text_fits.ensures ∙ c.if-not-text_fits.false),
      laws.fits_is _ _ (sym c.text_fits-2.ensures ∙ c.if-not-text_fits-2.false),
    )

pub overflow_add-y : goal.overflow_add-y
overflow_add-y c =
    omega (
      arith,
      laws.fits_is _ _ (sym c.text_fits.ensures ∙ c.if-not-text_fits.false),
      laws.fits_is _ _ (sym c.text_fits-2.ensures ∙ c.if-not-text_fits-2.false),
    )

pub overflow_add-y-in-loop-i : goal.overflow_add-y-in-loop-i
overflow_add-y-in-loop-i c =
    omega (
      arith,
      laws.fits_is _ _ (sym c.text_fits.ensures ∙ c.if-not-text_fits.false),
      laws.fits_is _ _ (sym c.text_fits-2.ensures ∙ c.if-not-text_fits-2.false),
    )

pub bounds-s-b-in-loop-i : goal.bounds-s-b-in-loop-i
bounds-s-b-in-loop-i c =
    omega (
      arith,
      laws.fits_is _ _ (sym c.text_fits.ensures ∙ c.if-not-text_fits.false),
      laws.fits_is _ _ (sym c.text_fits-2.ensures ∙ c.if-not-text_fits-2.false),
    )

pub returns-then-x-y : goal.returns-then-x-y
returns-then-x-y c =
    sym (c.loop-i.invariant ∙ laws.less _ _ _ (sym c.text_fits.ensures ∙ c.if-not-text_fits.false)
    (sym c.text_fits-2.ensures ∙ c.if-not-text_fits-2.false) _ c.if-n-i.false c.if-m-i.false c.if-x-y.true)

pub returns-then-y-x : goal.returns-then-y-x
returns-then-y-x c =
    sym (c.loop-i.invariant ∙ laws.more _ _ _ (sym c.text_fits.ensures ∙ c.if-not-text_fits.false)
    (sym c.text_fits-2.ensures ∙ c.if-not-text_fits-2.false) _ c.if-n-i.false c.if-m-i.false c.if-y-x.true)

pub overflow_add-i : goal.overflow_add-i
overflow_add-i c =
    omega (
      arith,
      laws.fits_is _ _ (sym c.text_fits.ensures ∙ c.if-not-text_fits.false),
      laws.fits_is _ _ (sym c.text_fits-2.ensures ∙ c.if-not-text_fits-2.false),
    )

pub loop-i-smaller : goal.loop-i-smaller
loop-i-smaller c = omega arith

pub loop-i-preserved : goal.loop-i-preserved
loop-i-preserved c =
    c.loop-i.invariant ∙ laws.same _ _ _ (sym c.text_fits.ensures ∙ c.if-not-text_fits.false)
    (sym c.text_fits-2.ensures ∙ c.if-not-text_fits-2.false) _ c.if-n-i.false c.if-m-i.false
    c.if-x-y.false c.if-y-x.false
