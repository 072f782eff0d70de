use Prim.Native.Nat.{◌*◌}
use lib.ListN.{drop}
use Rattle.texts.proofs.Ordering as ordering
use Rattle.reasons.specs.Reasons.{render}
use Rattle.reasons.specs.Lists.{reason_of}
use mathlib.Core.Path.{◌≡◌, refl}
use native.Mathlib.Omega.{arith}
use borrow.Author.Rules.{rules}
use Rattle.reasons.proofs.Listing as listing
use Rattle.reasons.proofs.find_spot.Goals as goal

pub loop-i-init : goal.loop-i-init
loop-i-init c = (search rules, refl)

pub returns-in-Equal : goal.returns-in-Equal
returns-in-Equal c =
    let a = c.args in listing.there _ _ c.loop-i.i _
    (listing.next a.f.now a.n a.a.now c.loop-i.i c.loop-i-test.true) c.loop-i.invariant.1
    (ordering.is_same _ _ (cc))

pub returns-in-Less : goal.returns-in-Less
returns-in-Less c =
    let a = c.args in let l = c.loop-i in let s = ordering.is_less (render a.f.now a.r)
    (render a.f.now (reason_of (drop (l.i * 5) a.a.now))) (cc) in (
      omega (arith, listing.length_listed a.f.now a.n a.a.now),
      listing.before _ _ l.i _ (listing.next a.f.now a.n a.a.now l.i c.loop-i-test.true) l.invariant.1
          s.0 s.1,
    )

pub loop-i-preserved : goal.loop-i-preserved
loop-i-preserved c =
    let a = c.args in let l = c.loop-i in let s = ordering.is_greater (render a.f.now a.r)
    (render a.f.now (reason_of (drop (l.i * 5) a.a.now))) (cc) in (
      omega arith,
      listing.behind _ _ l.i _ (listing.next a.f.now a.n a.a.now l.i c.loop-i-test.true)
          l.invariant.1 (omega (arith, listing.length_listed a.f.now a.n a.a.now)) s.0 s.1,
    )

pub returns : goal.returns
returns c =
    let a = c.args in let l = c.loop-i in let e : l.i ≡ a.n = omega arith in (
      omega (arith, listing.length_listed a.f.now a.n a.a.now),
      rw e at (listing.at_end _ _ l.i (omega (arith, listing.length_listed a.f.now a.n a.a.now)) l.invariant.1),
    )
