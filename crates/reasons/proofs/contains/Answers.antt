use Prim.Native.Nat.{◌-◌}
use mathlib.Core.Path.{refl, sym, ◌∙◌}
use Rattle.reasons.proofs.Listing as listing
use Rattle.reasons.proofs.contains.Goals as goal

pub loop-i-init : goal.loop-i-init
loop-i-init c = refl

pub returns-then-equal : goal.returns-then-equal
returns-then-equal c =
    let a = c.args in listing.mem_hit _ _ c.loop-i.i _
    (listing.next a.f.now a.n a.a.now c.loop-i.i c.loop-i-test.true) c.loop-i.invariant (cc)

pub loop-i-preserved : goal.loop-i-preserved
loop-i-preserved c =
    let a = c.args in listing.mem_on _ _ c.loop-i.i _
    (listing.next a.f.now a.n a.a.now c.loop-i.i c.loop-i-test.true) c.loop-i.invariant (cc)

pub returns : goal.returns
returns c =
    let a = c.args in
    sym (c.loop-i.invariant ∙ listing.mem_end _ _ c.loop-i.i
    (rw (listing.length_listed a.f.now a.n a.a.now) c.loop-i-test.false))
