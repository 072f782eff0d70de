use Prim.Native.Nat.{◌+◌, ◌-◌}
use lib.ListN.{drop}
use Rattle.reasons.specs.Reasons.{render}
use Rattle.reasons.specs.Lists.{listed, insert_all}
use mathlib.Core.Path.{refl, sym, subst, ◌∙◌, ap}
use native.Mathlib.Omega.{arith}
use borrow.Author.Rules.{rules}
use Rattle.reasons.specs.Readable.{Readable}
use Rattle.reasons.proofs.Listing as listing
use Rattle.reasons.proofs.Cleaning as cleaning
use Rattle.reasons.proofs.merge.Goals as goal

pub loop-j-init : goal.loop-j-init
loop-j-init c = (refl, (refl, λ z y. y))

pub insert_sorted-k-requires : goal.insert_sorted-k-requires
insert_sorted-k-requires c =
    let a = c.args in let l = c.loop-j in let q = rw (← c.get.ensures) at
    (listing.next a.f.now a.m a.b.now l.j c.loop-j-test.true) in
    omega (
      arith,
      listing.room_all _ (listed a.f.now l.k l.a) (listed a.f.now a.m a.b.now)
          (render a.f.now c.get.result) l.j q l.invariant.1.0,
    )

pub loop-j-preserved : goal.loop-j-preserved
loop-j-preserved c =
    let a = c.args in let l = c.loop-j in let ts = listed a.f.now a.m a.b.now in let q =
    rw (← c.get.ensures) at (listing.next a.f.now a.m a.b.now l.j c.loop-j-test.true) in
    let i = c.insert_sorted-k.ensures in (
      search rules,
      (
        l.invariant.1.0
            ∙ listing.all_on (render a.f.now c.get.result) ts l.j _ q _
            ∙ ap (insert_all (drop (l.j + 1) ts)) (sym i.texts),
        λ z y. i.clean
            (subst (Readable a.f.now) (sym c.get.ensures)
            (cleaning.clean_at a.f.now z l.j c.loop-j-test.true))
            (l.invariant.1.1 z y),
      ),
    )

pub returns : goal.returns
returns c =
    let a = c.args in
    let l = c.loop-j in
    let t = sym (l.invariant.1.0 ∙ listing.all_end (listed a.f.now a.m a.b.now) _ l.j
    (omega (arith, listing.length_listed a.f.now a.m a.b.now))) in
    record {
      many = listing.count_is a.f.now l.k l.a t;
      texts = t;
      clean = l.invariant.1.1;
    }
