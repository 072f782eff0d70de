use Prim.Native.Nat.{◌+◌}
use Rattle.reasons.specs.Reasons.{render}
use Rattle.reasons.specs.Lists.{listed}
use Rattle.std.specs.Prelude.{Some, None}
use mathlib.Core.Path.{◌≡◌, sym, ◌∙◌}
use native.Mathlib.Omega.{arith}
use Rattle.reasons.proofs.Listing as listing
use Rattle.reasons.proofs.Cleaning as cleaning
use Rattle.reasons.proofs.insert_sorted.Goals as goal

pub find_spot-requires : goal.find_spot-requires
find_spot-requires c =
    let a = c.args in
    omega (
      arith,
      listing.length_insert (render a.f.now a.r) (listed a.f.now a.n a.a.now),
      listing.length_listed a.f.now a.n a.a.now,
    )

pub insert_at-requires : goal.insert_at-requires
insert_at-requires c =
    let a = c.args in let k = c.in-Some.k in let e : c.find_spot.result ≡ Some k = cc in let g =
    rw e at c.find_spot.ensures in (
      omega (arith, listing.length_listed a.f.now a.n a.a.now, g.0),
      omega (
        arith,
        listing.room_insert (render a.f.now a.r) (listed a.f.now a.n a.a.now) k g.1,
        listing.length_listed a.f.now a.n a.a.now,
      ),
    )

pub overflow_add-result : goal.overflow_add-result
overflow_add-result c =
    let a = c.args in let k = c.in-Some.k in let e : c.find_spot.result ≡ Some k = cc in let g =
    rw e at c.find_spot.ensures in omega (
      arith,
      listing.room_insert (render a.f.now a.r) (listed a.f.now a.n a.a.now) k g.1,
      listing.length_listed a.f.now a.n a.a.now,
    )

pub returns-in_default : goal.returns-in_default
returns-in_default c =
    let a = c.args in
    let e : c.find_spot.result ≡ None = cc in
    listing.grows_none a.f.now (sym (rw e at c.find_spot.ensures))

pub returns : goal.returns
returns c =
    let a = c.args in
    let k = c.in-Some.k in
    let e : c.find_spot.result ≡ Some k = cc in
    let g = rw e at c.find_spot.ensures in
    let o = c.insert_at.ensures in
    let b = c.insert_at.new.a in
    let t = listing.inserted a.f.now a.n a.a.now b a.r k o.is ∙ sym g.1 in
    record {
      many = listing.count_is a.f.now (a.n + 1) b t;
      texts = t;
      clean = λ h y. cleaning.clean_in a.f.now a.n k a.a.now o h y;
    }
