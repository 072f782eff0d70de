use Prim.Native.Nat.{◌+◌, ◌-◌}
use Rattle.reasons.specs.Reasons.{render}
use Rattle.reasons.specs.Lists.{listed}
use mathlib.Core.Path.{sym, ◌∙◌}
use native.Mathlib.Omega.{arith}
use Rattle.reasons.proofs.Entries as entries
use Rattle.reasons.proofs.Listing as listing
use Rattle.reasons.proofs.Cleaning as cleaning
use Rattle.reasons.proofs.push_if_absent.Goals as goal

pub contains-requires : goal.contains-requires
contains-requires c =
    let a = c.args in
    omega (
      arith,
      listing.length_push (render a.f.now a.r) (listed a.f.now a.n a.a.now),
      listing.length_listed a.f.now a.n a.a.now,
    )

pub returns-then-contains : goal.returns-then-contains
returns-then-contains c =
    let a = c.args in
    listing.grows_none a.f.now (sym (listing.push_there _ _ (sym c.if-contains.true ∙ c.contains.ensures)))

pub insert_at-requires : goal.insert_at-requires
insert_at-requires c =
    let a = c.args in
    omega (
      arith,
      listing.room_push (render a.f.now a.r) (listed a.f.now a.n a.a.now)
          (sym c.if-contains.false ∙ c.contains.ensures),
      listing.length_listed a.f.now a.n a.a.now,
    )

pub overflow_add-result : goal.overflow_add-result
overflow_add-result c =
    let a = c.args in
    omega (
      arith,
      listing.room_push (render a.f.now a.r) (listed a.f.now a.n a.a.now)
          (sym c.if-contains.false ∙ c.contains.ensures),
      listing.length_listed a.f.now a.n a.a.now,
    )

pub returns : goal.returns
returns c =
    let a = c.args in
    let q = listing.push_new (render a.f.now a.r) (listed a.f.now a.n a.a.now)
    (sym c.if-contains.false ∙ c.contains.ensures) in
    let b = c.insert_at.new.a in
    let o = c.insert_at.ensures in
    let t = listing.pushed a.f.now a.n a.a.now b a.r (o.is ∙ entries.at_end a.n a.a.now a.r)
    ∙ sym q in
    record {
      many = listing.count_is a.f.now (a.n + 1) b t;
      texts = t;
      clean = λ h g. cleaning.clean_in a.f.now a.n a.n a.a.now o h g;
    }
