use mathlib.Core.Path.{refl}
use native.Mathlib.Omega.{arith}
use Rattle.model_rewrite.proofs.Laws as laws
use borrow.Author.Rules.{rules}
use Rattle.model_rewrite.proofs.write_event.Goals as goal

pub write_start-requires : goal.write_start-requires
write_start-requires c =
    let a = c.args in
    omega (arith, laws.at_least a.events.now a.k)

pub returns-then-kind-ne0 : goal.returns-then-kind-ne0
returns-then-kind-ne0 c =
    let a = c.args in laws.plain_wrote a.events.now a.k a.out.now c.write_start.new.out
    c.write_start.ensures c.if-kind-ne0.true

pub slice_bounds-write_places-count : goal.slice_bounds-write_places-count
slice_bounds-write_places-count c = let a = c.args in let h = laws.set_size a.events.now a.k c.if-kind-ne0.false in search rules

pub slice_bounds-write_places-start : goal.slice_bounds-write_places-start
slice_bounds-write_places-start c = let a = c.args in let h = laws.set_size a.events.now a.k c.if-kind-ne0.false in search rules

pub write_places-requires : goal.write_places-requires
write_places-requires c =
    let a = c.args in let f = c.requires.1.0 in let z = c.if-kind-ne0.false in let h =
    laws.set_size a.events.now a.k z in (f.entity z, (f.value z, search rules))

pub returns : goal.returns
returns c =
    let a = c.args in laws.set_wrote a.events.now a.k a.out.now c.write_start.new.out
    c.write_start.ensures c.if-kind-ne0.false c.requires.1.1 c.write_places.new.out _ refl
    c.write_places.ensures
