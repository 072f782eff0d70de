use mathlib.Core.Path.{refl}
use native.Mathlib.Omega.{arith}
use Rattle.model_rewrite.proofs.Laws as laws
use borrow.Author.Rules.{rules}
use Rattle.model_rewrite.proofs.write_events.Goals as goal

pub write_count-requires : goal.write_count-requires
write_count-requires c = let a = c.args in let h = laws.section_size a.events.now a.n in omega arith

pub slice_bounds-write_each-count : goal.slice_bounds-write_each-count
slice_bounds-write_each-count c =
    let a = c.args in let h =
    laws.section_size a.events.now a.n in search rules

pub slice_bounds-write_each-start : goal.slice_bounds-write_each-start
slice_bounds-write_each-start c =
    let a = c.args in let h =
    laws.section_size a.events.now a.n in search rules

pub write_each-size-requires : goal.write_each-size-requires
write_each-size-requires c = let a = c.args in let h = laws.section_size a.events.now a.n in search rules

pub overflow_add-result : goal.overflow_add-result
overflow_add-result c =
    let a = c.args in let h = laws.section_size a.events.now a.n in
    omega (arith, c.write_each-size.ensures.is_size)

pub returns : goal.returns
returns c =
    let a = c.args in laws.section_wrote a.events.now a.n c.requires.1 c.write_count.ensures refl
    c.write_each-size.ensures
