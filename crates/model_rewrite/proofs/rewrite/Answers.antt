use mathlib.Core.Path.{refl}
use native.Mathlib.Omega.{arith}
use Rattle.model_rewrite.proofs.Laws as laws
use Rattle.model_rewrite.proofs.rewrite.Goals as goal

pub copy-requires : goal.copy-requires
copy-requires c =
    let a = c.args in let h = laws.sizes a.file.now a.place a.events.now a.n
    (omega (arith, c.requires.ordered, c.requires.inside)) c.requires.inside in omega arith

pub slice_bounds-write_events-count : goal.slice_bounds-write_events-count
slice_bounds-write_events-count c =
    let a = c.args in let h = laws.sizes a.file.now a.place a.events.now a.n
    (omega (arith, c.requires.ordered, c.requires.inside)) c.requires.inside in omega arith

pub slice_bounds-write_events-start : goal.slice_bounds-write_events-start
slice_bounds-write_events-start c =
    let a = c.args in let h = laws.sizes a.file.now a.place a.events.now a.n
    (omega (arith, c.requires.ordered, c.requires.inside)) c.requires.inside in omega arith

pub write_events-size-requires : goal.write_events-size-requires
write_events-size-requires c =
    let a = c.args in let h = laws.sizes a.file.now a.place a.events.now a.n
    (omega (arith, c.requires.ordered, c.requires.inside)) c.requires.inside in (c.requires.events, omega arith)

pub overflow_add-behind : goal.overflow_add-behind
overflow_add-behind c =
    let a = c.args in let h = laws.sizes a.file.now a.place a.events.now a.n
    (omega (arith, c.requires.ordered, c.requires.inside)) c.requires.inside in
    omega (arith, c.write_events-size.ensures.is_size)

pub slice_bounds-copy-count-3 : goal.slice_bounds-copy-count-3
slice_bounds-copy-count-3 c =
    let a = c.args in let h = laws.sizes a.file.now a.place a.events.now a.n
    (omega (arith, c.requires.ordered, c.requires.inside)) c.requires.inside in let w =
    c.write_events-size.ensures.is_size in omega arith

pub slice_bounds-copy-start-3 : goal.slice_bounds-copy-start-3
slice_bounds-copy-start-3 c =
    let a = c.args in let h = laws.sizes a.file.now a.place a.events.now a.n
    (omega (arith, c.requires.ordered, c.requires.inside)) c.requires.inside in let w =
    c.write_events-size.ensures.is_size in omega arith

pub copy-requires-2 : goal.copy-requires-2
copy-requires-2 c =
    let a = c.args in let h = laws.sizes a.file.now a.place a.events.now a.n
    (omega (arith, c.requires.ordered, c.requires.inside)) c.requires.inside in let w =
    c.write_events-size.ensures.is_size in omega arith

pub overflow_add-result : goal.overflow_add-result
overflow_add-result c =
    let a = c.args in let h = laws.sizes a.file.now a.place a.events.now a.n
    (omega (arith, c.requires.ordered, c.requires.inside)) c.requires.inside in
    omega (arith, c.write_events-size.ensures.is_size)

pub returns : goal.returns
returns c =
    let a = c.args in laws.file_wrote a.file.now a.place a.events.now a.n
    (omega (arith, c.requires.ordered, c.requires.inside)) c.requires.inside c.requires.room c.copy.ensures refl
    c.write_events-size.ensures refl c.copy-2.ensures
