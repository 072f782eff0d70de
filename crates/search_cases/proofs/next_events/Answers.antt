use Rattle.search_cases.proofs.Laws as laws
use native.Mathlib.Omega.{arith}
use Rattle.search_cases.proofs.next_events.Goals as goal

pub nonzero_div-k : goal.nonzero_div-k
nonzero_div-k c = omega (arith, laws.some_inputs _ _ _ c.requires.0)

pub offset_bounds-seconds-k : goal.offset_bounds-seconds-k
offset_bounds-seconds-k c =
    omega (
      arith,
      laws.gap_below _ _ _ c.requires.0,
      c.requires.1.fitted.gaps,
    )

pub bounds-seconds-k : goal.bounds-seconds-k
bounds-seconds-k c =
    omega (
      arith,
      laws.gap_below _ _ _ c.requires.0,
      c.requires.1.fitted.gaps,
    )

pub nonzero_rem-k : goal.nonzero_rem-k
nonzero_rem-k c = omega (arith, laws.some_inputs _ _ _ c.requires.0)

pub place-requires : goal.place-requires
place-requires c = (
  omega (arith, c.requires.1.events),
  (
    c.requires.1.words,
    omega (
      arith,
      laws.input_below _ _ _ c.requires.0,
      c.requires.1.fitted.inputs,
    ),
  ),
)

pub returns : goal.returns
returns c =
    laws.next_is c.args.p.gaps c.args.p.alphabet c.args.placed c.args.k
    c.last_at-last.ensures c.later-at.ensures c.place.ensures
