use native.Mathlib.Omega.{arith}
use Rattle.texts.proofs.Laws as laws
use Rattle.texts.proofs.text_seek.Goals as goal

pub overflow_add-result : goal.overflow_add-result
overflow_add-result c = omega (arith, laws.length_fits c.args.f.now c.args.at)

pub overflow_add-result-then-i-n : goal.overflow_add-result-then-i-n
overflow_add-result-then-i-n c = omega (arith, laws.length_fits c.args.f.now c.args.at)

pub bounds-f-at : goal.bounds-f-at
bounds-f-at c =
    omega (
      arith,
      laws.length_fits c.args.f.now
          c.args.at,
    )

pub returns-then-i-n : goal.returns-then-i-n
returns-then-i-n c =
    let h = rw c.text_len-n.ensures.0 at c.if-i-n.true in
    laws.seek_in _ _ _ h (laws.byte_in _ _ _ h)

pub returns : goal.returns
returns c = laws.seek_past _ _ _ (omega arith) (omega arith)
