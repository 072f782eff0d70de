use native.Mathlib.Omega.{arith}
use Rattle.print_lint.proofs.Laws as laws
use Rattle.print_lint.proofs.print_lint.Goals as goal

pub slice_bounds-print_answer-end : goal.slice_bounds-print_answer-end
slice_bounds-print_answer-end c = laws.part _ 131072 (omega (arith, c.requires.0))

pub slice_bounds-print_answer-end-2 : goal.slice_bounds-print_answer-end-2
slice_bounds-print_answer-end-2 c = laws.part _ 131072 (omega (arith, c.requires.1))
