use mathlib.Core.Path.{◌≡◌}
use mathlib.Core.List.{List}
use Prim.Native.Nat.{ℕ, ◌-◌}
use lib.ListN.{length}
use Rattle.lint_areas.specs.Areas.{board, pushes, only_if, finding}
use Rattle.lint_conditions.specs.Context.{section_of}
use Rattle.lint_findings.specs.Entries.{items_numbers_m, about_m, stale_here_m, fresh_items}
use Rattle.lint_findings.proofs.fresh_findings.Reads as reads
use Rattle.lint_findings.proofs.fresh_findings.Given as goal

abbrev pub invariant-loop-k : goal.invariant-loop-k
invariant-loop-k l =
    ((i : List ℕ) → pushes (fresh_items l.s l.a (section_of l.entities l.extent) l.reads) (board l.initial.findings i l.initial.out)
    ≡ pushes (items_numbers_m (λ k. only_if (stale_here_m l.s (section_of l.entities l.extent) l.reads k)
    (finding (about_m l.a 6 1 k l.a.line l.a.column))) (l.count - l.k) l.k) (board l.findings i l.out))
    × (length l.findings ≡ length l.initial.findings)
