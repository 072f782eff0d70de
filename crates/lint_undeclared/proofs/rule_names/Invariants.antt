use mathlib.Core.Path.{◌≡◌}
use Prim.Native.Nat.{◌-◌}
use Rattle.lint_walk.specs.Walks.{walk_of}
use Rattle.lint_undeclared.specs.Undeclared.{names_m}
use Rattle.lint_conditions.specs.Context.{section_of}
use Rattle.lint_undeclared.proofs.rule_names.Given as goal

abbrev pub invariant-loop-place : goal.invariant-loop-place
invariant-loop-place l =
    names_m l.s (section_of l.entities l.declared) (walk_of l.list l.c) l.i (l.texts - 0) 0 l.initial.v
    ≡ names_m l.s (section_of l.entities l.declared) (walk_of l.list l.c) l.i (l.texts - l.place) l.place l.v
