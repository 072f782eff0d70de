use borrow.Author.Rules.{rules}
use mathlib.Core.Path.{◌≡◌}
use Prim.Native.Nat.{◌-◌}
use Rattle.lint_undeclared.specs.Undeclared.{rules_m, undeclared_m}
use Rattle.lint_conditions.specs.Context.{section_of}
use Rattle.lint_undeclared.proofs.undeclared_names.Given as goal

abbrev pub invariant-loop-i : goal.invariant-loop-i
invariant-loop-i l =
    undeclared_m l.s (section_of l.entities l.declared) (section_of l.rules l.extent) l.texts
    ≡ rules_m l.s (section_of l.entities l.declared) (section_of l.rules l.extent) l.texts (l.count - l.i) l.i l.u
