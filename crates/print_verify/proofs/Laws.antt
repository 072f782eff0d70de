-- The lines, from their parts.
use mathlib.Core.Path.{◌≡◌, refl}
use mathlib.Core.List.{◌++◌}
use Prim.Native.Nat.{ℕ}
use Rattle.texts.specs.Texts.{Text, text, decimal}
use Rattle.checker_spec.specs.Verify as verify
use Rattle.show.specs.Lines.{newline, refused_line}
use Rattle.search_answer.specs.declared.Found.{Found}
use Rattle.search_answer.specs.declared.Found.TheVariants as found
use Rattle.print_verify.specs.Lines.{found_line, first_line, bound, bounds_line}

module _ (s : Found) where
  pub refused : (n : ℕ) → s ≡ found.Refused n → refused_line n ≡ first_line s
  unfolding first_line
  refused n e = rw e

  pub none_found : s ≡ found.NoCounterexampleWithinBounds → text "status no_counterexample_within_bounds\n" ≡ first_line s
  unfolding first_line found_line verify.found_name
  none_found e = rw e

  pub found_one : s ≡ found.Counterexample → text "status counterexample\n" ≡ first_line s
  unfolding first_line found_line verify.found_name
  found_one e = rw e

  pub unclear : s ≡ found.Inconclusive → text "status inconclusive\n" ≡ first_line s
  unfolding first_line found_line verify.found_name
  unclear e = rw e

pub bound_is : (w : Text) (n : ℕ) → w ++ decimal n ≡ bound w n
unfolding bound
bound_is w n = refl

pub bounds_are : (d h c s : ℕ) →
    bound (text "bounds depth ") d
    ++ (bound (text " horizon ") h ++ (bound (text " max_cases ") c ++ (bound (text " max_steps_per_case ") s ++ newline)))
    ≡ bounds_line d h c s
unfolding bounds_line
bounds_are d h c s = refl
