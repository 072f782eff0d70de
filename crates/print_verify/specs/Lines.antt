-- The first line of an answer of `verify`, and its bounds, with their newlines.
use Rattle.std.specs.Prelude.{ℕ, ◌++◌}
use Rattle.texts.specs.Texts.{Text, text, decimal}
use Rattle.checker_spec.specs.Verify as verify
use Rattle.search_answer.specs.declared.Found.{Found}
use Rattle.search_answer.specs.declared.Found.TheVariants.{
  Refused,
  NoCounterexampleWithinBounds,
  Counterexample,
  Inconclusive,
}
use Rattle.show.specs.Lines.{newline, refused_line}

unfoldable pub found_line : verify.Found → Text
found_line s = text "status " ++ (verify.found_name s ++ newline)

-- after a refusal it is the only one
unfoldable pub first_line : Found → Text
first_line (Refused n) = refused_line n
first_line NoCounterexampleWithinBounds = found_line verify.no_counterexample_within_bounds
first_line Counterexample = found_line verify.counterexample
first_line Inconclusive = found_line verify.inconclusive

-- a word and a number
unfoldable pub bound : (word : Text) → ℕ → Text
bound w n = w ++ decimal n

unfoldable pub bounds_line : (depth horizon cases steps : ℕ) → Text
bounds_line d h c s =
    bound (text "bounds depth ") d
    ++ (bound (text " horizon ") h ++ (bound (text " max_cases ") c ++ (bound (text " max_steps_per_case ") s ++ newline)))
