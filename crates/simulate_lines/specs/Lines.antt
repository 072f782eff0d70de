-- The lines of `unsupported` and `simulate` besides the records, with their newlines: what a reader of the programs' output
-- sees.
use Rattle.std.specs.Prelude.{ℕ, Bool, List, [], ◌∷◌, ◌++◌, eqb, if◌then◌else◌}
use Rattle.texts.specs.Lists.{flat}
use Rattle.texts.specs.Texts.{Text, text, decimal}
use Rattle.engine_spec.specs.Reasons.{space_spent, steps_spent, runs_left}
use Rattle.show.specs.Lines.{number_line, newline, quoted}

abbrev pub steps_line : ℕ → Text
steps_line = number_line (text "steps")

abbrev pub records_line : ℕ → Text
records_line = number_line (text "records")

abbrev pub horizon_line : ℕ → Text
horizon_line = number_line (text "horizon")

abbrev pub unsupported_line : ℕ → Text
unsupported_line = number_line (text "unsupported")

-- ---- a word and a text: `reason "lamp: note"`

unfoldable pub text_line : (word : Text) → Text → Text
text_line w t = w ++ (32 ∷ (quoted t ++ newline))

abbrev pub reason_line : Text → Text
reason_line = text_line (text "reason")

abbrev pub sim_unknown_line : Text → Text
sim_unknown_line = text_line (text "sim-unknown")

abbrev pub sim_incomplete_line : Text → Text
sim_incomplete_line = text_line (text "sim-incomplete")

-- why a simulation is incomplete: by the number of its halt, and if runs were left
unfoldable pub halted : (stopped : ℕ) → List Text
halted w = if eqb w 0 then [] else if eqb w 1 then space_spent ∷ [] else steps_spent ∷ []

unfoldable pub incomplete_of : (stopped : ℕ) → (left : Bool) → List Text
incomplete_of w left = halted w ++ (if left then runs_left ∷ [] else [])

-- a line for each
unfoldable pub incomplete_lines : List Text → Text
incomplete_lines l = flat sim_incomplete_line l

-- ---- an entity's value at the end

unfoldable pub final_line : (entity value : Text) → Text
final_line e v = text "final " ++ (quoted e ++ (32 ∷ (quoted v ++ newline)))

-- opens the file, for proofs by computation
unfoldable pub all_lines : Unit {0}
unfolding number_line text_line halted incomplete_of incomplete_lines final_line
all_lines = tt
