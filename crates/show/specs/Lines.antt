-- What the programs print: parts of lines, then whole lines with their newlines.
use Rattle.std.specs.Prelude.{ℕ, ◌||◌, Option, Some, None, List, [], ◌∷◌, ◌++◌, eqb, if◌then◌else◌}
use Rattle.texts.specs.Lists.{flat}
use Rattle.texts.specs.Texts.{Text, text, decimal}
use Rattle.texts.specs.Places.{text_at}
use Rattle.reasons.specs.Reasons.{placed}

abbrev pub newline : Text
newline = 10 ∷ []

-- a byte of a quoted text: `\` comes before `"` and `\`
unfoldable pub escape : ℕ → Text
escape b = if eqb b 34 || eqb b 92 then 92 ∷ b ∷ [] else b ∷ []

-- a text between quotes
unfoldable pub quoted : Text → Text
quoted t = 34 ∷ (flat escape t ++ (34 ∷ []))

-- `-`, for a text or a source that is not there
abbrev pub dash : Text
dash = 45 ∷ []

-- LINE:COLUMN, or `-`
unfoldable pub source : Option (ℕ × ℕ) → Text
source (Some (line, column)) = placed line column
source None = dash

-- ---- lines

-- a word and a number: `steps 5`
unfoldable pub number_line : (word : Text) → ℕ → Text
number_line w n = w ++ (32 ∷ (decimal n ++ newline))

unfoldable pub accepted_line : Text
accepted_line = text "accepted" ++ newline

-- in every program, the only line of a refusal
unfoldable pub refused_line : (number : ℕ) → Text
refused_line n = text "refused " ++ (decimal n ++ newline)

-- before each model of a batch, in the program `replay`
unfoldable pub model_line : (place : ℕ) → Text
model_line k = text "model " ++ (decimal k ++ newline)

-- opens the file, for proofs by computation
unfoldable pub all_lines : Unit {0}
unfolding escape quoted source number_line accepted_line refused_line model_line
all_lines = tt
