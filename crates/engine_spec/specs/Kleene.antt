-- Kleene's strong three-valued logic: its values and its tables.
use Rattle.std.specs.Prelude.{Bool, true, false, List, [], ◌∷◌}

pub data Truth : Type 0 where
  Yes No Unknown : Truth
  deriving IsSet as truth-is-set

unfoldable pub not₃ : Truth → Truth
not₃ Yes = No
not₃ No = Yes
not₃ Unknown = Unknown

infixr 30 ◌and₃◌
-- a No decides, then an Unknown
unfoldable pub ◌and₃◌ : Truth → Truth → Truth
Yes and₃ t = t
No and₃ t = No
Unknown and₃ Yes = Unknown
Unknown and₃ No = No
Unknown and₃ Unknown = Unknown

infixr 25 ◌or₃◌
-- a Yes decides, then an Unknown
unfoldable pub ◌or₃◌ : Truth → Truth → Truth
Yes or₃ t = Yes
No or₃ t = t
Unknown or₃ Yes = Yes
Unknown or₃ No = Unknown
Unknown or₃ Unknown = Unknown

-- the conjunction of a list
unfoldable pub all₃ : List Truth → Truth
all₃ [] = Yes
all₃ (t ∷ l) = t and₃ all₃ l

unfoldable pub is_yes : Truth → Bool
is_yes Yes = true
is_yes No = false
is_yes Unknown = false

unfoldable pub is_no : Truth → Bool
is_no Yes = false
is_no No = true
is_no Unknown = false

unfoldable pub is_unknown : Truth → Bool
is_unknown Yes = false
is_unknown No = false
is_unknown Unknown = true

-- opens the file, for proofs by computation
unfoldable pub all_kleene : Unit {0}
unfolding not₃ ◌and₃◌ ◌or₃◌ all₃ is_yes is_no is_unknown
all_kleene = tt
