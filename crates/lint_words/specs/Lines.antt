-- The lists in the lines of `lint`.
use Rattle.std.specs.Prelude.{List, ◌∷◌, ◌++◌, length}
use Rattle.texts.specs.Lists.{each, flat}
use Rattle.texts.specs.Texts.{Text, decimal}
use Rattle.show.specs.Lines.{quoted}

-- a space before each text
unfoldable pub spaced : List Text → Text
spaced l = flat (λ t. 32 ∷ t) l

-- `N TEXT..`
unfoldable pub listed : List Text → Text
listed l = decimal (length l) ++ spaced l

-- `N "TEXT"..`
unfoldable pub quoted_list : List Text → Text
quoted_list l = listed (each quoted l)

-- opens the file, for proofs by computation
unfoldable pub all_lines : Unit {0}
unfolding spaced listed quoted_list
all_lines = tt
