-- What the areas hold, and the first entry that found no place.
use Rattle.std.specs.Prelude.{ℕ, zero, suc, List, [], ◌∷◌, ◌++◌, take, replicate}
use Rattle.std.proofs.Math.Option.{Option, none, some}
use Rattle.lint_areas.specs.Areas.{Item, finding, interaction}

-- n words: those given, and zeros if they are fewer
unfoldable pub exactly : ℕ → List ℕ → List ℕ
exactly n w = take n (w ++ replicate n 0)

unfoldable pub findings_of : List Item → List (List ℕ)
findings_of [] = []
findings_of (finding w ∷ l) = w ∷ findings_of l
findings_of (interaction w ∷ l) = findings_of l

unfoldable pub interactions_of : List Item → List (List ℕ)
interactions_of [] = []
interactions_of (finding w ∷ l) = interactions_of l
interactions_of (interaction w ∷ l) = w ∷ interactions_of l

-- the first entry for which so many places don't suffice: 45 findings, 46 interactions
unfoldable pub over : List Item → (findings interactions : ℕ) → Option ℕ
over [] f i = none
over (finding w ∷ l) zero i = some 45
over (finding w ∷ l) (suc f) i = over l f i
over (interaction w ∷ l) f zero = some 46
over (interaction w ∷ l) f (suc i) = over l f i
