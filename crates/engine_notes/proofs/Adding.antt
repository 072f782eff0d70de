-- Texts added one by one while there is place.
use mathlib.Core.Path.{◌≡◌, refl, ap, ◌∙◌}
use mathlib.Core.List.{List, [], ◌∷◌, ◌++◌}
use Rattle.texts.specs.Lists.{each, flat}
use Rattle.texts.specs.Texts.{Text}
use Rattle.engine_notes.specs.Listing.{insert_m}

-- each text of a list added, the first one first
unfoldable pub add_all : List Text → List Text → List Text
add_all [] l = l
add_all (t ∷ ts) l = add_all ts (insert_m t l)

pub add_both : (a b l : List Text) → add_all b (add_all a l) ≡ add_all (a ++ b) l
unfolding add_all
add_both [] b l = refl
add_both (t ∷ a) b l = add_both a b (insert_m t l)

-- ---- lists of lists

module _ {A B : Type 0} (g : A → B) where
  pub each_both : (x y : List A) → each g x ++ each g y ≡ each g (x ++ y)
  unfolding each
  each_both [] y = refl
  each_both (b ∷ x) y = ap (λ (z : List B). g b ∷ z) (each_both x y)

  pub flat_one : (l : List A) → flat (λ a. g a ∷ []) l ≡ each g l
  unfolding flat each
  flat_one [] = refl
  flat_one (a ∷ l) = ap (λ (z : List B). g a ∷ z) (flat_one l)

pub flat_each : {A B C : Type 0} (g : B → C) (h : A → List B) (l : List A) →
    flat (λ a. each g (h a)) l ≡ each g (flat h l)
unfolding flat each
flat_each g h [] = refl
flat_each {A} {B} {C} g h (a ∷ l) =
    ap (λ (y : List C). each g (h a) ++ y) (flat_each g h l)
    ∙ each_both g (h a) (flat h l)
