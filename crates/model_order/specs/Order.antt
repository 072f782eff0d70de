-- Sections whose parts ascend: the texts, and the entities by name. A part is compared with the one before it.
use Rattle.std.specs.Prelude.{Some, None, ℕ, zero, suc, ◌+◌, ◌<◌, ◌≡◌, Bool, true, false, ◌&&◌, List, [], ltb, leb, length, get_or, if◌then◌else◌}
use Rattle.texts.specs.Texts.{Text, text, eq_t, lt_t}
use Rattle.texts.specs.Places.{text_at}
use Rattle.model_spec.specs.File.{got, broken, u16}
use Rattle.model_walk.specs.Walk.{Walked, Walk, and_then}
use Rattle.model_parts.specs.declared.Part.{Part}
use Rattle.model_parts.specs.declared.Part.TheVariants as part
use Rattle.model_parts.specs.Parts.{part_m, text_m}

-- the text at p stands in the file as a whole
unfoldable pub fits : List ℕ → ℕ → Bool
fits s p = leb (p + 1 + get_or s p 0) (length s)

-- the text at a comes before the text at b
unfoldable pub text_before : List ℕ → ℕ → ℕ → Bool
text_before s a b = fits s a && fits s b && lt_t (text_at s a) (text_at s b)

-- the place at a is below the place at b
unfoldable pub place_before : List ℕ → ℕ → ℕ → Bool
place_before s a b = elim (u16 s a) [
  | got x o ↦ elim (u16 s b) [ got y q ↦ ltb x y | broken ↦ false ]
  | broken ↦ false
]

-- one or the other
unfoldable pub before : (as-texts : Bool) → List ℕ → ℕ → ℕ → Bool
before true = text_before
before false = place_before

-- `left` parts, each after the one before it; the last was at a
unfoldable pub chain : Walk → (left : ℕ) → Bool → (a : ℕ) → List ℕ → ℕ → Walked
chain k zero x a s p = Some (p, 0)
chain k (suc left) x a s p = and_then (k s p 0) (λ q m. if before x s a p then chain k left x p s q else None)

-- from the first part on
unfoldable pub chained : Walk → (left : ℕ) → Bool → List ℕ → ℕ → Walked
chained k zero x s p = Some (p, 0)
chained k (suc left) x s p = and_then (k s p 0) (λ q m. chain k left x p s q)

unfoldable pub ascending_m : (ts : ℕ) → Part → Bool → List ℕ → ℕ → Walked
ascending_m ts part x s p = elim (u16 s p) [ got c q ↦ chained (part_m ts part) c x s q | broken ↦ None ]

-- one of `left` texts is w
unfoldable pub among : (left : ℕ) → Text → List ℕ → ℕ → Bool
among zero w s p = false
among (suc left) w s p = elim (text_m s p 0) [
  | Some (q, m) ↦ elim (fits s p && eq_t w (text_at s p)) [ true ↦ true | false ↦ among left w s q ]
  | None ↦ false
]

unfoldable pub has : Text → List ℕ → ℕ → Bool
has w s p = elim (u16 s p) [ got c q ↦ among c w s q | broken ↦ false ]

-- the place of w among `left` texts from p on, the first of them at place k
unfoldable pub place_from : (left k : ℕ) → Text → List ℕ → ℕ → ℕ
place_from zero k w s p = k
place_from (suc left) k w s p = elim (fits s p && eq_t w (text_at s p)) [
  | true ↦ k
  | false ↦ place_from left (k + 1) w s (p + 1 + get_or s p 0)
]

-- the section of texts
unfoldable pub texts_m : List ℕ → ℕ → Walked
texts_m s p =
    if has (text "on") s p then
    if has (text "off") s p then
    if has (text "unknown") s p then
    if has (text "unavailable") s p then ascending_m 0 part.Text true s p
    else None
    else None
    else None
    else None

-- the text w stands at the place x
pub record Fixed (ts : List Text) (x : ℕ) (w : Text) : Type 0 where
  pub is_in : x < length ts
  pub is_text : get_or ts x [] ≡ w
