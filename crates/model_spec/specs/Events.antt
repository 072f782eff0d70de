-- Events that stand as words, and some of a list's elements.
use Rattle.std.specs.Prelude.{ℕ, ◌+◌, ◌*◌, ◌<◌, ◌≡◌, List, [], ◌∷◌, length, get_or}
use Rattle.texts.specs.Texts.{Text}
use Rattle.model_spec.specs.Model.{Input, reload, Event}
use Rattle.model_spec.specs.Rewrite.{place_of}

-- some of a list's elements, in their order
pub data Some {A : Type 0} : List A → List A → Type 0 where
  no_more : Some [] []
  skip : {x : A} {l m : List A} → Some l m → Some l (x ∷ m)
  keep : {x : A} {l m : List A} → Some l m → Some (x ∷ l) (x ∷ m)

-- ---- the words: a second, a kind (0 sets, 1 restarts, 2 reloads), the place of an entity and the place of a value

-- zeros for the places of one that doesn't set
unfoldable pub input_words : (texts : List Text) → Input → List ℕ
input_words ts (Input.set x v) = 0 ∷ place_of x ts ∷ place_of v ts ∷ []
input_words ts Input.restart = 1 ∷ 0 ∷ 0 ∷ []
input_words ts reload = 2 ∷ 0 ∷ 0 ∷ []

unfoldable pub event_words : (texts : List Text) → Event → List ℕ
event_words ts e = e.at ∷ input_words ts e.input

-- ---- what a simulation reads of them

-- an input's words: kind 0 sets the entity at a place to the value at a place, 1 restarts, 2 reloads
abbrev pub InputWords : List Text → (kind e v : ℕ) → Input → Type 0
InputWords ts k e v (Input.set a b) =
    (k ≡ 0) × (((e < length ts) × (a ≡ get_or ts e [])) × ((v < length ts) × (b ≡ get_or ts v [])))
InputWords ts k e v Input.restart = k ≡ 1
InputWords ts k e v reload = k ≡ 2

-- the four words of the k-th event; the places of one that doesn't set are left free
pub record EventWords (ts : List Text) (l : List ℕ) (k : ℕ) (v : Event) : Type 0 where
  pub second : get_or l (k * 4) 0 ≡ v.at
  pub input : InputWords ts (get_or l (k * 4 + 1) 0) (get_or l (k * 4 + 2) 0) (get_or l (k * 4 + 3) 0) v.input
