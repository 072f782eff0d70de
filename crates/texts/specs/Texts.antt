-- Texts as lists of bytes: their equality, their order, and numbers written in decimal.
use Rattle.std.specs.Prelude.{ℕ, zero, suc, ◌+◌, ◌/◌, ◌%◌, Bool, true, false, ◌&&◌, ◌||◌, List, [], ◌∷◌, ltb, eqb, if◌then◌else◌}
use Prim.Native.Char.{code}
use Prim.Native.String.{String}
use Rattle.std.specs.declared.cmp.Ordering.{Ordering}
use Rattle.std.specs.declared.cmp.Ordering.TheVariants.{Less, Equal, Greater}
use Rattle.texts.specs.Lists.{any}

-- a text: its bytes
abbrev pub Text : Type 0
Text = List ℕ

-- the bytes of an ASCII literal: `text "on"` is 111 ∷ 110 ∷ []
abbrev pub text : String → Text
text String.[] = []
text (String.◌∷◌ c s) = code c ∷ text s

-- the two texts are the same
unfoldable pub eq_t : Text → Text → Bool
eq_t [] [] = true
eq_t [] (b ∷ t) = false
eq_t (a ∷ s) [] = false
eq_t (a ∷ s) (b ∷ t) = eqb a b && eq_t s t

-- s comes strictly before t: byte by byte, a text before its continuations
unfoldable pub lt_t : Text → Text → Bool
lt_t [] [] = false
lt_t [] (b ∷ t) = true
lt_t (a ∷ s) [] = false
lt_t (a ∷ s) (b ∷ t) = ltb a b || eqb a b && lt_t s t

-- how s stands to t
unfoldable pub order_t : Text → Text → Ordering
order_t s t = if eq_t s t then Equal else if lt_t s t then Less else Greater

-- t is one of the texts
unfoldable pub mem_t : Text → List Text → Bool
mem_t t = any (eq_t t)

-- a text among ascending ones, in its place, unless it is there already
unfoldable pub insert_t : Text → List Text → List Text
insert_t t [] = t ∷ []
insert_t t (x ∷ l) = if eq_t t x then x ∷ l else if lt_t t x then t ∷ x ∷ l else x ∷ insert_t t l

-- the texts, ascending, each once: Rust's `sort` and then `dedup`, or a `BTreeSet`
unfoldable pub sorted_t : List Text → List Text
sorted_t [] = []
sorted_t (t ∷ l) = insert_t t (sorted_t l)

-- the digits of n in front of a text; n has at most as many digits as the fuel
unfoldable pub digits : (fuel : ℕ) → ℕ → Text → Text
digits zero n t = t
digits (suc f) n t = elim (ltb n 10) [ true ↦ (48 + n) ∷ t | false ↦ digits f (n / 10) ((48 + n % 10) ∷ t) ]

-- a number in decimal, up to twenty digits
unfoldable pub decimal : ℕ → Text
decimal n = digits 20 n []

-- opens the file, for proofs by computation
unfoldable pub all_texts : Unit {0}
unfolding any eq_t lt_t order_t mem_t insert_t sorted_t digits decimal
all_texts = tt
