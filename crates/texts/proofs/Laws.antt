-- Laws of texts in a file: by position, by place, and byte by byte.
use mathlib.Core.Path.{◌≡◌, refl, sym, ap, ◌∙◌}
use mathlib.Core.List.{List, [], ◌∷◌, ◌++◌}
use Prim.Native.Nat.{ℕ, zero, suc, ◌+◌, ◌-◌, ◌≤◌, ◌<◌, min}
use native.Mathlib.Nat.{sub-zero}
use native.Mathlib.Numerals.{sub-one}
use native.Mathlib.Omega.{arith}
use lib.ListN.{length, get_or, length-take, length-drop, drop_of_length-le, get_or-eq_default}
use lib.Seq.{get_or-take, get_or-drop, take-nil}
use Rattle.texts.specs.Texts.{Text}
use Rattle.texts.specs.Places.{text_at, start_from, texts_from, seek}
use Rattle.std.specs.Prelude.{Result, Ok, Err, MatchResult}
use Rattle.std.specs.Result.{result_unwrap_or}

-- a position past the end has a zero length byte
pub past : (f : List ℕ) (at : ℕ) → length f ≤ at → 0 ≡ get_or f at 0
past f at h = sym (get_or-eq_default f 0 h)

pub start_next : (f : List ℕ) (at n b : ℕ) → 0 < n → b ≡ get_or f at 0 → start_from f at n ≡ start_from f (at + 1 + b) (n - 1)
unfolding start_from
start_next f at zero b h e = absurd (omega arith)
start_next f at (suc n) b h e = rw (e, sub-one (suc n))

pub start_end : (f : List ℕ) (at n : ℕ) → n ≤ 0 → start_from f at n ≡ at
unfolding start_from
start_end f at zero h = refl
start_end f at (suc n) h = absurd (omega arith)

-- ---- the text at a place

-- the text at a place of the file's texts, of which there are n from `at` on
pub text_at_place : (f : List ℕ) (n k at : ℕ) → k < n → text_at f (start_from f at k) ≡ get_or (texts_from f at n) k []
unfolding start_from texts_from
text_at_place f zero k at h = absurd (omega arith)
text_at_place f (suc n) zero at h = refl
text_at_place f (suc n) (suc k) at h = text_at_place f n k (at + 1 + get_or f at 0) (omega arith)

pub texts_many : (f : List ℕ) (at n : ℕ) → length (texts_from f at n) ≡ n
unfolding texts_from
texts_many f at zero = refl
texts_many f at (suc n) = ap suc (texts_many f (at + 1 + get_or f at 0) n)

-- ---- the text at a position

-- a position past the end holds no text
pub absent : (f : List ℕ) (at : ℕ) → length f ≤ at → text_at f at ≡ []
unfolding text_at
absent f at h = let k : length f ≤ at + 1 = omega arith in rw (drop_of_length-le f k, take-nil)

module _ (f : List ℕ) (at : ℕ) where
  pub length_past : length f ≤ at → 0 ≡ length (text_at f at)
  length_past h = sym (ap length (absent f at h))

  pub text_length : at + 1 + get_or f at 0 ≤ length f → length (text_at f at) ≡ get_or f at 0
  unfolding text_at
  text_length h = simp (length-take, length-drop) (omega arith)

  pub length_min : (n : ℕ) → n ≡ get_or f at 0 → at < length f → min n (length f - at - 1) ≡ length (text_at f at)
  unfolding text_at
  length_min n e h = simp (length-take, length-drop) (omega (arith, e))

  pub length_fits : length (text_at f at) ≤ length f - (at + 1)
  unfolding text_at
  length_fits = simp (length-take, length-drop) (omega arith)

  pub length_byte : length (text_at f at) ≤ get_or f at 0
  unfolding text_at
  length_byte = simp length-take (omega arith)

  pub text_byte : (i : ℕ) → i < get_or f at 0 → get_or (text_at f at) i 0 ≡ get_or f (at + 1 + i) 0
  unfolding text_at
  text_byte i h = rw (get_or-take, get_or-drop)

  pub byte_in : (i : ℕ) → i < length (text_at f at) → get_or f (at + 1 + i) 0 ≡ get_or (text_at f at) i 0
  byte_in i h = sym (text_byte i (omega (arith, length_byte)))

-- ---- seeking

pub seek_in : (t : Text) (i b : ℕ) → i < length t → b ≡ get_or t i 0 → Ok b ≡ seek t i
unfolding seek
seek_in [] i b h e = absurd (omega arith)
seek_in (x ∷ t) zero b h e = ap Ok e
seek_in (x ∷ t) (suc i) b h e = seek_in t i b (omega arith) e

pub seek_past : (t : Text) (i j : ℕ) → length t ≤ i → j ≡ i - length t → Err j ≡ seek t i
unfolding seek
seek_past [] i j h e = ap Err (e ∙ sub-zero i)
seek_past (x ∷ t) zero j h e = absurd (omega arith)
seek_past (x ∷ t) (suc i) j h e = seek_past t i j (omega arith) (e ∙ omega arith)

-- a byte of the first of two texts, or what is left is sought in the second
pub seek_here : (t u : Text) (i b : ℕ) → Ok b ≡ seek t i → Ok b ≡ seek (t ++ u) i
unfolding seek
seek_here [] u i b e = absurd (let z : ◌≡◌ {A = ℕ} 0 1 = cc in omega arith)
seek_here (x ∷ t) u zero b e = e
seek_here (x ∷ t) u (suc i) b e = seek_here t u i b e

pub seek_left : (t u : Text) (i j : ℕ) → Err j ≡ seek t i → seek u j ≡ seek (t ++ u) i
unfolding seek
seek_left [] u i j e = ap (seek u) (let z : j ≡ i = cc in z)
seek_left (x ∷ t) u zero j e = absurd (let z : ◌≡◌ {A = ℕ} 0 1 = cc in omega arith)
seek_left (x ∷ t) u (suc i) j e = seek_left t u i j e

-- the same of `or_else`: P is what its closure ensures of what is left
pub seek_or : (t u : Text) (i : ℕ) {P : ℕ → Type 0} (s r : Result ℕ ℕ) → s ≡ seek t i → MatchResult s (λ b. r ≡ Ok b) P →
    ((j : ℕ) → P j → r ≡ seek u j) → r ≡ seek (t ++ u) i
seek_or t u i (Ok b) r e h f = h ∙ seek_here t u i b e
seek_or t u i (Err j) r e h f = f j h ∙ seek_left t u i j e

-- the byte sought, or 0
pub got_or : (t : Text) (i : ℕ) → result_unwrap_or (seek t i) 0 ≡ get_or t i 0
unfolding seek
got_or [] i = refl
got_or (x ∷ t) zero = refl
got_or (x ∷ t) (suc i) = got_or t i
