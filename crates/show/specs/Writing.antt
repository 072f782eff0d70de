-- What a writer leaves: a text in an area of bytes, behind the first n bytes.
use Rattle.std.specs.Prelude.{◌≡◌, List, ◌++◌, ℕ, ◌+◌, ◌≤◌, ◌<◌, length, take, drop}
use Rattle.texts.specs.Texts.{Text}

-- The text t written at n of the area a: b is the area afterwards, and m the next free index. If t doesn't fit, m is past
-- the area's end, and the first n bytes are as they were. A writer at an index past the end writes nothing, so that a text
-- in several parts is written without a test between them.
pub record Written (t : Text) (a : List ℕ) (n : ℕ) (b : List ℕ) (m : ℕ) : Type 0 where
  pub same : length b ≡ length a
  pub room : n + length t ≤ length a → (m ≡ n + length t) × (b ≡ take n a ++ (t ++ drop (n + length t) a))
  pub full : length a < n + length t → (length a < m) × (take n b ≡ take n a)

-- What was printed last behind the first n bytes of the area a fits: b is the area afterwards, and the next free index m is
-- not past its end, if there is room for the longest line, 4,096 bytes. Each function that prints one line promises this, so
-- that none is cut.
abbrev pub Kept : (a : List ℕ) (n : ℕ) (b : List ℕ) (m : ℕ) → Type 0
Kept a n b m = 4096 ≤ length a → n ≤ length a → m ≤ length b
