-- Lists of reasons in words, five to a reason, and the lists of their renderings.
use Rattle.std.specs.Prelude.{ℕ, zero, suc, ◌+◌, ◌*◌, ◌≤◌, ◌≡◌, List, [], ◌∷◌, ◌++◌, Option, Some, None, map, length, get_or, take, drop, if◌then◌else◌}
use Rattle.reasons.specs.declared.Reason.{Reason}
use Rattle.texts.specs.Texts.{Text, mem_t, insert_t}
use Rattle.reasons.specs.Reasons.{render}
use Rattle.reasons.specs.Readable.{AllReadable, HasText}

-- a text behind the others, unless it is there already: Rust's `uncertain`
unfoldable pub push_t : Text → List Text → List Text
push_t t l = if mem_t t l then l else l ++ (t ∷ [])

-- each text of a list inserted, the first one first
unfoldable pub insert_all : List Text → List Text → List Text
insert_all [] l = l
insert_all (t ∷ ts) l = insert_all ts (insert_t t l)

abbrev pub words_of : Reason → List ℕ
words_of r = r.kind ∷ r.first ∷ r.second ∷ r.line ∷ r.column ∷ []

unfoldable pub reason_of : List ℕ → Reason
reason_of a = record { kind = get_or a 0 0; first = get_or a 1 0; second = get_or a 2 0; line = get_or a 3 0; column = get_or a 4 0 }

-- the first n reasons
unfoldable pub reasons : ℕ → List ℕ → List Reason
reasons zero a = []
reasons (suc n) a = reason_of a ∷ reasons n (drop 5 a)

-- their renderings
abbrev pub listed : List ℕ → ℕ → List ℕ → List Text
listed f n a = map (render f) (reasons n a)

-- where a text goes: nowhere, as it is there, or it comes at an index
abbrev pub Goes : Text → List Text → Option ℕ → Type 0
Goes t l None = insert_t t l ≡ l
Goes t l (Some k) = (k ≤ length l) × (insert_t t l ≡ take k l ++ (t ∷ drop k l))

-- each of the n reasons in the words a can be read, and every word behind them is 0
pub record Clean (f : List ℕ) (n : ℕ) (a : List ℕ) : Type 0 where
  pub readable : AllReadable f (reasons n a)
  pub rest : (i : ℕ) → n * 5 ≤ i → get_or a i 0 ≡ 0

-- what an entry reports: the n reasons in the words a are rendered as l, and are clean
pub record Reported (f : List ℕ) (l : List Text) (n : ℕ) (a : List ℕ) : Type 0 where
  pub many : n ≡ length l
  pub texts : listed f n a ≡ l
  pub clean : Clean f n a

-- the same over any bytes: clean if a text is there
pub record Holds (f : List ℕ) (l : List Text) (n : ℕ) (a : List ℕ) : Type 0 where
  pub many : n ≡ length l
  pub texts : listed f n a ≡ l
  pub clean : HasText f → Clean f n a

-- the first n reasons of a become the first m of a', rendered as l; they stay clean if what goes in can be read, which R
-- says
pub record Grows (f : List ℕ) (R : Type 0) (l : List Text) (n : ℕ) (a : List ℕ) (m : ℕ) (a' : List ℕ) : Type 0 where
  pub many : m ≡ length l
  pub texts : listed f m a' ≡ l
  pub clean : R → Clean f n a → Clean f m a'

-- a reason put in at index k of the first n: the words behind are as they were
pub record Opens (r : Reason) (n k : ℕ) (a a' : List ℕ) : Type 0 where
  pub is : reasons (n + 1) a' ≡ take k (reasons n a) ++ (r ∷ drop k (reasons n a))
  pub rest : (i : ℕ) → n * 5 + 5 ≤ i → get_or a' i 0 ≡ get_or a i 0
