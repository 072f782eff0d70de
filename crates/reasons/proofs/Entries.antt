-- Laws of lists of reasons in words.
use mathlib.Core.Path.{◌≡◌, refl, ap, ◌∙◌}
use mathlib.Core.List.{List, [], ◌∷◌, ◌++◌}
use Prim.Native.Nat.{ℕ, zero, suc, ◌+◌, ◌-◌, ◌*◌, ◌≤◌, ◌<◌}
use native.Mathlib.Numerals.{add-one}
use native.Mathlib.Omega.{arith}
use lib.ListN.{length, get_or, take, drop, length-drop, drop_of_length-le}
use lib.Seq.{get_or-drop, drop-drop, take_all}
use Rattle.areas.specs.Areas.{opened}
use Rattle.reasons.specs.Lists.{words_of, reason_of, reasons}
use Rattle.reasons.specs.declared.Reason.{Reason}

-- ---- words and reasons

pub get_is : (a : List ℕ) (at : ℕ) → record {
  kind = get_or a at 0;
  first = get_or a (at + 1) 0;
  second = get_or a (at + 2) 0;
  line = get_or a (at + 3) 0;
  column = get_or a (at + 4) 0;
} ≡ reason_of (drop at a)
unfolding reason_of
get_is a at = let e : at + 0 ≡ at = omega arith in
    rw (get_or-drop at a 0 0, get_or-drop at a 1 0, get_or-drop at a 2 0, get_or-drop at a 3 0, get_or-drop at a 4 0, e)

-- a list with five words at its front
data Five : List ℕ → Type 0 where
  five : (a b c d e : ℕ) (l : List ℕ) → Five (a ∷ b ∷ c ∷ d ∷ e ∷ l)

has_five : (l : List ℕ) → 5 ≤ length l → Five l
has_five [] h = absurd (omega arith)
has_five (a ∷ []) h = absurd (omega arith)
has_five (a ∷ b ∷ []) h = absurd (omega arith)
has_five (a ∷ b ∷ c ∷ []) h = absurd (omega arith)
has_five (a ∷ b ∷ c ∷ d ∷ []) h = absurd (omega arith)
has_five (a ∷ b ∷ c ∷ d ∷ e ∷ l) h = five a b c d e l

five_more : (i : ℕ) → suc i * 5 ≡ suc (suc (suc (suc (suc (i * 5)))))
five_more i = omega arith

pub length_reasons : (n : ℕ) (a : List ℕ) → length (reasons n a) ≡ n
unfolding reasons
length_reasons zero a = refl
length_reasons (suc n) a = ap suc (length_reasons n (drop 5 a))

pub nth_reason : (n i : ℕ) (a : List ℕ) (d : Reason) → i < n → get_or (reasons n a) i d ≡ reason_of (drop (i * 5) a)
unfolding reasons
nth_reason zero i a d h = absurd (omega arith)
nth_reason (suc n) zero a d h = refl
nth_reason (suc n) (suc i) a d h =
    let e : 5 + i * 5 ≡ suc i * 5 = omega arith in
    nth_reason n i (drop 5 a) d (omega arith) ∙ ap reason_of (drop-drop (i * 5) 5 a ∙ ap (λ (k : ℕ). drop k a) e)

-- the first n reasons stand in the first n * 5 words
front_more : (n : ℕ) (z : List ℕ) {a : List ℕ} → Five a →
    reasons (suc n) (take (suc n * 5) a ++ z) ≡ reason_of a ∷ reasons n (take (n * 5) (drop 5 a) ++ z)
unfolding reasons reason_of
front_more n z (five a b c d e l) = rw (five_more n)

front : (n : ℕ) (a z : List ℕ) → n * 5 ≤ length a → reasons n (take (n * 5) a ++ z) ≡ reasons n a
unfolding reasons
front zero a z h = refl
front (suc n) a z h =
    let k : n * 5 ≤ length (drop 5 a) = simp length-drop (omega arith) in
    front_more n z (has_five a (omega arith)) ∙ ap (λ (t : List Reason). reason_of a ∷ t) (front n (drop 5 a) z k)

-- the words of a reason put in before the first, and behind it
in_first : (n : ℕ) (a : List ℕ) (r : Reason) → n * 5 ≤ length a →
    reasons (suc n) (opened a (zero * 5) (n * 5) (words_of r)) ≡ r ∷ reasons n a
unfolding reasons reason_of opened
in_first n a r h =
    let e : n * 5 - 0 ≡ n * 5 = omega arith in
    rw e (ap (λ (t : List Reason). r ∷ t) (front n a _ h))

in_later : (n k : ℕ) (w : List ℕ) {a : List ℕ} → Five a →
    reasons (suc (n + 1)) (opened a (suc k * 5) (suc n * 5) w)
    ≡ reason_of a ∷ reasons (n + 1) (opened (drop 5 a) (k * 5) (n * 5) w)
unfolding reasons reason_of opened
in_later n k w (five a b c d e l) =
    let p : suc n * 5 - suc k * 5 ≡ n * 5 - k * 5 = omega arith in
    let q : suc n * 5 + length w ≡ suc (suc (suc (suc (suc (n * 5 + length w))))) = omega arith in
    rw (p, q, five_more k)

-- the words of a reason put in at index k
pub put_in : (n k : ℕ) (a : List ℕ) (r : Reason) → k ≤ n → n * 5 + 5 ≤ length a →
    reasons (n + 1) (opened a (k * 5) (n * 5) (words_of r)) ≡ take k (reasons n a) ++ (r ∷ drop k (reasons n a))
unfolding reasons
put_in n zero a r h l = rw (add-one n) (in_first n a r (omega arith))
put_in zero (suc k) a r h l = absurd (omega arith)
put_in (suc n) (suc k) a r h l =
    let m : n * 5 + 5 ≤ length (drop 5 a) = simp length-drop (omega arith) in
    let e : suc n + 1 ≡ suc (n + 1) = omega arith in
    rw e (in_later n k (words_of r) (has_five a (omega arith))
    ∙ ap (λ (t : List Reason). reason_of a ∷ t) (put_in n k (drop 5 a) r (omega arith) m))

-- at index n it stands behind the others
pub at_end : (n : ℕ) (a : List ℕ) (r : Reason) → take n (reasons n a) ++ (r ∷ drop n (reasons n a)) ≡ reasons n a ++ (r ∷ [])
at_end n a r =
    let k : length (reasons n a) ≤ n = rw (length_reasons n a) (omega arith) in
    rw (take_all n (reasons n a) k, drop_of_length-le (reasons n a) k)
