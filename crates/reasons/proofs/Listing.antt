-- Laws of lists of texts, and of the lists of renderings.
use Rattle.std.specs.Prelude.{if◌then◌else◌}
use mathlib.Core.Path.{◌≡◌, refl, sym, ap, ◌∙◌}
use mathlib.Core.Bool.{Bool, true, false}
use mathlib.Core.List.{List, [], ◌∷◌, ◌++◌, map, map-append}
use Prim.Native.Nat.{ℕ, zero, suc, ◌+◌, ◌*◌, ◌≤◌, ◌<◌}
use native.Mathlib.Numerals.{add-one}
use native.Mathlib.Omega.{arith}
use lib.ListN.{length, get_or, take, drop, length-append, length-map, drop_of_length-le, take-append-drop, get_or-map}
use lib.Seq.{drop-cons, take-suc, append_snoc}
use Rattle.texts.specs.Lists.{any}
use Rattle.texts.specs.Texts.{Text, eq_t, lt_t, mem_t, insert_t}
use Rattle.reasons.specs.Reasons.{render}
use Rattle.reasons.specs.Lists.{reason_of, reasons, listed, push_t, insert_all, Reported, Holds, Grows}
use Rattle.reasons.specs.Readable.{HasText}
use Rattle.reasons.specs.declared.Reason.{Reason}
use Rattle.reasons.proofs.Entries.{length_reasons, nth_reason}

map_take : {A B : Type 0} (f : A → B) (k : ℕ) (l : List A) → map f (take k l) ≡ take k (map f l)
map_take f zero l = refl
map_take f (suc k) [] = refl
map_take f (suc k) (x ∷ l) = ap (λ r. f x ∷ r) (map_take f k l)

map_drop : {A B : Type 0} (f : A → B) (k : ℕ) (l : List A) → map f (drop k l) ≡ drop k (map f l)
map_drop f zero l = refl
map_drop f (suc k) [] = refl
map_drop f (suc k) (x ∷ l) = map_drop f k l

-- ---- one turn and the end of a walk over texts: x stands at index i of l

module _ (t : Text) (l : List Text) (i : ℕ) (x : Text) (e : drop i l ≡ x ∷ drop (i + 1) l) where
  pub mem_hit : mem_t t l ≡ mem_t t (drop i l) → true ≡ eq_t t x → true ≡ mem_t t l
  unfolding mem_t any
  mem_hit v q = sym (v ∙ ap (mem_t t) e ∙ rw (← q))

  pub mem_on : mem_t t l ≡ mem_t t (drop i l) → false ≡ eq_t t x → mem_t t l ≡ mem_t t (drop (i + 1) l)
  unfolding mem_t any
  mem_on v q = v ∙ ap (mem_t t) e ∙ rw (← q)

  module _ (v : insert_t t l ≡ take i l ++ insert_t t (drop i l)) where
    pub there : eq_t t x ≡ true → insert_t t l ≡ l
    unfolding insert_t
    there q = v ∙ ap (λ (m : List Text). take i l ++ m) (ap (insert_t t) e ∙ rw q (sym e)) ∙ take-append-drop i l

    pub before : eq_t t x ≡ false → lt_t t x ≡ true → insert_t t l ≡ take i l ++ (t ∷ drop i l)
    unfolding insert_t
    before q p = v ∙ ap (λ (m : List Text). take i l ++ m)
        (ap (insert_t t) e ∙ rw (q, p) (ap (λ (m : List Text). t ∷ m) (sym e)))

    pub behind : i < length l → eq_t t x ≡ false → lt_t t x ≡ false →
        insert_t t l ≡ take (i + 1) l ++ insert_t t (drop (i + 1) l)
    unfolding insert_t
    behind h q p =
        let d : get_or l i x ≡ x = let s = drop-cons l i x h in cc in
        let k : take (i + 1) l ≡ take i l ++ (x ∷ []) =
        rw (add-one i) (take-suc l i x h ∙ ap (λ (y : Text). take i l ++ (y ∷ [])) d) in
        v
        ∙ ap (λ (m : List Text). take i l ++ m) (ap (insert_t t) e ∙ rw (q, p))
        ∙ sym (ap (λ (m : List Text). m ++ insert_t t (drop (i + 1) l)) k
        ∙ append_snoc (take i l) x (insert_t t (drop (i + 1) l)))

  pub all_on : (m : List Text) → insert_all (drop i l) m ≡ insert_all (drop (i + 1) l) (insert_t x m)
  unfolding insert_all
  all_on m = ap (λ (k : List Text). insert_all k m) e

module _ (t : Text) (l : List Text) (i : ℕ) (h : length l ≤ i) where
  pub mem_end : mem_t t (drop i l) ≡ false
  unfolding mem_t any
  mem_end = rw (drop_of_length-le l h)

  pub at_end : insert_t t l ≡ take i l ++ insert_t t (drop i l) → insert_t t l ≡ take i l ++ (t ∷ drop i l)
  unfolding insert_t
  at_end v =
      let e : drop i l ≡ [] = drop_of_length-le l h in
      v ∙ ap (λ (m : List Text). take i l ++ m) (ap (insert_t t) e ∙ ap (λ (m : List Text). t ∷ m) (sym e))

pub all_end : (l m : List Text) (i : ℕ) → length l ≤ i → insert_all (drop i l) m ≡ m
unfolding insert_all
all_end l m i h = rw (drop_of_length-le l h)

-- ---- lengths

pub length_between : (t : Text) (l : List Text) (k : ℕ) → length (take k l ++ (t ∷ drop k l)) ≡ length l + 1
length_between t l zero = omega arith
length_between t [] (suc k) = refl
length_between t (x ∷ l) (suc k) = omega (arith, length_between t l k)

pub length_insert : (t : Text) (l : List Text) → length l ≤ length (insert_t t l)
unfolding insert_t
length_insert t [] = omega arith
length_insert t (x ∷ l) = go (eq_t t x) (lt_t t x) (length_insert t l)
  where
    go : (e p : Bool) → length l ≤ length (insert_t t l) →
        length (x ∷ l) ≤ length (if e then x ∷ l else if p then t ∷ x ∷ l else x ∷ insert_t t l)
    go true p h = omega arith
    go false true h = omega arith
    go false false h = omega arith

-- one more at most, for callers that count
pub one_more : (t : Text) (l : List Text) → length (insert_t t l) ≤ length l + 1
unfolding insert_t
one_more t [] = omega arith
one_more t (x ∷ l) = go (eq_t t x) (lt_t t x) (one_more t l)
  where
    go : (e p : Bool) → length (insert_t t l) ≤ length l + 1 →
        length (if e then x ∷ l else if p then t ∷ x ∷ l else x ∷ insert_t t l) ≤ length (x ∷ l) + 1
    go true p h = omega arith
    go false true h = omega arith
    go false false h = omega arith

pub length_all : (ts l : List Text) → length l ≤ length (insert_all ts l)
unfolding insert_all
length_all [] l = omega arith
length_all (t ∷ ts) l = omega (arith, length_insert t l, length_all ts (insert_t t l))

pub push_there : (t : Text) (l : List Text) → true ≡ mem_t t l → push_t t l ≡ l
unfolding push_t
push_there t l e = rw (← e)

pub push_new : (t : Text) (l : List Text) → false ≡ mem_t t l → push_t t l ≡ l ++ (t ∷ [])
unfolding push_t
push_new t l e = rw (← e)

pub length_push : (t : Text) (l : List Text) → length l ≤ length (push_t t l)
unfolding push_t
length_push t l = go (mem_t t l)
  where
    go : (b : Bool) → length l ≤ length (if b then l else l ++ (t ∷ []))
    go true = omega arith
    go false = simp length-append (omega arith)

pub room_push : (t : Text) (l : List Text) → false ≡ mem_t t l → length (push_t t l) ≡ length l + 1
room_push t l e = ap length (push_new t l e) ∙ length-append l (t ∷ [])

pub room_insert : (t : Text) (l : List Text) (k : ℕ) → insert_t t l ≡ take k l ++ (t ∷ drop k l) →
    length (insert_t t l) ≡ length l + 1
room_insert t l k e = ap length e ∙ length_between t l k

pub room_all : (w m ts : List Text) (x : Text) (i : ℕ) → drop i ts ≡ x ∷ drop (i + 1) ts → w ≡ insert_all (drop i ts) m →
    length (insert_t x m) ≤ length w
room_all w m ts x i e q = omega (arith, ap length (q ∙ all_on x ts i x e m), length_all (drop (i + 1) ts) (insert_t x m))

-- ---- renderings

module _ (f : List ℕ) (n : ℕ) (a : List ℕ) where
  pub length_listed : length (listed f n a) ≡ n
  length_listed = length-map (reasons n a) (render f) ∙ length_reasons n a

  pub next : (i : ℕ) → i < n → drop i (listed f n a) ≡ render f (reason_of (drop (i * 5) a)) ∷ drop (i + 1) (listed f n a)
  next i h =
      let d = reason_of [] in
      let l : i < length (listed f n a) = rw length_listed h in
      rw (add-one i)
      (drop-cons (listed f n a) i (render f d) l
      ∙ ap (λ (t : Text). t ∷ drop (suc i) (listed f n a))
      (get_or-map (render f) (reasons n a) i d ∙ ap (render f) (nth_reason n i a d h)))

  pub count_is : {l : List Text} → listed f n a ≡ l → n ≡ length l
  count_is e = sym length_listed ∙ ap length e

module _ (f : List ℕ) (n : ℕ) (a b : List ℕ) (r : Reason) where
  pub pushed : reasons (n + 1) b ≡ reasons n a ++ (r ∷ []) → listed f (n + 1) b ≡ listed f n a ++ (render f r ∷ [])
  pushed e = ap (map (render f)) e ∙ map-append (render f) (reasons n a) (r ∷ [])

  pub inserted : (k : ℕ) → reasons (n + 1) b ≡ take k (reasons n a) ++ (r ∷ drop k (reasons n a)) →
      listed f (n + 1) b ≡ take k (listed f n a) ++ (render f r ∷ drop k (listed f n a))
  inserted k e =
      ap (map (render f)) e
      ∙ map-append (render f) (take k (reasons n a)) (r ∷ drop k (reasons n a))
      ∙ rw (map_take (render f) k (reasons n a), map_drop (render f) k (reasons n a))

-- ---- what grows

module _ (f : List ℕ) {R : Type 0} {n : ℕ} {a : List ℕ} where
  -- nothing goes in
  pub grows_none : {l : List Text} → listed f n a ≡ l → Grows f R l n a n a
  grows_none e = record { many = count_is f n a e; texts = e; clean = λ r c. c }

  -- what grows by F holds F of what it held
  pub grown : {m : ℕ} {b : List ℕ} (F : List Text → List Text) {l : List Text} → Grows f R (F (listed f n a)) n a m b →
      (HasText f → R) → Holds f l n a → Holds f (F l) m b
  grown F g r h = record {
    many = g.many ∙ ap (λ (y : List Text). length (F y)) h.texts;
    texts = g.texts ∙ ap F h.texts;
    clean = λ t. g.clean (r t) (h.clean t);
  }

pub reported : {f a : List ℕ} {l : List Text} {n : ℕ} → HasText f → Holds f l n a → Reported f l n a
reported t h = record { many = h.many; texts = h.texts; clean = h.clean t }
