-- Lists of reasons stay clean when a reason that can be read goes in.
use mathlib.Core.Path.{◌≡◌, refl, sym, ap, subst, ◌∙◌}
use mathlib.Core.List.{List, [], ◌∷◌, ◌++◌}
use Prim.Native.Nat.{ℕ, zero, suc, ◌+◌, ◌-◌, ◌*◌, ◌≤◌, ◌<◌}
use native.Mathlib.Omega.{arith}
use lib.ListN.{length, get_or, take, drop, replicate, length-drop}
use lib.Seq.{length-take-le, get_or-append-add, get_or-drop}
use Rattle.areas.specs.Areas.{opened}
use Rattle.reasons.specs.declared.Reason.{Reason}
use Rattle.reasons.specs.Kinds.{Kind, OneText, NoText}
use Rattle.reasons.specs.Lists.{reason_of, reasons, Holds, Clean, Opens}
use Rattle.reasons.specs.Readable.{TextAt, TextIf, NumberIf, Readable, AllReadable}
use Rattle.reasons.proofs.Entries.{length_reasons, nth_reason}

-- ---- the words behind those that move up

pub put_behind : (a : List ℕ) (at end : ℕ) (w : List ℕ) → at ≤ end → end + length w ≤ length a → (i : ℕ) →
    end + length w ≤ i → get_or (opened a at end w) i 0 ≡ get_or a i 0
unfolding opened
put_behind a at end w h l i g =
    let m : end - at ≤ length (drop at a) = omega (arith, length-drop at a) in
    let t = take (end - at) (drop at a) in
    let y = drop (end + length w) a in
    let j = i - (end + length w) in
    let p : i ≡ length (take at a) + (length w + (length t + j)) =
    omega (arith, length-take-le at a (omega arith), length-take-le (end - at) (drop at a) m) in
    let q : end + length w + j ≡ i = omega arith in
    ap (λ (k : ℕ). get_or (take at a ++ (w ++ (t ++ y))) k 0) p
    ∙ get_or-append-add (take at a) (w ++ (t ++ y)) (length w + (length t + j)) 0
    ∙ get_or-append-add w (t ++ y) (length t + j) 0
    ∙ get_or-append-add t y j 0
    ∙ get_or-drop (end + length w) a j 0
    ∙ ap (λ (k : ℕ). get_or a k 0) q

-- ---- zeros

pub zeros : (n i : ℕ) → ◌≡◌ {A = ℕ} (get_or (replicate n 0) i 0) 0
zeros zero zero = refl
zeros zero (suc i) = refl
zeros (suc n) zero = refl
zeros (suc n) (suc i) = zeros n i

-- ---- lists of reasons

module _ (f : List ℕ) where
  all_append : (l m : List Reason) → AllReadable f l → AllReadable f m → AllReadable f (l ++ m)
  all_append [] m h g = g
  all_append (r ∷ l) m h g = (h.0, all_append l m h.1 g)

  all_take : (k : ℕ) (l : List Reason) → AllReadable f l → AllReadable f (take k l)
  all_take zero l h = tt
  all_take (suc k) [] h = tt
  all_take (suc k) (r ∷ l) h = (h.0, all_take k l h.1)

  all_drop : (k : ℕ) (l : List Reason) → AllReadable f l → AllReadable f (drop k l)
  all_drop zero l h = h
  all_drop (suc k) [] h = tt
  all_drop (suc k) (r ∷ l) h = all_drop k l h.1

  all_at : (l : List Reason) (i : ℕ) (d : Reason) → i < length l → AllReadable f l → Readable f (get_or l i d)
  all_at [] i d h g = absurd (omega arith)
  all_at (r ∷ l) zero d h g = g.0
  all_at (r ∷ l) (suc i) d h g = all_at l i d (omega arith) g.1

  pub clean_in : {r : Reason} (n k : ℕ) (a : List ℕ) {a' : List ℕ} → Opens r n k a a' → Readable f r → Clean f n a →
      Clean f (n + 1) a'
  clean_in {r} n k a o h c = record {
    readable = rw o.is
        (all_append (take k (reasons n a)) (r ∷ drop k (reasons n a)) (all_take k (reasons n a) c.readable)
        (h, all_drop k (reasons n a) c.readable));
    rest = λ i g. o.rest i (omega arith) ∙ c.rest i (omega arith);
  }

  -- no reasons in an area of zeros
  pub clean_zeros : {a : List ℕ} → ((i : ℕ) → get_or a i 0 ≡ 0) → Clean f 0 a
  unfolding reasons
  clean_zeros z = record { readable = tt; rest = λ i h. z i }

  pub holds_zeros : {a : List ℕ} → ((i : ℕ) → get_or a i 0 ≡ 0) → Holds f [] 0 a
  unfolding reasons
  holds_zeros z = record { many = refl; texts = refl; clean = λ t. clean_zeros z }

  -- one of the first n
  pub clean_at : {n : ℕ} {a : List ℕ} → Clean f n a → (i : ℕ) → i < n → Readable f (reason_of (drop (i * 5) a))
  clean_at {n} {a} c i h =
      let d = reason_of [] in
      subst (Readable f) (nth_reason n i a d h) (all_at (reasons n a) i d (omega (arith, length_reasons n a)) c.readable)

  -- ---- reasons of one text, and of none

  pub one_text : {k p : ℕ} → OneText k → TextAt f p →
      Readable f (record { kind = k; first = p; second = 4294967295; line = 0; column = 0 })
  one_text {k} {p} o t = record {
    known = o.known;
    first = subst (λ (y : Kind). TextIf y.first f p) (sym o.is) t;
    second = subst (λ (y : Kind). TextIf y.second f 4294967295) (sym o.is) refl;
    line = subst (λ (y : Kind). NumberIf y.source 0) (sym o.is) refl;
    column = subst (λ (y : Kind). NumberIf y.source 0) (sym o.is) refl;
  }

  pub no_text : {k : ℕ} → NoText k →
      Readable f (record { kind = k; first = 4294967295; second = 4294967295; line = 0; column = 0 })
  no_text o = record {
    known = o.known;
    first = subst (λ (y : Kind). TextIf y.first f 4294967295) (sym o.is) refl;
    second = subst (λ (y : Kind). TextIf y.second f 4294967295) (sym o.is) refl;
    line = subst (λ (y : Kind). NumberIf y.source 0) (sym o.is) refl;
    column = subst (λ (y : Kind). NumberIf y.source 0) (sym o.is) refl;
  }
