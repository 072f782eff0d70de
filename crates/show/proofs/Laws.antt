-- Texts written one behind the other.
use Rattle.std.specs.Prelude.{if◌then◌else◌}
use mathlib.Core.Path.{◌≡◌, refl, sym, ap, ◌∙◌}
use mathlib.Core.Bool.{Bool, true, false, ◌||◌}
use mathlib.Core.Logic.{⊎_elim}
use mathlib.Core.List.{List, [], ◌∷◌, ◌++◌, append_assoc, append-nil}
use Prim.Native.Nat.{ℕ, ◌+◌, ◌-◌, ◌*◌, ◌≤◌, ◌<◌}
use native.Mathlib.Numerals.{add-one}
use native.Mathlib.Omega.{arith}
use borrow.Author.Tests.{eq-eqb, ne_eqb}
use lib.Dec.{eqb}
use lib.ListN.{length, get_or, take, drop, set, length-append, length-set, take-append-drop}
use lib.Seq.{length-take-le, take_all, take_at, drop_at, drop-drop, take-take, take-suc, set_split}
use Rattle.texts.specs.Lists.{flat}
use Rattle.texts.specs.Texts.{Text, text, decimal}
use Rattle.texts.specs.Places.{text_at}
use Rattle.texts.proofs.Ordering.{lt_or_ge}
use Rattle.texts.proofs.Laws as texts
use Rattle.reasons.specs.Reasons.{placed}
use Rattle.reasons.proofs.Digits as digits
use Rattle.std.specs.Prelude.{Option, Some, None}
use Rattle.show.specs.Writing.{Written, Kept}
use Rattle.show.specs.Lines.{
  newline,
  escape,
  quoted,
  dash,
  number_line,
  source,
  accepted_line,
  refused_line,
  model_line,
}

-- ---- one text

pub nothing : (a : List ℕ) (n : ℕ) → Written [] a n a n
nothing a n =
    record {
      same = refl;
      room = λ h. (omega arith, let e : n + 0 ≡ n = omega arith in rw e (sym (take-append-drop n a)));
      full = λ h. (omega arith, refl);
    }

pub too_long : (t : Text) (a : List ℕ) (n m : ℕ) → length a < n + length t → length a < m → Written t a n a m
too_long t a n m h k = record { same = refl; room = λ r. absurd (omega arith); full = λ _. (k, refl) }

pub one : (a : List ℕ) (n b : ℕ) → n < length a → Written (b ∷ []) a n (set a n b) (n + 1)
one a n b h =
    record {
      same = length-set a n b;
      room = λ r. (refl, rw (add-one n) (set_split a n b h));
      full = λ r. absurd (omega arith);
    }

-- ---- one text behind another

module _ {t u : Text} {a b c : List ℕ} {n m k : ℕ} (w : Written t a n b m) (v : Written u b m c k) where
  both_room : n + length (t ++ u) ≤ length a → (k ≡ n + length (t ++ u))
      × (c ≡ take n a ++ ((t ++ u) ++ drop (n + length (t ++ u)) a))
  both_room h =
      let l = length-append t u in
      let x = w.room (omega arith) in
      let y = v.room (omega (arith, w.same)) in
      let p : List ℕ = take n a ++ t in
      let r : List ℕ = drop (n + length t) a in
      let e : b ≡ p ++ r = x.1 ∙ sym (append_assoc (take n a) t r) in
      let lp : length p ≡ m = length-append (take n a) t ∙ omega (arith, length-take-le n a (omega arith), x.0) in
      let d : drop (m + length u) b ≡ drop (n + length t + length u) a =
      sym (drop-drop (length u) m b) ∙ ap (drop (length u)) (ap (drop m) e ∙ drop_at p r m lp)
      ∙ drop-drop (length u) (n + length t) a in
      let f : take m b ≡ p = ap (take m) e ∙ take_at p r m lp in
      let g : n + length t + length u ≡ n + length (t ++ u) = omega arith in (
        omega (arith, x.0, y.0),
        y.1 ∙ rw (f, d, g) (append_assoc (take n a) t (u ++ drop (n + length (t ++ u)) a)
            ∙ rw (append_assoc t u (drop (n + length (t ++ u)) a)) refl),
      )

  both_full : length a < n + length (t ++ u) → (length a < k) × (take n c ≡ take n a)
  both_full h =
      let l = length-append t u in
      ⊎_elim
      (λ q.
      let x = w.full q in
      let y = v.full (omega (arith, w.same, x.0)) in
      let e : c ≡ b = sym (take_all m c (omega (arith, w.same, v.same, x.0))) ∙ y.1
      ∙ take_all m b (omega (arith, w.same, x.0)) in
      (omega (arith, w.same, y.0), ap (take n) e ∙ x.1))
      (λ q.
      let x = w.room q in
      let y = v.full (omega (arith, w.same, x.0)) in
      let i : n ≤ m = omega (arith, x.0) in (
        omega (arith, w.same, y.0),
        sym (take-take n m c i) ∙ ap (take n) y.1 ∙ take-take n m b i ∙ ap (take n) x.1
            ∙ take_at (take n a) _ n (length-take-le n a (omega arith)),
      ))
      (lt_or_ge (length a) (n + length t))

  pub both : Written (t ++ u) a n c k
  both = record { same = v.same ∙ w.same; room = both_room; full = both_full }

-- the same text
pub is : {t u : Text} {a b : List ℕ} {n m : ℕ} → t ≡ u → Written t a n b m → Written u a n b m
is {t} {u} {a} {b} {n} {m} e w = rw e at w

-- a text in the room r that was made for it is not lost
pub kept : {t : Text} {a b : List ℕ} {r m : ℕ} (n : ℕ) → Written t a r b m → length t ≤ 4096 →
    (4096 ≤ length a → r + 4096 ≤ length a) → Kept a n b m
kept n w short room many h = let k = room many in omega (arith, (w.room (omega arith)).0, w.same)

-- ---- a text byte by byte

module _ (t : Text) (i b : ℕ) (e : b ≡ get_or t i 0) (h : i < length t) where
  pub next : take i t ++ (b ∷ []) ≡ take (i + 1) t
  next = rw (e, add-one i) (sym (take-suc t i 0 h))

flat_append : (s t : Text) → flat escape (s ++ t) ≡ flat escape s ++ flat escape t
unfolding flat
flat_append [] t = refl
flat_append (x ∷ s) t = rw (flat_append s t) (sym (append_assoc (escape x) (flat escape s) (flat escape t)))

flat_one : (b : ℕ) → flat escape (b ∷ []) ≡ escape b
unfolding flat
flat_one b = append-nil (escape b)

module _ (t : Text) (i b : ℕ) (e : b ≡ get_or t i 0) (h : i < length t) where
  pub next_escaped : flat escape (take i t) ++ escape b ≡ flat escape (take (i + 1) t)
  next_escaped = sym (ap (flat escape) (sym (next t i b e h)) ∙ flat_append (take i t) (b ∷ [])
      ∙ ap (λ (l : Text). flat escape (take i t) ++ l) (flat_one b))

pub whole : (t : Text) (i : ℕ) → i ≤ length t → length t ≤ i → take i t ≡ t
whole t i h k = take_all i t k

pub no_bytes : [] ≡ flat escape []
unfolding flat
no_bytes = refl

pub quoted_is : (t : Text) (i : ℕ) → length t ≤ i → 34 ∷ (flat escape (take i t) ++ (34 ∷ [])) ≡ quoted t
unfolding quoted
quoted_is t i h = rw (take_all i t h)

pub quoted_none : quoted [] ≡ 34 ∷ 34 ∷ []
unfolding quoted flat
quoted_none = refl

-- ---- a byte of a quoted text

pub quote : (b : ℕ) → b ≡ 34 → 92 ∷ b ∷ [] ≡ escape b
unfolding escape
quote b e = rw (eq-eqb b 34 e)

pub backslash : (b : ℕ) → (b ≡ 34 → ⊥) → b ≡ 92 → 92 ∷ b ∷ [] ≡ escape b
unfolding escape
backslash b d e = rw (ne_eqb b 34 d, eq-eqb b 92 e)

pub other : (b : ℕ) → (b ≡ 34 → ⊥) → (b ≡ 92 → ⊥) → b ∷ [] ≡ escape b
unfolding escape
other b d e = rw (ne_eqb b 34 d, ne_eqb b 92 e)

-- ---- a text of the file

pub part : (f : List ℕ) (at n from end : ℕ) → n ≡ length (text_at f at) → from ≡ at + 1 → end ≡ from + n →
    take (end - from) (drop from f) ≡ text_at f at
unfolding text_at
part f at n from end e g h =
    let z : end - from ≡ n = omega arith in
    rw (z, g) (cut (get_or f at 0) (drop (at + 1) f) n e)
  where
    cut : (k : ℕ) (l : List ℕ) (n : ℕ) → n ≡ length (take k l) → take n l ≡ take k l
    cut k l n e = ⊎_elim (λ h. rw (e, length-take-le k l (omega arith)))
        (λ h. let q : take k l ≡ l = take_all k l h in let z : n ≡ length l = e ∙ ap length q in
        rw q (take_all n l (omega arith))) (lt_or_ge k (length l))

pub no_text : (f : List ℕ) (at : ℕ) → length f ≤ at → [] ≡ text_at f at
no_text f at h = sym (texts.absent f at h)

pub no_text_quoted : (f : List ℕ) (at : ℕ) → length f ≤ at → 34 ∷ 34 ∷ [] ≡ quoted (text_at f at)
no_text_quoted f at h = rw (texts.absent f at h) (sym quoted_none)

-- ---- sources and lines

pub number_is : (w : Text) (n : ℕ) → w ++ (32 ∷ (decimal n ++ newline)) ≡ number_line w n
unfolding number_line
number_is w n = refl

pub source_at : (s : Option (ℕ × ℕ)) (line column : ℕ) → s ≡ Some (line, column) → decimal line ++ (58 ∷ decimal column) ≡ source s
unfolding source placed
source_at s line column e = rw e

pub source_absent : (s : Option (ℕ × ℕ)) → s ≡ None → dash ≡ source s
unfolding source
source_absent s e = rw e

pub accepted_is : text "accepted" ++ newline ≡ accepted_line
unfolding accepted_line
accepted_is = refl

pub refused_is : (n : ℕ) → text "refused " ++ (decimal n ++ newline) ≡ refused_line n
unfolding refused_line
refused_is n = refl

pub model_is : (k : ℕ) → text "model " ++ (decimal k ++ newline) ≡ model_line k
unfolding model_line
model_is k = refl

-- ---- how long the parts of a line can be

length_escape : (b : ℕ) → length (escape b) ≤ 2
unfolding escape
length_escape b = go (eqb b 34 || eqb b 92)
  where
    go : (t : Bool) → length (if t then 92 ∷ b ∷ [] else b ∷ []) ≤ 2
    go true = omega arith
    go false = omega arith

length_escaped : (t : Text) → length (flat escape t) ≤ 2 * length t
unfolding flat
length_escaped [] = omega arith
length_escaped (x ∷ t) = omega (arith, length-append (escape x) (flat escape t), length_escape x, length_escaped t)

-- a quoted text: 512 bytes for a text of the file
pub length_quoted : (t : Text) → length (quoted t) ≤ 2 * length t + 2
unfolding quoted
length_quoted t = omega (arith, length-append (flat escape t) (34 ∷ []), length_escaped t)

-- LINE:COLUMN
pub length_source : (s : Option (ℕ × ℕ)) → length (source s) ≤ 41
unfolding source placed
length_source (Some (line, column)) = omega (
  arith,
  length-append (decimal line) (58 ∷ decimal column),
  digits.at_most line,
  digits.at_most column,
)
length_source None = omega arith

-- a refusal
pub length_refused : (n : ℕ) → length (refused_line n) ≤ 29
unfolding refused_line
length_refused n = omega (
  arith,
  length-append (text "refused ") (decimal n ++ newline),
  length-append (decimal n) newline,
  digits.at_most n,
)
