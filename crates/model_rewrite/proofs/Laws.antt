-- What stands in an output after writes to its front, and the laws of the walk to the events.
use Rattle.std.specs.Prelude.{Some, None}
use mathlib.Core.Path.{◌≡◌, refl, sym, ap, ◌∙◌, subst}
use mathlib.Core.List.{List, [], ◌∷◌, ◌++◌, append_assoc, append-nil}
use Prim.Native.Nat.{ℕ, zero, suc, ◌+◌, ◌-◌, ◌*◌, ◌≤◌, ◌<◌, ◌%◌, ◌/◌}
use native.Mathlib.Numerals.{add-one}
use native.Mathlib.Omega.{arith}
use lib.ListN.{length, get_or, take, drop, set, length-append, length-drop, drop_of_length-le}
use lib.Seq.{drop-cons, set_at, take-suc, append_snoc, length-take-le, take-length, drop-drop, take_all, take_at, drop_at}
use lib.Dec.{eqb}
use borrow.Author.Tests.{ne_eqb}
use borrow.Rule.Slice.PartMut.{put_mid}
use Rattle.model_spec.specs.Rewrite.{bytes2, bytes4}
use Rattle.model_walk.specs.Walk.{Walked, place_m}
use Rattle.model_parts.specs.declared.Section.{Section}
use Rattle.model_parts.specs.declared.Part.TheVariants as part
use Rattle.model_parts.specs.Parts.{part_m, section_m}
use Rattle.model_rewrite.specs.declared.Span.{Span}
use Rattle.model_rewrite.specs.Span.{nowhere, behind, body_m, span_m}
use Rattle.model_rewrite.specs.Written.{
  event_start,
  two_places,
  event_of,
  event_at,
  first_events,
  section_bytes,
  file_with,
  Wrote,
}

-- ---- copies to the front of a list

pub copied : (o s : List ℕ) (i : ℕ) → i < length s → i < length o →
    set (take i s ++ drop i o) i (get_or s i 0) ≡ take (i + 1) s ++ drop (i + 1) o
copied o s i hs ho =
    let l : length (take i s) ≡ i = length-take-le i s (omega arith) in
    rw (drop-cons o i 0 ho, set_at (take i s) (get_or o i 0) (drop (suc i) o) (get_or s i 0) i l, add-one i, take-suc s i 0 hs)
    (sym (append_snoc (take i s) (get_or s i 0) (drop (suc i) o)))

pub all : (o s : List ℕ) (i : ℕ) → length s ≤ i → i ≤ length s → take i s ++ drop i o ≡ s ++ drop (length s) o
all o s i h k =
    let e : i ≡ length s = omega arith in
    rw (e, take-length)

-- bytes written in the part from a on, of an output that holds p so far: it then holds p and those
pub wrote : (o p b x y : List ℕ) (a k : ℕ) → x ≡ p ++ drop (length p) o → length p ≡ a → length p + length b ≤ length o →
    k ≡ length x - a →
    y ≡ b ++ drop (length b) (take k (drop a x)) → put_mid a k x y ≡ (p ++ b) ++ drop (length (p ++ b)) o
wrote o p b x y a k ex ep h ek ey =
    let d : drop a x ≡ drop (length p) o = ap (drop a) ex ∙ drop_at p (drop (length p) o) a ep in
    let t : take a x ≡ p = ap (take a) ex ∙ take_at p (drop (length p) o) a ep in
    let lx : length (drop a x) ≡ k = length-drop a x ∙ sym ek in
    let ly : take k (drop a x) ≡ drop a x = take_all k (drop a x) (omega arith) in
    let z : drop k (drop a x) ≡ [] = drop_of_length-le (drop a x) {i = k} (omega arith) in
    rw (z, ey, ly, t, d, append-nil, drop-drop, length-append) (sym (append_assoc p b (drop (length p + length b) o)))

pub joined : (o p b x y : List ℕ) (a m r : ℕ) → x ≡ p ++ drop (length p) o → length p ≡ a → length p + length b ≤ length o →
    m ≡ length x - a →
    Wrote b r (take m (drop a x)) y → Wrote (p ++ b) (a + r) o (put_mid a m x y)
joined o p b x y a m r ex ep h em w = record {
  is_size = omega (arith, length-append p b, w.is_size);
  is_out = wrote o p b x y a m ex ep h em w.is_out;
}

pub wrote_length : {b : List ℕ} {r : ℕ} {o x : List ℕ} → Wrote b r o x → length b ≤ length o → length x ≡ length o
wrote_length {b} {r} {o} w h = ap length w.is_out ∙ length-append b (drop (length b) o)
    ∙ omega (arith, length-drop (length b) o)

-- ---- single bytes

pub two : (o : List ℕ) (n : ℕ) → 2 ≤ length o → set (set o 0 (n % 256)) 1 (n / 256) ≡ bytes2 n ++ drop 2 o
unfolding bytes2
two [] n h = absurd (omega arith)
two (x ∷ []) n h = absurd (omega arith)
two (x ∷ y ∷ o) n h = refl

pub four : (o : List ℕ) (e v : ℕ) → 4 ≤ length o →
    set (set (set (set o 0 (e % 256)) 1 (e / 256)) 2 (v % 256)) 3 (v / 256) ≡ two_places e v ++ drop 4 o
unfolding bytes2 two_places
four [] e v h = absurd (omega arith)
four (_ ∷ []) e v h = absurd (omega arith)
four (_ ∷ _ ∷ []) e v h = absurd (omega arith)
four (_ ∷ _ ∷ _ ∷ []) e v h = absurd (omega arith)
four (a ∷ b ∷ c ∷ d ∷ o) e v h = refl

pub five : (o : List ℕ) (s k : ℕ) → 5 ≤ length o →
    set (set (set (set (set o 0 (s % 65536 % 256)) 1 (s % 65536 / 256)) 2 (s / 65536 % 256)) 3 (s / 65536 / 256)) 4 k
    ≡ event_start s k ++ drop 5 o
unfolding bytes2 bytes4 event_start
five [] s k h = absurd (omega arith)
five (_ ∷ []) s k h = absurd (omega arith)
five (_ ∷ _ ∷ []) s k h = absurd (omega arith)
five (_ ∷ _ ∷ _ ∷ []) s k h = absurd (omega arith)
five (_ ∷ _ ∷ _ ∷ _ ∷ []) s k h = absurd (omega arith)
five (a ∷ b ∷ c ∷ d ∷ e ∷ o) s k h = refl

-- ---- sizes

pub start_size : (s k : ℕ) → length (event_start s k) ≡ 5
unfolding bytes2 bytes4 event_start
start_size s k = refl

pub places_size : (e v : ℕ) → length (two_places e v) ≡ 4
unfolding bytes2 two_places
places_size e v = refl

pub count_size : (n : ℕ) → length (bytes2 n) ≡ 2
unfolding bytes2
count_size n = refl

-- ---- events

module _ (l : List ℕ) (k : ℕ) where
  abbrev s : ℕ
  s = get_or l (k * 4) 0

  abbrev kind : ℕ
  kind = get_or l (k * 4 + 1) 0

  abbrev e : ℕ
  e = get_or l (k * 4 + 2) 0

  abbrev v : ℕ
  v = get_or l (k * 4 + 3) 0

  pub is_plain : (kind ≡ 0 → ⊥) → event_at l k ≡ event_start s kind
  unfolding event_at event_of
  is_plain h = rw (ne_eqb kind 0 h) (append-nil _)

  pub is_set : kind ≡ 0 → event_at l k ≡ event_start s kind ++ two_places e v
  unfolding event_at event_of
  is_set h = rw (ap (λ (x : ℕ). eqb x 0) h)

  pub at_least : 5 ≤ length (event_at l k)
  unfolding event_at event_of
  at_least = simp (length-append, start_size) (omega arith)

  pub set_size : kind ≡ 0 → length (event_at l k) ≡ 9
  set_size h = ap length (is_set h) ∙ length-append (event_start s kind) (two_places e v)
      ∙ omega (arith, start_size s kind, places_size e v)

  module _ (o x : List ℕ) (w : x ≡ event_start s kind ++ drop 5 o) where
    pub plain_wrote : (kind ≡ 0 → ⊥) → Wrote (event_at l k) 5 o x
    plain_wrote h = record {
      is_size = sym (ap length (is_plain h) ∙ start_size s kind);
      is_out = w ∙ rw (is_plain h, start_size s kind);
    }

    pub set_wrote : kind ≡ 0 → length (event_at l k) ≤ length o → (y : List ℕ) (m : ℕ) → m ≡ length x - 5 →
        y ≡ two_places e v ++ drop 4 (take m (drop 5 x)) → Wrote (event_at l k) 9 o (put_mid 5 m x y)
    set_wrote h r y m em ey = record {
      is_size = sym (set_size h);
      is_out =
          wrote o (event_start s kind) (two_places e v) x y 5 m
          (w ∙ ap (λ (n : ℕ). event_start s kind ++ drop n o) (sym (start_size s kind)))
          (start_size s kind)
          (omega (arith, set_size h, start_size s kind, places_size e v))
          em
          (ey ∙ ap (λ (n : ℕ). two_places e v ++ drop n (take m (drop 5 x))) (sym (places_size e v)))
          ∙ ap (λ (b : List ℕ). b ++ drop (length b) o) (sym (is_set h));
    }

-- one event more
pub next_event : (l : List ℕ) (k : ℕ) → first_events l (k + 1) ≡ first_events l k ++ event_at l k
unfolding first_events
next_event l k = rw add-one

-- the first k events are no longer than the first n
pub no_longer : (l : List ℕ) (n k : ℕ) → k ≤ n → length (first_events l k) ≤ length (first_events l n)
unfolding first_events
no_longer l zero k h = let z : k ≡ 0 = omega arith in rw z (omega arith)
no_longer l (suc n) k h = elim (native.Mathlib.Decide.dec_lt k (suc n)) [
  | yes i ↦ omega (arith, no_longer l n k (omega arith), length-append (first_events l n) (event_at l n))
  | no i ↦ let z : k ≡ suc n = omega arith in rw z (omega arith)
]

pub none_yet : (l o : List ℕ) → Wrote (first_events l 0) 0 o o
unfolding first_events
none_yet l o = record { is_size = refl; is_out = refl }

pub event_more : (l : List ℕ) (k : ℕ) {at r m : ℕ} {o x y : List ℕ} → Wrote (first_events l k) at o x → m ≡ length x - at →
    length (first_events l k) + length (event_at l k) ≤ length o → Wrote (event_at l k) r (take m (drop at x)) y →
    Wrote (first_events l (k + 1)) (at + r) o (put_mid at m x y)
event_more l k {at} {r} {m} {o} {x} {y} w em h v =
    rw next_event (joined o (first_events l k) (event_at l k) x y at m r w.is_out (sym w.is_size) h em v)

pub section_is : (l : List ℕ) (n : ℕ) → section_bytes l n ≡ bytes2 n ++ first_events l n
unfolding section_bytes
section_is l n = refl

pub section_size : (l : List ℕ) (n : ℕ) → length (section_bytes l n) ≡ 2 + length (first_events l n)
unfolding section_bytes
section_size l n = length-append (bytes2 n) (first_events l n) ∙ omega (arith, count_size n)

pub next_size : (l : List ℕ) (n k : ℕ) → k < n → length (first_events l k) + length (event_at l k) ≤ length
    (first_events l n)
next_size l n k h = omega (
  arith,
  no_longer l n (k + 1) (omega arith),
  ap length (next_event l k),
  length-append (first_events l k) (event_at l k),
)

-- the count, and behind it the events
pub section_wrote : (l : List ℕ) (n : ℕ) {o x y : List ℕ} {r m : ℕ} → length (section_bytes l n) ≤ length o →
    x ≡ bytes2 n ++ drop 2 o →
    m ≡ length x - 2 → Wrote (first_events l n) r (take m (drop 2 x)) y →
    Wrote (section_bytes l n) (2 + r) o (put_mid 2 m x y)
section_wrote l n {o} {x} {y} {r} {m} h ex em w =
    rw section_is
    (joined o (bytes2 n) (first_events l n) x y 2 m r
    (ex ∙ ap (λ (i : ℕ). bytes2 n ++ drop i o) (sym (count_size n)))
    (count_size n)
    (omega (arith, section_size l n, count_size n))
    em
    w)

-- ---- the file

pub file_is : (f : List ℕ) (x : Span) (l : List ℕ) (n : ℕ) → x.end ≤ length f →
    (take (x.start - 0) f ++ section_bytes l n) ++ take (length f - x.end) (drop x.end f) ≡ file_with f x l n
unfolding file_with
file_is f x l n h =
    let e : x.start - 0 ≡ x.start = omega arith in
    let t : take (length f - x.end) (drop x.end f) ≡ drop x.end f =
    take_all (length f - x.end) (drop x.end f) (simp length-drop (omega arith)) in
    rw (e, t)

file_size : (f : List ℕ) (x : Span) (l : List ℕ) (n : ℕ) → x.start ≤ length f →
    length (file_with f x l n) ≡ x.start + length (section_bytes l n) + (length f - x.end)
unfolding file_with
file_size f x l n h = simp (length-append, length-drop) (omega (arith, length-take-le x.start f h))

module _ (f : List ℕ) (s : Span) (l : List ℕ) (n : ℕ) (hs : s.start ≤ length f) (he : s.end ≤ length f) where
  abbrev first : List ℕ
  first = take (s.start - 0) f

  abbrev later : List ℕ
  later = take (length f - s.end) (drop s.end f)

  first_size : length first ≡ s.start
  first_size = length-take-le (s.start - 0) f (omega arith) ∙ omega arith

  later_size : length later ≡ length f - s.end
  later_size = length-take-le (length f - s.end) (drop s.end f) (omega (arith, length-drop s.end f))

  pub record Sizes : Type 0 where
    pub whole : length (file_with f s l n) ≡ s.start + length (section_bytes l n) + (length f - s.end)
    pub of_first : length first ≡ s.start
    pub of_later : length later ≡ length f - s.end

  pub sizes : Sizes
  sizes = record { whole = file_size f s l n hs; of_first = first_size; of_later = later_size }

  -- the first sections, the new one, and the later ones
  pub file_wrote : {o x y z : List ℕ} {r m k : ℕ} → length (file_with f s l n) ≤ length o →
      x ≡ first ++ drop (length first) o →
      m ≡ length x - s.start → Wrote (section_bytes l n) r (take m (drop s.start x)) y →
      k ≡ length (put_mid s.start m x y) - (s.start + r) →
      z ≡ later ++ drop (length later) (take k (drop (s.start + r) (put_mid s.start m x y))) →
      Wrote (file_with f s l n) (s.start + r + (length f - s.end)) o (put_mid (s.start + r) k (put_mid s.start m x y) z)
  file_wrote {o} {x} {y} {z} {r} {m} {k} h ex em w ek ez =
      let room = file_size f s l n hs in
      let a = joined o first (section_bytes l n) x y s.start m r ex first_size (omega (arith, first_size)) em w in
      let b : Wrote later (length f - s.end) (take k (drop (s.start + r) (put_mid s.start m x y))) z =
      record { is_size = sym later_size; is_out = ez } in
      let j =
      joined o (first ++ section_bytes l n) later (put_mid s.start m x y) z (s.start + r) k (length f - s.end)
      a.is_out
      (sym a.is_size)
      (omega (arith, later_size, first_size, length-append first (section_bytes l n)))
      ek
      b
      in
      subst (λ (c : List ℕ). Wrote c (s.start + r + (length f - s.end)) o
      (put_mid (s.start + r) k (put_mid s.start m x y) z)) (file_is f s l n he) j

-- ---- the walk to the events

module _ (w : Walked) (f : ℕ → Span) {x : Walked} (e : x ≡ w) where
  pub behind_to : {p n : ℕ} → x ≡ Some (p, n) → behind w f ≡ f p
  unfolding behind
  behind_to h = ap (λ (y : Walked). behind y f) (sym e ∙ h)

  pub behind_broken : x ≡ None → behind w f ≡ nowhere
  unfolding behind
  behind_broken h = ap (λ (y : Walked). behind y f) (sym e ∙ h)

pub body_is : (s : List ℕ) (ts at : ℕ) → body_m s ts at ≡ (
    behind (place_m ts s at 0) λ p.
    behind (section_m (part_m ts part.Entity) s p 0).end λ start.
    behind (section_m (part_m ts part.Event) s start 0).end λ end.
    record { start = start; end = end }
    )
unfolding body_m
body_is s ts at = refl

pub span_is : (s : List ℕ) {x : Section} → x ≡ section_m (part_m 0 part.Text) s 4 0 →
    span_m s ≡ behind x.end (body_m s x.count)
unfolding span_m
span_is s e = ap (λ (x : Section). behind x.end (body_m s x.count)) (sym e)
