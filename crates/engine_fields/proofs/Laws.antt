-- The reads by cases.
use Prim.Native.Nat.{ℕ, zero, suc, ◌+◌, ◌-◌, ◌*◌, ◌≤◌, ◌<◌}
use mathlib.Core.Path.{◌≡◌, refl, sym, ◌∙◌, ap}
use mathlib.Core.List.{List, [], ◌∷◌}
use lib.ListN.{length, get_or}
use borrow.Author.Tests.{eq-eqb, ne_eqb, lt-ltb, le-ltb}
use native.Mathlib.Omega.{arith}
use Rattle.texts.specs.Places.{start_from}
use Rattle.runs.specs.Runs.{place_word}
use Rattle.bounds.specs.Bounds.{at_most}
use Rattle.engine_fields.specs.Fields.{
  two,
  four,
  cap,
  name,
  word,
  entities,
  entity_from,
  entity_of,
  text_position,
  about_rule,
  alone,
  note_reason,
  list_word,
}
use Rattle.reasons.specs.Kinds as kinds
use Rattle.reasons.specs.Readable.{text_count}

past : (f : List ℕ) (at : ℕ) → length f ≤ at → get_or f at 0 ≡ 0
past [] zero h = refl
past [] (suc at) h = refl
past (x ∷ f) zero h = absurd (omega arith)
past (x ∷ f) (suc at) h = past f at (omega arith)

pub two_is : (f : List ℕ) (at a b : ℕ) → a ≡ get_or f at 0 → b ≡ get_or f (at + 1) 0 → a + 256 * b ≡ two f at
unfolding two
two_is f at a b p q = rw (p, q)

pub two_past : (f : List ℕ) (at : ℕ) → length f ≤ at → 0 ≡ two f at
unfolding two
two_past f at h = rw (past f at h, past f (at + 1) (omega arith))

pub four_is : (f : List ℕ) (at a b : ℕ) → a ≡ two f at → b ≡ two f (at + 2) → a + 65536 * b ≡ four f at
unfolding four
four_is f at a b p q = rw (p, q)

pub four_past : (f : List ℕ) (at a : ℕ) → a ≡ two f at → length f ≤ at + 1 → a ≡ four f at
unfolding four
four_past f at a p h = p ∙ omega (arith, two_past f (at + 2) (omega arith))

pub cap_yes : (p : ℕ) → 4294967295 < p → 4294967295 ≡ cap p
unfolding cap
cap_yes p h = rw (lt-ltb 4294967295 p h)

pub cap_no : (p : ℕ) → p ≤ 4294967295 → p ≡ cap p
unfolding cap
cap_no p h = rw (le-ltb 4294967295 p h)

pub word_far : (p n w : ℕ) → w ≡ place_word (record { position = 32767; left = n }) → 32767 < p → w ≡ list_word p n
unfolding list_word
word_far p n w e h = rw (lt-ltb 32767 p h) e

pub word_near : (p n w : ℕ) → w ≡ place_word (record { position = p; left = n }) → p ≤ 32767 → w ≡ list_word p n
unfolding list_word
word_near p n w e h = rw (le-ltb 32767 p h) e

-- ---- the entity with a name

pub entity_start : (x : List ℕ) (id n : ℕ) → n ≡ at_most (get_or x 0 0) 32 → entity_of x id ≡ entity_from x id (n - 0) 0
unfolding entity_of entities
entity_start x id n e = let z : n - 0 ≡ n = omega arith in rw (z, e)

module _ (x : List ℕ) (id n e v : ℕ) (h : e < n) (is : v ≡ name x e) where
  left_more : n - e ≡ suc (n - (e + 1))
  left_more = omega arith

  pub entity_here : v ≡ id → entity_from x id (n - e) e ≡ e
  unfolding entity_from
  entity_here p = rw (left_more, eq-eqb (name x e) id (sym is ∙ p), entity_from)

  pub entity_later : (v ≡ id → ⊥) → entity_from x id (n - e) e ≡ entity_from x id (n - (e + 1)) (e + 1)
  unfolding entity_from
  entity_later p = rw (left_more, ne_eqb (name x e) id (λ q. p (is ∙ q)), entity_from)

pub entity_none : (x : List ℕ) (id n e : ℕ) → n ≤ e → entity_from x id (n - e) e ≡ 32
unfolding entity_from
entity_none x id n e h = let z : n - e ≡ 0 = omega arith in rw z

-- ---- reasons

module _ (f : List ℕ) (p : ℕ) {n : ℕ} (c : n ≡ two f 4) where
  pub position_far : n ≤ p → 6 ≡ text_position f p
  unfolding text_position text_count two
  position_far h = rw (le-ltb p (two f 4) (omega (arith, h, c)))

  pub position_near : {s w : ℕ} → p < n → w ≡ cap s → s ≡ start_from f 6 p → w ≡ text_position f p
  unfolding text_position text_count two
  position_near h e g = rw (lt-ltb p (two f 4) (omega (arith, h, c))) (e ∙ ap cap g)

pub about_is : (f x : List ℕ) (i k v w : ℕ) → v ≡ word x i 0 → w ≡ text_position f v →
    record { kind = k; first = w; second = 4294967295; line = 0; column = 0 } ≡ about_rule f x i k
unfolding about_rule
about_is f x i k v w e g = rw (g, e)

pub alone_is : (k : ℕ) → record { kind = k; first = 4294967295; second = 4294967295; line = 0; column = 0 } ≡ alone k
unfolding alone
alone_is k = refl

pub note_is : (f : List ℕ) (p w : ℕ) → w ≡ text_position f p →
    record { kind = kinds.note; first = w; second = 4294967295; line = 0; column = 0 } ≡ note_reason f p
unfolding note_reason
note_is f p w e = rw e
