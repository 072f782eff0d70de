-- Every reader of the model file looks only at what stands behind its position, up to the end of the file: what it finds
-- there it finds in any other file that ends alike. Most readers look only at the bytes that they take (`Local`, in
-- Spelled); a group of fields that the file may end before (`or_zeros`) looks also at whether a byte follows, so that only
-- this weaker law holds of it.
use mathlib.Core.Path.{◌≡◌, refl, sym, ap, ◌∙◌, subst}
use mathlib.Core.List.{List, [], ◌++◌}
use Prim.Native.Nat.{ℕ, ◌+◌, ◌≤◌, ◌<◌}
use native.Mathlib.Omega.{arith}
use native.Mathlib.Decide.{dec_lt}
use lib.ListN.{length, drop, length-drop}
use lib.Seq.{drop-drop, drop_at}
use borrow.Author.Tests.{lt-ltb, le-ltb}
use Rattle.texts.specs.Lists.{◌▸◌}
use Rattle.model_spec.specs.Model.{Moment, midnight}
use Rattle.model_spec.specs.File.{Got, got, broken, Reader, ◌>>=◌, give, or_zeros, start, counted, u32}
use Rattle.model_walk.proofs.Laws.{bind_got}
use Rattle.model_walk.proofs.Found.{bound, given}
use Rattle.model_rewrite.proofs.Spelled.{Local, local_bind, local_give, local_u32, local_counted}

-- what a reader found from p up to q, r finds from p' on in s', in as many bytes
pub record Found {A : Type 0} (r : Reader A) (s' : List ℕ) (p p' : ℕ) (a : A) (q : ℕ) : Type 0 where
  pub count : ℕ
  pub ends : q ≡ p + count
  pub again : r s' p' ≡ got a (p' + count)

-- what the reader r finds, the reader r' finds as `g` of it wherever the same bytes stand up to the end of a file
abbrev pub Twin : {A : Type 0} → (r r' : Reader A) → (A → A) → Type 0
Twin {A} r r' g =
    (s s' : List ℕ) (p p' : ℕ) → drop p s ≡ drop p' s' → (a : A) (q : ℕ) → r s p ≡ got a q → Found r' s' p p' (g a) q

pub twin_give : {A : Type 0} (b : A) (g : A → A) → Twin (give b) (give (g b)) g
unfolding give
twin_give b g s s' p p' d a q e =
    let h = given s p b (unfold give in e) in
    record { count = 0; ends = omega (arith, h.1); again = (λ i. got (g (h.0 i)) p') ∙ ap (got (g a)) (omega arith) }

-- a reader that looks only at the bytes that it takes, and then others
pub twin_bind : {A B : Type 0} (r : Reader A) (k k' : A → Reader B) (g : B → B) → Local r
    → ((a : A) → Twin (k a) (k' a) g) → Twin (r >>= k) (r >>= k') g
twin_bind r k k' g f t s s' p p' d b q e =
    let x = bound r k e in
    let y = f s p x.value x.next x.first in
    let e₁ : drop p' s' ≡ y.bytes ++ drop x.next s = sym d ∙ y.stands in
    let e₂ : drop (p' + length y.bytes) s' ≡ drop x.next s =
    sym (drop-drop (length y.bytes) p' s')
    ∙ ap (drop (length y.bytes)) e₁
    ∙ drop_at y.bytes (drop x.next s) (length y.bytes) refl in
    let z = t x.value s s' x.next (p' + length y.bytes) (sym e₂) b q x.rest in
    record {
      count = length y.bytes + z.count;
      ends = omega (arith, y.ends, z.ends);
      again =
          bind_got r k' (y.spells s' p' (drop x.next s) e₁) ∙ z.again ∙ ap (got (g b)) (omega arith);
    }

-- ---- a group of fields that the file may end before

module _ {A : Type 0} (z : A) (r : Reader A) (s : List ℕ) (p : ℕ) where
  zeros_before : p < length s → or_zeros z r s p ≡ r s p
  unfolding or_zeros
  zeros_before h = rw (lt-ltb p (length s) h)

  pub zeros_at_end : length s ≤ p → or_zeros z r s p ≡ got z p
  unfolding or_zeros
  zeros_at_end h = rw (le-ltb p (length s) h)

bind_same : {A B : Type 0} (r r' : Reader A) (k : A → Reader B) (s : List ℕ) (p : ℕ) → r s p ≡ r' s p
    → (r >>= k) s p ≡ (r' >>= k) s p
unfolding ◌>>=◌
bind_same {A} {B} r r' k s p e =
    ap (λ (x : Got A). ◌▸◌ {B = Got B} x (elim [ got a next ↦ k a s next | broken ↦ broken ])) e

-- such a group, and then what follows it, which may be such groups again
pub twin_zeros : {A B : Type 0} (z : A) (r : Reader A) (k k' : A → Reader B) (g : B → B) → Local r
    → ((a : A) → Twin (k a) (k' a) g) → Twin (or_zeros z r >>= k) (or_zeros z r >>= k') g
twin_zeros z r k k' g f t s s' p p' d b q e = elim (dec_lt p (length s)) [
  | yes h ↦
      let h' : p' < length s' = omega (arith, ap length d, length-drop p s, length-drop p' s') in
      let x = twin_bind r k k' g f t s s' p p' d b q (sym (bind_same (or_zeros z r) r k s p (zeros_before z r s p h)) ∙ e) in
      record {
        count = x.count;
        ends = x.ends;
        again = bind_same (or_zeros z r) r k' s' p' (zeros_before z r s' p' h') ∙ x.again;
      }
  | no h ↦
      let h₀ : length s ≤ p = omega arith in
      let h' : length s' ≤ p' = omega (arith, ap length d, length-drop p s, length-drop p' s') in
      let x = t z s s' p p' d b q (sym (bind_got (or_zeros z r) k (zeros_at_end z r s p h₀)) ∙ e) in
      record {
        count = x.count;
        ends = x.ends;
        again = bind_got (or_zeros z r) k' (zeros_at_end z r s' p' h') ∙ x.again;
      }
]

pub local_start : Local start
unfolding start
local_start = local_bind _ _ local_u32 λ w. local_bind _ _ local_u32 λ s. local_give _

-- two groups, one behind the other: a request that adds a group adds a line
two_groups : {A : Type 0} (f f' : Moment → List ℕ → A) (g : A → A) → ((m : Moment) (l : List ℕ) → g (f m l) ≡ f' m l)
    → Twin (or_zeros midnight start >>= λ m. or_zeros [] (counted u32) >>= λ l. give (f m l))
    (or_zeros midnight start >>= λ m. or_zeros [] (counted u32) >>= λ l. give (f' m l)) g
two_groups {A} f f' g h =
    twin_zeros midnight start _ _ _ local_start λ m.
    twin_zeros [] (counted u32) _ _ _ (local_counted _ local_u32) λ l.
    subst (λ (x : A). Twin (give (f m l)) (give x) g) (h m l) (twin_give (f m l) g)
