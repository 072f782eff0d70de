-- Numbers read at positions of the file are those that the reader of `File` finds there.
-- Sums of seconds and positions stay below the largest word.
use mathlib.Core.Path.{◌≡◌, sym, ap, ◌∙◌}
use mathlib.Core.List.{List}
use Prim.Native.Nat.{ℕ, ◌+◌, ◌-◌, ◌*◌, ◌≤◌, ◌<◌}
use native.Mathlib.Omega.{arith}
use lib.ListN.{length, get_or}
use borrow.Author.Tests.{le-leb, le-ltb, lt-ltb}
use Rattle.model_spec.specs.Model.{Source}
use Rattle.model_spec.specs.File.{got, u8, u16, u32, source}
use Rattle.model_walk.proofs.Laws.{u8_in, u16_in, u32_in}
use Rattle.model_walk.proofs.Found.{u8_wide, u16_wide, u32_wide, bound, given}
use Rattle.bounds.specs.Bounds.{at_most}
use Rattle.engine_fields.specs.Fields.{two, four, cap}
use Rattle.engine_state.specs.Machine.{later, more}

module _ (f : List ℕ) (p : ℕ) {v q : ℕ} where
  pub byte_is : u8 f p ≡ got v q → get_or f p 0 ≡ v
  byte_is e = let w = u8_wide f p e in let g = u8_in f p (omega arith) in cc

  pub two_is : u16 f p ≡ got v q → two f p ≡ v
  unfolding two
  two_is e = let w = u16_wide f p e in let g = u16_in f p w.inside in cc

  pub four_is : u32 f p ≡ got v q → four f p ≡ v
  unfolding four two
  four_is e =
      let w = u32_wide f p e in
      let g = u32_in f p w.inside in
      let z : p + 2 + 1 ≡ p + 3 = omega arith in
      let y : get_or f p 0 + 256 * get_or f (p + 1) 0 + 65536 * (get_or f (p + 2) 0 + 256 * get_or f (p + 3) 0) ≡ v = cc in
      rw z y

-- two bytes are below 65,536
pub two_small : (f : List ℕ) → ((i : ℕ) → get_or f i 0 < 256) → (p : ℕ) → two f p < 65536
unfolding two
two_small f b p = omega (arith, b p, b (p + 1))

pub record Sourced (f : List ℕ) (p : ℕ) (s : Source) (q : ℕ) : Type 0 where
  pub line : four f p ≡ s.line
  pub column : four f (p + 4) ≡ s.column
  pub ends : q ≡ p + 8
  pub inside : p + 8 ≤ length f

pub source_is : (f : List ℕ) (p : ℕ) {s : Source} {q : ℕ} → source f p ≡ got s q → Sourced f p s q
unfolding source
source_is f p e =
    let l = bound u32 _ e in
    let c = bound u32 _ l.rest in
    let g = given _ _ _ c.rest in
    let a = u32_wide f p l.first in
    let b = u32_wide f l.next c.first in
    let z : l.next ≡ p + 4 = a.ends in
    record {
      line = four_is f p l.first ∙ ap (λ (s : Source). s.line) g.0;
      column = ap (four f) (sym z) ∙ four_is f l.next c.first ∙ ap (λ (s : Source). s.column) g.0;
      ends = omega (arith, g.1);
      inside = omega arith;
    }

pub later_is : (a b : ℕ) → a + b ≤ 4294967295 → later a b ≡ a + b
unfolding later
later_is a b h = rw (le-leb b (4294967295 - a) (omega arith))

pub more_is : (a : ℕ) → a < 4294967295 → more a ≡ a + 1
unfolding more
more_is a h = rw (lt-ltb a 4294967295 h)

pub cap_is : (a : ℕ) → a ≤ 4294967295 → cap a ≡ a
unfolding cap
cap_is a h = rw (le-ltb 4294967295 a h)

pub most_is : (n m : ℕ) → n ≤ m → at_most n m ≡ n
unfolding at_most
most_is n m h = rw (le-leb n m h)
