-- The laws that the proofs of this crate's functions cite.
use mathlib.Core.Path.{◌≡◌, sym, ap, ◌∙◌}
use mathlib.Core.List.{List}
use Prim.Native.Nat.{ℕ, ◌-◌, ◌*◌, ◌/◌, ◌%◌, ◌≤◌, ◌<◌}
use lib.ListN.{get_or}
use borrow.Author.Tests.{lt-ltb, le-ltb, eq-eqb, ne_eqb}
use Rattle.model_index.specs.declared.Index.{Index}
use Rattle.engine_fields.specs.Fields.{four, cap}
use Rattle.engine_inputs.specs.Inputs.{input_part}
use Rattle.search_inputs.specs.declared.Placed.{Placed}
use Rattle.search_inputs.specs.Inputs.{input_word, gap_word, last_m}

module _ (s : List ℕ) (i : Index) (k : ℕ) where
  pub word_in : {p r : ℕ} → k / 3 < i.alphabet.count → p ≡ cap (get_or i.alphabet.starts (k / 3) 0)
      → r ≡ input_part s p (k % 3) → r ≡ input_word s i k
  unfolding input_word
  word_in h a b = b ∙ ap (λ (p : ℕ). input_part s p (k % 3)) a ∙ sym (rw (lt-ltb (k / 3) i.alphabet.count h))

  pub word_out : i.alphabet.count ≤ k / 3 → 0 ≡ input_word s i k
  unfolding input_word
  word_out h = rw (le-ltb (k / 3) i.alphabet.count h)

  pub gap_in : {p r : ℕ} → k < i.gaps.count → p ≡ cap (get_or i.gaps.starts k 0) → r ≡ four s p → r ≡ gap_word s i k
  unfolding gap_word
  gap_in h a b = b ∙ ap (four s) a ∙ sym (rw (lt-ltb k i.gaps.count h))

  pub gap_out : i.gaps.count ≤ k → 0 ≡ gap_word s i k
  unfolding gap_word
  gap_out h = rw (le-ltb k i.gaps.count h)

module _ (p : Placed) where
  pub last_none : p.count ≡ 0 → 0 ≡ last_m p
  unfolding last_m
  last_none e = rw (eq-eqb p.count 0 e)

  pub last_some : (p.count ≡ 0 → ⊥) → get_or p.words ((p.count - 1) * 4) 0 ≡ last_m p
  unfolding last_m
  last_some h = rw (ne_eqb p.count 0 h)
