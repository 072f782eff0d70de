-- The laws that the proofs of this crate's functions cite.
use mathlib.Core.Path.{◌≡◌, refl, sym, ap, ◌∙◌}
use mathlib.Core.List.{List}
use Prim.Native.Nat.{ℕ, zero, suc, ◌+◌, ◌-◌, ◌*◌, ◌/◌, ◌%◌, ◌≤◌, ◌<◌}
use native.Mathlib.Omega.{arith}
use lib.ListN.{get_or, set, replicate}
use lib.Seq.{get_or-set_other}
use borrow.Author.Tests.{lt-ltb, le-ltb, eq-eqb, ne_eqb}
use Rattle.engine_fields.specs.Fields.{two, four, cap}
use Rattle.engine_inputs.specs.Inputs.{input_part, event_part, event_from, initial_at, value_from}

module _ (s : List ℕ) (p j : ℕ) {kind : ℕ} (is_kind : kind ≡ get_or s p 0) where
  pub part_kind : j ≡ 0 → kind ≡ input_part s p j
  unfolding input_part
  part_kind e = is_kind ∙ rw (eq-eqb j 0 e)

  pub part_none : (j ≡ 0 → ⊥) → (kind ≡ 0 → ⊥) → 0 ≡ input_part s p j
  unfolding input_part
  part_none a b = rw (ne_eqb j 0 a, ← is_kind, ne_eqb kind 0 b)

  pub part_entity : kind ≡ 0 → j ≡ 1 → {r : ℕ} → r ≡ two s (p + 1) → r ≡ input_part s p j
  unfolding input_part
  part_entity b e {r} h = h ∙ rw (← is_kind, eq-eqb kind 0 b, e)

  pub part_value : (j ≡ 0 → ⊥) → kind ≡ 0 → (j ≡ 1 → ⊥) → {r : ℕ} → r ≡ two s (p + 3) → r ≡ input_part s p j
  unfolding input_part
  part_value a b c {r} h = h ∙ rw (ne_eqb j 0 a, ← is_kind, eq-eqb kind 0 b, ne_eqb j 1 c)

module _ (s : List ℕ) (p j : ℕ) where
  pub part_second : j ≡ 0 → event_part s p j ≡ four s p
  unfolding event_part
  part_second e = rw e

  pub part_input : (j ≡ 0 → ⊥) → event_part s p j ≡ input_part s (p + 4) (j - 1)
  unfolding event_part
  part_input e = rw (ne_eqb _ _ e)

-- the words behind k are zeros still after one at k is set
pub zeros_behind : (x : List ℕ) (k v : ℕ) → ((j : ℕ) → k ≤ j → get_or x j 0 ≡ 0) →
    (j : ℕ) → k + 1 ≤ j → get_or (set x k v) j 0 ≡ 0
zeros_behind x k v g j h = get_or-set_other x k j v 0 (λ e. absurd (omega (arith, e))) ∙ g j (omega arith)

pub zeros : (n e : ℕ) → ◌≡◌ {A = ℕ} (get_or (replicate n 0) e 0) 0
zeros zero e = refl
zeros (suc n) zero = refl
zeros (suc n) (suc e) = zeros n e

pub word_is : (s l : List ℕ) (k : ℕ) {p r : ℕ} → p ≡ cap (get_or l (k / 4) 0) → r ≡ event_part s p (k % 4) →
    r ≡ event_from s l k
unfolding event_from
word_is s l k e f = f ∙ ap (λ (p : ℕ). event_part s p (k % 4)) e

pub initial_is : (s : List ℕ) (p : ℕ) {many r : ℕ} → many ≡ two s (p + 2) → r ≡ two s (p + 4 + 2 * many) → r ≡ initial_at s p
unfolding initial_at
initial_is s p e f = f ∙ ap (λ (n : ℕ). two s (p + 4 + 2 * n)) e

module _ (s l : List ℕ) (n e : ℕ) where
  pub value_in : {p r : ℕ} → e < n → p ≡ cap (get_or l e 0) → r ≡ initial_at s p → r ≡ value_from s l n e
  unfolding value_from
  value_in h a b = b ∙ ap (initial_at s) a ∙ sym (rw (lt-ltb e n h))

  pub value_out : n ≤ e → 0 ≡ value_from s l n e
  unfolding value_from
  value_out h = rw (le-ltb e n h)
