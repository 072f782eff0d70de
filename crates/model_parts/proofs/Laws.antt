-- The laws of parts and sections that the proofs of functions cite.
use Rattle.std.specs.Prelude.{Some, None, if◌then◌else◌}
use mathlib.Core.Logic.{◌⊎◌, inl, inr}
use mathlib.Core.Path.{◌≡◌, refl, sym, ◌∙◌}
use mathlib.Core.List.{List}
use mathlib.Core.Bool.{true, false}
use Prim.Native.Nat.{ℕ, zero, suc, ◌+◌, ◌-◌, ◌≤◌, ◌<◌}
use native.Mathlib.Numerals.{sub-one}
use native.Mathlib.Omega.{arith}
use lib.ListN.{set}
use lib.Dec.{ltb, eqb}
use borrow.Author.Tests.{lt-ltb, le-ltb, le-leb, lt-leb, ne_eqb}
use Rattle.model_spec.specs.File.{u8, u16, printable}
use Rattle.model_walk.specs.declared.Piece.TheVariants as piece
use Rattle.model_walk.specs.Walk.{
  Num,
  Walked,
  found,
  Walk,
  ◌⨾◌,
  by,
  stop,
  staying,
  bytes_m,
  times_m,
  kind_m,
  place_m,
  pieces_m,
  predicate_m,
  actions_m,
}
use Rattle.model_walk.proofs.Laws.{is_got, is_broken}
use Rattle.model_parts.specs.declared.Part.{Part}
use Rattle.model_parts.specs.declared.Part.TheVariants as part
use Rattle.model_parts.specs.Parts.{
  letter_m,
  text_m,
  entity_m,
  input_m,
  event_m,
  condition_m,
  invariant_m,
  rule_m,
  part_m,
  put,
  no_starts,
  fill,
  section_m,
}

pub text_is : (s : List ℕ) (p n : ℕ) → text_m s p n ≡ by u8 (λ i. times_m i letter_m) s p n
unfolding text_m
text_is s p n = refl

pub printable_in : (b : ℕ) → 32 ≤ b → b ≤ 126 → printable b ≡ true
unfolding printable
printable_in b h k = simp (le-leb _ _ h, le-leb _ _ k)

pub printable_out : (b : ℕ) → (b < 32) ⊎ ((32 ≤ b) × (126 < b)) → printable b ≡ false
unfolding printable
printable_out b (inl h) = simp (lt-leb _ _ h)
printable_out b (inr (k, h)) = simp (le-leb _ _ k, lt-leb _ _ h)

module _ (ts : ℕ) (s : List ℕ) (p n : ℕ) where
  pub entity_is : entity_m ts s p n ≡ (place_m ts ⨾ pieces_m ts piece.Place ⨾ place_m ts ⨾ kind_m 4 ⨾ bytes_m 4) s p n
  unfolding entity_m
  entity_is = refl

  pub input_is : input_m ts s p n ≡ by u8 (λ k. if eqb k 0 then place_m ts ⨾ place_m ts else staying (ltb k 3)) s p n
  unfolding input_m
  input_is = refl

  pub event_is : event_m ts s p n ≡ (bytes_m 4 ⨾ input_m ts) s p n
  unfolding event_m
  event_is = refl

  pub invariant_is : invariant_m ts s p n ≡ by u8 (λ k. place_m ts ⨾ condition_m ts k) s p n
  unfolding invariant_m
  invariant_is = refl

  pub rule_is : rule_m ts s p n ≡ (place_m ts ⨾ kind_m 4 ⨾ bytes_m 4 ⨾ pieces_m ts piece.Trigger ⨾ pieces_m ts piece.Predicate
      ⨾ actions_m ts 18 ⨾ bytes_m 8 ⨾ pieces_m ts piece.Note) s p n
  unfolding rule_m
  rule_is = refl

  module _ {k : ℕ} where
    pub condition_0 : k ≡ 0 → condition_m ts k s p n ≡ pieces_m ts piece.Predicate s p n
    unfolding condition_m
    condition_0 e = rw e

    pub condition_1 : k ≡ 1 → condition_m ts k s p n ≡ ((place_m ts ⨾ place_m ts) ⨾ pieces_m ts piece.Predicate) s p n
    unfolding condition_m
    condition_1 e = rw e

    pub condition_2 : k ≡ 2 → condition_m ts k s p n ≡ ((place_m ts ⨾ place_m ts) ⨾ place_m ts) s p n
    unfolding condition_m
    condition_2 e = rw e

    pub condition_3 : k ≡ 3 → condition_m ts k s p n ≡ (predicate_m ts ⨾ predicate_m ts ⨾ bytes_m 4) s p n
    unfolding condition_m
    condition_3 e = rw e

    pub condition_else : (k ≡ 0 → ⊥) → (k ≡ 1 → ⊥) → (k ≡ 2 → ⊥) → (k ≡ 3 → ⊥) → condition_m ts k s p n ≡ None
    unfolding condition_m stop
    condition_else a b c d = rw (ne_eqb _ _ a, ne_eqb _ _ b, ne_eqb _ _ c, ne_eqb _ _ d)

  module _ {x : Part} where
    pub part_text : x ≡ part.Text → part_m ts x s p n ≡ text_m s p n
    unfolding part_m
    part_text e = rw e

    pub part_entity : x ≡ part.Entity → part_m ts x s p n ≡ entity_m ts s p n
    unfolding part_m
    part_entity e = rw e

    pub part_event : x ≡ part.Event → part_m ts x s p n ≡ event_m ts s p n
    unfolding part_m
    part_event e = rw e

    pub part_invariant : x ≡ part.Invariant → part_m ts x s p n ≡ invariant_m ts s p n
    unfolding part_m
    part_invariant e = rw e

    pub part_action : x ≡ part.Input → part_m ts x s p n ≡ input_m ts s p n
    unfolding part_m
    part_action e = rw e

    pub part_gap : x ≡ part.Gap → part_m ts x s p n ≡ bytes_m 4 s p n
    unfolding part_m
    part_gap e = rw e

    pub part_rule : x ≡ part.Rule → part_m ts x s p n ≡ rule_m ts s p n
    unfolding part_m
    part_rule e = rw e

-- ---- sections

pub put_in : (i p : ℕ) (l : List ℕ) → i < 100 → put i p l ≡ set l i p
unfolding put
put_in i p l h = rw (lt-ltb i 100 h)

pub put_out : (i p : ℕ) (l : List ℕ) → 100 ≤ i → put i p l ≡ l
unfolding put
put_out i p l h = rw (le-ltb i 100 h)

module _ (k : Walk) (s : List ℕ) (p n : ℕ) {x : Num} (e : found x ≡ u16 s p) where
  module _ {l : List ℕ} (f : l ≡ no_starts) where
    pub section_is : {c q : ℕ} → x ≡ Some (c, q) → section_m k s p n ≡ fill c 0 c k l s q n
    unfolding section_m
    section_is h = rw (is_got e h, f, section_m)

    pub section_broken : x ≡ None → section_m k s p n ≡ record { count = 0; starts = l; end = None }
    unfolding section_m
    section_broken h = rw (is_broken e h, f, section_m)

module _ (k : Walk) (s : List ℕ) (p n i c : ℕ) (l : List ℕ) where
  pub fill_end : (left : ℕ) → left ≤ 0 → fill left i c k l s p n ≡ record { count = c; starts = l; end = Some (p, n) }
  unfolding fill
  fill_end zero h = refl
  fill_end (suc left) h = absurd (omega arith)

  module _ {x : Walked} (e : x ≡ k s p n) {l' : List ℕ} (f : l' ≡ put i p l) where
    pub fill_more : {q m : ℕ} (left : ℕ) → 0 < left → x ≡ Some (q, m) →
        fill left i c k l s p n ≡ fill (left - 1) (i + 1) c k l' s q m
    unfolding fill
    fill_more zero h g = absurd (omega arith)
    fill_more (suc left) h g = rw (sub-one (suc left), f, sym e ∙ g, fill)

    pub fill_broken : (left : ℕ) → 0 < left → x ≡ None →
        fill left i c k l s p n ≡ record { count = c; starts = l'; end = None }
    unfolding fill
    fill_broken zero h g = absurd (omega arith)
    fill_broken (suc left) h g = rw (f, sym e ∙ g, fill)
