-- The values at the end as places: where each value stands among the texts is the place that the machine holds.
use Prim.Native.Nat.{ℕ, zero, suc, ◌+◌, ◌-◌, ◌≤◌, ◌<◌}
use mathlib.Core.Path.{◌≡◌, refl, sym, ap, ◌∙◌}
use mathlib.Core.List.{List, ◌++◌}
use native.Mathlib.Omega.{arith}
use native.Mathlib.Decide.{dec_lt}
use lib.ListN.{length, get_or, replicate, length-append, length-replicate, get_or-append}
use lib.Seq.{ext_get_or, get_or-append-add}
use Rattle.texts.specs.Lists.{each}
use Rattle.texts.specs.Texts.{Text}
use Rattle.model_spec.specs.Model.{Model}
use Rattle.engine_spec.specs.Cells.{Cell}
use Rattle.model_spec.specs.Rewrite.{place_of}
use Rattle.engine_fields.specs.Fields.{entities}
use Rattle.engine_refinement.specs.Meaning.{cell_at, cells_from, cells_of, Tabled}
use Rattle.engine_refinement.proofs.Evaluate.{Valued, entities_are}
use Rattle.engine_refinement.proofs.Lists.{each_length}
use Rattle.engine_refinement.proofs.Words.{text_place}
use Rattle.engine_entry.specs.Contract.{values_of}
use Rattle.engine_summary.specs.Summaries.{Firsts}
use Rattle.engine_summary.proofs.Laws.{zeros}

padded : (p r vs : List ℕ) (k n : ℕ) → n ≤ 32 → length p ≡ n → k ≡ 32 - n →
    ((e : ℕ) → e < n → get_or p e 0 ≡ get_or vs e 0) → Firsts vs n r → r ≡ p ++ replicate k 0
padded p r vs k n o long rest h f =
    ext_get_or 0 r (p ++ replicate k 0)
    (omega (arith, f.long, length-append p (replicate k 0), length-replicate {A = ℕ} k 0))
    (λ e q. at e (omega (arith, f.long)))
  where
    after : (e : ℕ) → n ≤ e → get_or (p ++ replicate k 0) e 0 ≡ 0
    after e h =
        let z : e ≡ length p + (e - length p) = omega arith in
        ap (λ (i : ℕ). get_or (p ++ replicate k 0) i 0) z ∙ get_or-append-add p (replicate k 0) (e - length p) 0
        ∙ zeros k (e - length p)

    at : (e : ℕ) → e < 32 → get_or r e 0 ≡ get_or (p ++ replicate k 0) e 0
    at e q = elim (dec_lt e n) [
      | yes l ↦ f.first e l ∙ sym (h e l) ∙ sym (get_or-append p (replicate k 0) 0 e (omega arith))
      | no l ↦ f.rest e (omega arith) q ∙ sym (after e (omega arith))
    ]

module _ (f x : List ℕ) (ts : List Text) (m : Model) (tb : Tabled f x ts m) (vs ns : List ℕ) (v : Valued f x ts m tb vs)
  where
    abbrev many : ℕ
    many = length m.scenario.entities

    abbrev named : Cell → Text × Text
    named c = (c.name, c.value)

    abbrev place : Text × Text → ℕ
    place p = place_of p.1 ts

    -- the first `left` places from the cell o on
    places_long : (left o : ℕ) → length (each place (each named (cells_from x ts vs ns left o))) ≡ left
    unfolding each cells_from
    places_long zero o = refl
    places_long (suc left) o = ap suc (places_long left (o + 1))

    places_are : (left o : ℕ) → o + left ≤ many → (e : ℕ) → e < left →
        get_or (each place (each named (cells_from x ts vs ns left o))) e 0 ≡ get_or vs (o + e) 0
    unfolding each cells_from cell_at
    places_are zero o h e k = absurd (omega arith)
    places_are (suc left) o h zero k =
        let z : o ≡ o + 0 = omega arith in
        text_place f x ts m tb (get_or vs o 0) (v.in_texts o (omega arith)) ∙ ap (λ (i : ℕ). get_or vs i 0) z
    places_are (suc left) o h (suc e) k =
        let z : o + 1 + e ≡ o + suc e = omega arith in
        places_are left (o + 1) (omega arith) e (omega arith) ∙ ap (λ (i : ℕ). get_or vs i 0) z

    -- the first values, then zeros
    pub values_are : (r : List ℕ) → Firsts vs many r → r ≡ values_of ts (each named (cells_of x ts vs ns))
    unfolding values_of cells_of
    values_are r h =
        let n = entities_are f x ts m tb in
        let long : length (each named (cells_from x ts vs ns (entities x) 0)) ≡ many =
        sym (each_length place (each named (cells_from x ts vs ns (entities x) 0))) ∙ places_long (entities x) 0 ∙ n in
        padded (each place (each named (cells_from x ts vs ns (entities x) 0))) r vs _ many tb.few_entities
        (places_long (entities x) 0 ∙ n) (ap (λ (k : ℕ). 32 - k) long)
        (λ e o. let z : 0 + e ≡ e = omega arith in places_are (entities x) 0 (omega (arith, n)) e (omega (arith, n, o))
        ∙ ap (λ (k : ℕ). get_or vs k 0) z) h
