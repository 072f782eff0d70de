-- What is made of the end of a search is the definition's answer.
use Prim.Native.Nat.{ℕ}
use mathlib.Core.Path.{◌≡◌, refl, sym, ap, subst, ◌∙◌}
use mathlib.Core.Bool.{Bool, true, false}
use mathlib.Core.List.{List, [], ◌∷◌}
use mathlib.Core.Option.{Option, none, some}
use native.Mathlib.Omega.{arith}
use lib.ListN.{length, replicate}
use borrow.Author.Tests.{ne_eqb}
use Rattle.texts.specs.Texts.{Text, sorted_t}
use Rattle.areas.specs.Areas.{area}
use Rattle.areas.proofs.Laws as areas
use Rattle.reasons.specs.Lists.{insert_all, Holds}
use Rattle.reasons.proofs.Listing.{reported}
use Rattle.reasons.proofs.Sorting.{one_by_one}
use Rattle.model_spec.specs.Answer.{Answer, answer, refused, ◌>>=◌}
use Rattle.engine_spec.specs.Memory.{Lent}
use Rattle.engine_spec.specs.Words.{texts_in, words_in}
use Rattle.engine_entry.proofs.RunEvents.{texts_here}
use Rattle.checker_spec.specs.Verify as verify
use Rattle.checker_spec.specs.Verify.{found_of, verification_of, witness_file}
use Rattle.model_spec.specs.Events.{input_words, event_words}
use Rattle.search_cases.specs.declared.Search.{Search}
use Rattle.search_cases.specs.Promises.{limit_m}
use Rattle.search.specs.Meaning.{Entire, Setting, Witnessed, Held, Outcome}
use Rattle.engine_refinement.proofs.Pool.{has_text}
use Rattle.search.proofs.Cases.{table, few_reasons}
use Rattle.search.proofs.Sorted.{sorted_again}
use Rattle.search_answer.specs.declared.Verification.{Verification}
use Rattle.search_answer.specs.Result.{no_verification}
use Rattle.search_entry.specs.Contract.{
  found_as,
  NoWitness,
  Witnesses,
  WitnessSays,
  Shows,
  witness_trace,
  output_after,
}
use Rattle.search_answer.specs.Answer.{status_m, WithCheck, Told, without}
use Rattle.search_entry.specs.Promises.{Writable, Written, Writes, Reached, answer_of, Ending, Ends}
use Rattle.search_entry.proofs.Start.{limits_are}

-- ---- the status

status_none : (l : List Text) {n : ℕ} → n ≡ length l → status_m false n ≡ found_as (found_of none l)
unfolding status_m found_of
status_none [] e = rw e
status_none (t ∷ l) {n} e = rw (ne_eqb n 0 (λ z. absurd (omega (arith, e, z))))

module _ {f : List ℕ} {at : ℕ} {p : Entire} {q a u : ℕ} (x : Setting f p q a u) (here : x.index.limits ≡ at) where
  texts_are : texts_in f ≡ x.indexed.ts
  texts_are = texts_here f x.index x.m x.is_accepted x.indexed x.bytes p.prepared x.prepared_from

  module _ (s : verify.Search) {o : Search} {w : List ℕ} (h : Held x s o w) {y : WithCheck} {r : Verification}
      (t : Told f at p.alphabet p.gaps p.horizon o w y r) where
    reasons_are : Holds f (sorted_t s.reasons) r.reasons r.told
    reasons_are =
        subst (λ (l : List Text). Holds f l r.reasons r.told)
        (ap (λ (l : List Text). insert_all l []) h.reasons.texts ∙ one_by_one (sorted_t s.reasons)
        ∙ sorted_again s.reasons)
        (t.reasons (few_reasons x s o w h) h.reasons.clean)

    shows_with : r.status ≡ found_as (found_of s.witness (sorted_t s.reasons)) → WitnessSays f r s.witness
        → Shows f r (verification_of x.m s)
    unfolding verification_of
    shows_with e k =
        let l = limits_are f x.index x.m x.is_accepted x.indexed in
        record {
          status_is = e;
          cases = t.cases ∙ h.cases;
          total_steps = t.total_steps ∙ h.steps;
          depth = t.depth ∙ ap (λ (j : ℕ). limit_m f j 8) (sym here) ∙ l.depth;
          horizon = t.horizon ∙ x.horizon;
          max_cases = t.max_cases ∙ ap (λ (j : ℕ). limit_m f j 12) (sym here) ∙ l.cases;
          max_steps_per_case = t.max_steps_per_case ∙ ap (λ (j : ℕ). limit_m f j 4) (sym here) ∙ l.steps;
          alphabet = t.alphabet ∙ x.inputs;
          inputs = t.inputs ∙ x.words ∙ ap (λ (ts : List Text). area (input_words ts) 36 x.m.scenario.alphabet)
              (sym texts_are);
          gaps = t.gaps ∙ x.gaps;
          seconds = t.seconds ∙ x.seconds;
          reasons = reported (has_text f p.prepared.table x.indexed.ts x.m (table x)) reasons_are;
          shortest = t.shortest ∙ h.shortest;
          witness = k;
        }

    -- ---- no witness

    none_says : y ≡ without → NoWitness r
    unfolding without
    none_says e = record {
      events = t.events ∙ ap (λ (z : WithCheck). z.events) e;
      words = t.words ∙ ap (λ (z : WithCheck). z.words) e;
      written = t.written ∙ ap (λ (z : WithCheck). z.written) e;
      check = t.check ∙ ap (λ (z : WithCheck). z.check) e;
    }

    none_status : o.found ≡ false → r.status ≡ found_as (found_of none (sorted_t s.reasons))
    none_status e = t.status_is ∙ ap (λ (b : Bool). status_m b r.reasons) e
        ∙ status_none (sorted_t s.reasons) reasons_are.many

    -- ---- a witness

    some_says : (v : verify.Witness) {after : Lent} {out out' : List ℕ} → Witnessed x v o
        → Written f v.events v.check o.witness y q a u after out out' → Witnesses f r v
    some_says v g k = record {
      events = t.events ∙ k.events ∙ g.placed.count;
      words = t.words ∙ k.words ∙ g.placed.words
          ∙ ap (λ (ts : List Text). area (event_words ts) 20 v.events) (sym texts_are);
      written = t.written ∙ k.written.is_size;
      check = subst (λ (z : _). Rattle.checker_entry.specs.Contract.Shows f z v.check) (sym t.check) k.check;
    }

    some_status : (v : verify.Witness) → o.found ≡ true → r.status ≡ found_as (found_of (some v) (sorted_t s.reasons))
    unfolding status_m found_of
    some_status v e = t.status_is ∙ rw e

-- ---- the three ends

module _ {f : List ℕ} {at : ℕ} {p : Entire} {o : Search} {w : List ℕ} {q a u : ℕ} {after : Lent} {out : List ℕ} where
  pub end_refused : (o.refused ≡ 0 → ⊥) → {r : Verification} → r ≡ no_verification o.refused →
      after.queue ≡ replicate q 0 → after.records ≡ replicate a 0 → after.runs ≡ replicate u 0
      → Ends f at p o w r q a u after out out
  unfolding ◌>>=◌ output_after
  end_refused z {r} e eq ea eu = record { does = by }
    where
      by : (x : Setting f p q a u) → x.index.limits ≡ at → (y : Answer verify.Search) → Outcome x y o w
          → Ending f r (answer_of x.m y) q a u after out out
      by x here (answer s) h = absurd (z h.fine)
      by x here (refused n) h = record {
        says = e ∙ ap no_verification h.number;
        number = (h.low, h.high);
        queue = eq;
        records = ea ∙ sym (areas.area_none (words_in f) a);
        runs = eu;
        output = refl;
      }

  pub end_none : o.refused ≡ 0 → o.found ≡ false → {y : WithCheck} {r : Verification} → y ≡ without →
      Told f at p.alphabet p.gaps p.horizon o w y r →
      after.queue ≡ replicate q 0 → after.records ≡ replicate a 0 → after.runs ≡ replicate u 0
      → Ends f at p o w r q a u after out out
  unfolding ◌>>=◌ output_after witness_trace witness_file verification_of
  end_none z e {y} {r} n t eq ea eu = record { does = by }
    where
      made : (x : Setting f p q a u) → x.index.limits ≡ at →
          (s : verify.Search) (h : Held x s o w) (v : Option verify.Witness) → s.witness ≡ v →
          Rattle.search.specs.Meaning.WitnessIs x v o → Ending f r (answer (verification_of x.m s)) q a u after out out
      made x here s h none g k = record {
        says = shows_with x here s h t (subst (λ (v : Option verify.Witness). r.status
            ≡ found_as (found_of v (sorted_t s.reasons))) (sym g) (none_status x here s h t e))
            (subst (WitnessSays f r) (sym g) (none_says x here s h t n));
        number = tt;
        queue = eq;
        records = rw g (ea ∙ sym (areas.area_none (words_in f) a));
        runs = eu;
        output = rw g;
      }
      made x here s h (some v) g k = let c : true ≡ false = sym k.found
          ∙ e in let d : ◌≡◌ {A = ℕ} 0 1 = cc in absurd (omega arith)

      by : (x : Setting f p q a u) → x.index.limits ≡ at → (y : Answer verify.Search) → Outcome x y o w
          → Ending f r (answer_of x.m y) q a u after out out
      by x here (answer s) h = made x here s h s.witness refl h.witness
      by x here (refused j) h = absurd (omega (arith, h.number, h.low, z))

  pub end_some : o.refused ≡ 0 → o.found ≡ true → {y : WithCheck} {r : Verification} {out' : List ℕ}
      → Writes f p o.witness y q a u after out out' → Told f at p.alphabet p.gaps p.horizon o w y r →
      Ends f at p o w r q a u after out out'
  unfolding ◌>>=◌ output_after witness_trace witness_file verification_of
  end_some z e {y} {r} {out'} ws t = record { does = by }
    where
      made : (x : Setting f p q a u) → x.index.limits ≡ at →
          (s : verify.Search) (h : Held x s o w) (v : Option verify.Witness) → s.witness ≡ v →
          Rattle.search.specs.Meaning.WitnessIs x v o → Ending f r (answer (verification_of x.m s)) q a u after out out'
      made x here s h none g k = let c : true ≡ false = sym e ∙ k in let d : ◌≡◌ {A = ℕ} 0 1 = cc in absurd (omega arith)
      made x here s h (some v) g k =
          let d = ws.does x v.events k.placed v.check k.checks in
          record {
            says = shows_with x here s h t (subst (λ (v : Option verify.Witness). r.status
                ≡ found_as (found_of v (sorted_t s.reasons))) (sym g) (some_status x here s h t v e))
                (subst (WitnessSays f r) (sym g) (some_says x here s h t v k d));
            number = tt;
            queue = d.queue;
            records = rw g d.records;
            runs = d.runs;
            output = rw g d.written.is_out;
          }

      by : (x : Setting f p q a u) → x.index.limits ≡ at → (y : Answer verify.Search) → Outcome x y o w
          → Ending f r (answer_of x.m y) q a u after out out'
      by x here (answer s) h = made x here s h s.witness refl h.witness
      by x here (refused j) h = absurd (omega (arith, h.number, h.low, z))

-- a witness's events, and room for its file
pub writable : {f : List ℕ} {p : Entire} {o : Search} {w : List ℕ} {q a u n : ℕ} → Reached f p o w q a u n
    → o.refused ≡ 0 → o.found ≡ true → Writable f p o.witness q a u n
writable {f} {p} {o} {w} {q} {a} {u} {n} h z e = by h.ending h.outcome
  where
    some_of : (v : Option verify.Witness) → Rattle.search.specs.Meaning.WitnessIs h.setting v o
        → Writable f p o.witness q a u n
    some_of none k = let c : true ≡ false = sym e ∙ k in let d : ◌≡◌ {A = ℕ} 0 1 = cc in absurd (omega arith)
    some_of (some v) k = record {
      setting = h.setting;
      events = v.events;
      few = k.few;
      placed_as = k.placed;
      room = h.room;
    }

    by : (y : Answer verify.Search) → Outcome h.setting y o w → Writable f p o.witness q a u n
    by (answer s) k = some_of s.witness k.witness
    by (refused j) k = absurd (omega (arith, k.number, k.low, z))
