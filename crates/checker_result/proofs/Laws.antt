-- Laws for the verdict and its lists.
use Prim.Native.Nat.{ℕ, ◌+◌, ◌*◌, ◌≤◌}
use mathlib.Core.Path.{◌≡◌, refl, sym, ap, subst, ◌∙◌}
use mathlib.Core.Bool.{Bool, true, false}
use mathlib.Core.List.{List, [], ◌∷◌, map}
use native.Mathlib.Omega.{arith}
use lib.ListN.{length, replicate, length-replicate}
use borrow.Author.Tests.{eq-eqb, ne_eqb}
use Rattle.layout.specs.Sizes.{
  incomplete_reason_words,
  simulation_reason_words,
  simulation_reasons,
  verdict_reason_words,
  violation_numbers,
}
use Rattle.bounds.specs.Bounds.{AtMost}
use Rattle.texts.specs.Texts.{insert_t}
use Rattle.areas.proofs.Laws as areas
use Rattle.reasons.specs.Kinds as kinds
use Rattle.reasons.specs.Kinds.{NoText}
use Rattle.reasons.specs.Readable.{Readable}
use Rattle.reasons.specs.Lists.{reasons, listed, insert_all, Clean, Holds, Grows}
use Rattle.reasons.specs.Reasons.{render}
use Rattle.reasons.specs.declared.Reason.{Reason}
use Rattle.reasons.proofs.Listing as listing
use Rattle.reasons.proofs.Listing.{grows_none, grown}
use Rattle.reasons.proofs.Cleaning.{zeros, holds_zeros}
use Rattle.engine_fields.specs.Fields.{alone}
use Rattle.engine_fields.proofs.Readable.{alone_readable}
use Rattle.engine_summary.specs.declared.Simulation.{Simulation}
use Rattle.engine_summary.specs.declared.Summary.{Summary}
use Rattle.engine_summary.specs.Summary.{no_simulation, simulation_of}
use Rattle.checker_collect.specs.declared.Counts.{Counts}
use Rattle.checker_collect.specs.Collect.{broken_m, GathersAll}
use Rattle.checker_collect.proofs.Laws.{all_many}
use Rattle.checker_result.specs.declared.Status.{Status}
use Rattle.checker_result.specs.declared.Status.TheVariants as status
use Rattle.checker_result.specs.declared.CheckResult.{CheckResult}
use Rattle.checker_result.specs.declared.Judgement.{Judgement}
use Rattle.checker_result.specs.declared.Shared.{Shared}
use Rattle.checker_result.specs.Result.{no_check, result_of}
use Rattle.checker_result.specs.Verdicts.{Fits, status_m, stopped_m, left_m, Starts, Ends, start_m, Judged, Answered}

-- ---- the status

module _ (t : Counts) where
  pub status_unknown : (t.unknown ≡ 0 → ⊥) → status.Unknown ≡ status_m t
  unfolding status_m
  status_unknown z = rw (ne_eqb t.unknown 0 z)

  pub status_violation : t.unknown ≡ 0 → (t.violations ≡ 0 → ⊥) → status.Violation ≡ status_m t
  unfolding status_m
  status_violation a z = rw (eq-eqb t.unknown 0 a, ne_eqb t.violations 0 z)

  pub status_incomplete : t.unknown ≡ 0 → t.violations ≡ 0 → (t.incomplete ≡ 0 → ⊥) → status.Incomplete ≡ status_m t
  unfolding status_m
  status_incomplete a b z = rw (eq-eqb t.unknown 0 a, eq-eqb t.violations 0 b, ne_eqb t.incomplete 0 z)

  pub status_none : t.unknown ≡ 0 → t.violations ≡ 0 → t.incomplete ≡ 0 → status.NoViolationInTrace ≡ status_m t
  unfolding status_m
  status_none a b c = rw (eq-eqb t.unknown 0 a, eq-eqb t.violations 0 b, eq-eqb t.incomplete 0 c)

pub refused_is : (n : ℕ) {s : Simulation} → s ≡ no_simulation n →
    record {
      status = status.Refused n;
      violations = 0;
      violated = replicate violation_numbers 0;
      unknown = 0;
      unknowns = replicate verdict_reason_words 0;
      incomplete = 0;
      incompletes = replicate incomplete_reason_words 0;
      simulation = s;
    } ≡ no_check n
unfolding no_check
refused_is n e = rw e

-- ---- the simulation's own reasons

-- room for one more
pub insert_room : (f a : List ℕ) (n : ℕ) (r : Reason) → n * 5 + 5 ≤ length a →
    length (insert_t (render f r) (listed f n a)) * 5 ≤ length a
insert_room f a n r h = omega (arith, h, listing.one_more (render f r) (listed f n a), listing.length_listed f n a)

module _ (f : List ℕ) (why : ℕ) where
  pub starts_none : why ≡ 0 → (w : List ℕ) → Starts f why w 0 w
  unfolding stopped_m insert_all
  starts_none z w = record { most = omega arith; grows = rw (eq-eqb why 0 z) (grows_none f refl) }

  starts_one : (w w' : List ℕ) (k : ℕ) {r : Reason} {y : ℕ} → stopped_m why ≡ r ∷ [] → r ≡ alone y → NoText y →
      Grows f (Readable f r) (insert_t (render f r) (listed f 0 w)) 0 w k w' → Starts f why w k w'
  unfolding insert_all
  starts_one w w' k {r} e a o h = record {
    most = omega (arith, h.many, listing.one_more (render f r) (listed f 0 w), listing.length_listed f 0 w);
    grows = rw e (record { many = h.many; texts = h.texts; clean = λ u c. h.clean (alone_readable a o) c });
  }

  pub starts_space : (why ≡ 0 → ⊥) → why ≡ 1 → {r : Reason} → r ≡ alone kinds.space_spent → (w w' : List ℕ) {k : ℕ} →
      Grows f (Readable f r) (insert_t (render f r) (listed f 0 w)) 0 w k w' → Starts f why w k w'
  unfolding stopped_m
  starts_space z o {r} e w w' {k} h =
      starts_one w w' k (rw (ne_eqb why 0 z, eq-eqb why 1 o, e)) e (record { known = omega arith; is = refl }) h

  pub starts_steps : (why ≡ 0 → ⊥) → (why ≡ 1 → ⊥) → {r : Reason} → r ≡ alone kinds.steps_spent → (w w' : List ℕ) {k : ℕ} →
      Grows f (Readable f r) (insert_t (render f r) (listed f 0 w)) 0 w k w' → Starts f why w k w'
  unfolding stopped_m
  starts_steps z o {r} e w w' {k} h =
      starts_one w w' k (rw (ne_eqb why 0 z, ne_eqb why 1 o, e)) e (record { known = omega arith; is = refl }) h

module _ (f : List ℕ) (n : ℕ) (w : List ℕ) where
  pub ends_none : {b : Bool} → b ≡ false → Ends f b n w n w
  unfolding left_m insert_all
  ends_none e = record { most = omega arith; grows = rw e (grows_none f refl) }

  pub ends_one : {b : Bool} → b ≡ true → {r : Reason} → r ≡ alone kinds.runs_left → {w' : List ℕ} {k : ℕ} →
      Grows f (Readable f r) (insert_t (render f r) (listed f n w)) n w k w' → Ends f b n w k w'
  unfolding left_m insert_all
  ends_one e {r} a {w'} {k} h = record {
    most = omega (arith, h.many, listing.one_more (render f r) (listed f n w), listing.length_listed f n w);
    grows = rw e
        (rw (← a) (record {
          many = h.many;
          texts = h.texts;
          clean =
              λ u c. h.clean (alone_readable a (record { known = omega arith; is = refl })) c;
        }));
  }

-- ---- the verdict

module _ (f : List ℕ) (m : ℕ) (b a : List ℕ) where
  merged_few : length (insert_all (listed f m b) (listed f 0 a)) ≤ m
  unfolding reasons
  merged_few = omega (arith, all_many (listed f m b) [], listing.length_listed f m b)

  pub merge_room : m ≤ simulation_reasons → length b ≡ simulation_reason_words → length a ≡ verdict_reason_words →
      (m * 5 ≤ length b) × (length (insert_all (listed f m b) (listed f 0 a)) * 5 ≤ length a)
  merge_room h lb la = (omega (arith, h, lb), omega (arith, h, la, merged_few))

  pub merged_most : m ≤ simulation_reasons → {k : ℕ} {R : Type 0} {a' : List ℕ} →
      Grows f R (insert_all (listed f m b) (listed f 0 a)) 0 a k a' → k ≤ simulation_reasons
  merged_most h e = omega (arith, h, e.many, merged_few)

module _ {f x starts : List ℕ} {h : Shared} {a : List ℕ} (s : Summary) {told : List ℕ} where
  pub judged_is : {many : ℕ} → AtMost s.unknown simulation_reasons many → {u₁ : List ℕ} {k : ℕ} →
      Grows f (Clean f many told) (insert_all (listed f many told) (listed f 0 (replicate verdict_reason_words 0))) 0
      (replicate verdict_reason_words 0)
      k u₁ →
      {w₁ w₂ : List ℕ} {j i : ℕ} → Starts f s.stop_reason (replicate incomplete_reason_words 0) j w₁ →
      Ends f s.runs_left j w₁ i w₂ →
      {n : ℕ} → Fits s.records (length a) n →
      {t : Counts} {v' u₂ w₃ : List ℕ} → GathersAll f x starts h.invariants h.cells a n
      (record { violations = 0; unknown = k; incomplete = i }) t (replicate violation_numbers 0) v' u₁ u₂ w₂ w₃ →
      {y : Status} → y ≡ status_m t →
      Judged f x starts h a s (record {
        status = y;
        violations = t.violations;
        unknown = t.unknown;
        incomplete =
            t.incomplete;
        simulation = s;
      }) told v' u₂ w₃
  unfolding start_m reasons
  judged_is {many} few {u₁} {k} merged {w₁} {w₂} {j} {i} st en {n} fi {t} {v'} {u₂} {w₃} all {y} e = record {
    simulation = refl;
    verdict = record {
      status_is = e;
      long = all.long_v ∙ length-replicate {A = ℕ} violation_numbers 0;
      few_unknown = omega (
        arith,
        all.most_unknown,
        merged_most f many told (replicate verdict_reason_words 0) few.most merged,
      );
      few_incomplete = omega (arith, all.most_incomplete, st.most, en.most);
      holds = λ ok clean l long roomy rep. all.does l (long ∙ sym (fi.same roomy)) rep (start_m f (simulation_of s told))
          (record {
            violations = sym (areas.area_none broken_m violation_numbers)
                ∙ ap (λ (q : ℕ). Rattle.areas.specs.Areas.area broken_m q [])
                (sym (length-replicate {A = ℕ} violation_numbers 0));
            many = refl;
            unknown = subst (λ (q : ℕ). Holds f (insert_all (listed f q told) []) k u₁) (few.same ok)
                (grown f (insert_all (listed f many told)) merged
                (λ h. subst (λ (q : ℕ). Clean f q told) (sym (few.same ok)) (clean h))
                (holds_zeros f (zeros verdict_reason_words)));
            incomplete = grown f (insert_all (map (render f) (left_m s.runs_left))) en.grows (λ h. tt)
                (grown f (insert_all (map (render f) (stopped_m s.stop_reason))) st.grows (λ h. tt)
                (holds_zeros f (zeros incomplete_reason_words)));
          });
    };
  }

-- ---- a check with given events

pub settled_full : {c r : CheckResult} → (c.simulation.refused ≡ 0 → ⊥) → r ≡ no_check c.simulation.refused →
    Answered c r
settled_full z e = record { done = λ y. absurd (z y); full = λ y. e }

pub settled_done : {c : CheckResult} → c.simulation.refused ≡ 0 → Answered c c
settled_done z = record { done = λ y. refl; full = λ y. absurd (y z) }

-- ---- the answer as one value

pub with_lists_is : (j : Judgement) {v us ws w : List ℕ} {s : Simulation} → s ≡ simulation_of j.simulation w →
    record {
      status = j.status;
      violations = j.violations;
      violated = v;
      unknown = j.unknown;
      unknowns = us;
      incomplete =
          j.incomplete;
      incompletes = ws;
      simulation = s;
    } ≡ result_of j v us ws w
with_lists_is j {v} {us} {ws} e =
    ap (λ (s : Simulation). record {
      status = j.status;
      violations = j.violations;
      violated = v;
      unknown = j.unknown;
      unknowns = us;
      incomplete = j.incomplete;
      incompletes = ws;
      simulation = s;
    }) e
