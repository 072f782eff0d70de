-- Laws for the functions of the entry.
use Prim.Native.Nat.{ℕ}
use mathlib.Core.Path.{◌≡◌, refl, sym, ap, subst, ◌∙◌}
use mathlib.Core.List.{List}
use native.Mathlib.Omega.{arith}
use Rattle.engine_summary.specs.declared.Summary.{Summary}
use Rattle.engine_spec.specs.Memory.{Lent}
use Rattle.engine_summary.specs.Summary.{simulation_of}
use Rattle.engine_entry.specs.Prepared.{Prepared, prepared_of}
use Rattle.engine_entry.specs.Promises.{Ran}
use Rattle.checker_result.specs.declared.Status.TheVariants as status
use Rattle.checker_result.specs.declared.CheckResult.{CheckResult}
use Rattle.checker_result.specs.declared.Judgement.{Judgement}
use Rattle.checker_result.specs.declared.Shared.{Shared}
use Rattle.checker_result.specs.Result.{result_of}
use Rattle.checker_entry.specs.Contract.{Checks}
use Rattle.checker_result.specs.Verdicts.{Judged}
use Rattle.checker_entry.specs.Promises.{Checked, Whole}

-- ---- a check with given events

module _ {f x starts w : List ℕ} {h : Shared} {events : List ℕ} {n : ℕ} {s : Summary} {told v us ws : List ℕ}
    {q q' a a' u u' : List ℕ}
    (ran : Ran f (prepared_of x h.cells h.notes w) events n (simulation_of s told) q q' a a' u u') where
  pub checked_full : (s.refused ≡ 0 → ⊥) →
      Checked f starts h.invariants (prepared_of x h.cells h.notes w) events n
      (result_of (record {
        status = status.Refused s.refused;
        violations = 0;
        unknown = 0;
        incomplete = 0;
        simulation = s;
      }) v us ws told) q q' a a' u u'
  checked_full z = record {
    sized = record { few_unknown = omega arith; few_incomplete = omega arith };
    ran = ran;
    done = λ y. absurd (z y);
    full = λ y. refl;
  }

  pub checked_done : s.refused ≡ 0 → {r : Judgement} → Judged f x starts h a' s r told v us ws →
      Checked f starts h.invariants (prepared_of x h.cells h.notes w) events n (result_of r v us ws told)
      q q' a a' u u'
  checked_done z {r} j =
      let y = j.verdict in
      record {
        sized = record { few_unknown = y.few_unknown; few_incomplete = y.few_incomplete };
        ran = subst (λ (k : Summary). Ran f (prepared_of x h.cells h.notes w) events n (simulation_of k told)
            q q' a a' u u') (sym j.simulation) ran;
        done = λ k. y;
        full = λ k. absurd (k (ap (λ (i : Summary). i.refused) j.simulation ∙ z));
      }

-- ---- the answer as one value

pub whole_as : {f starts : List ℕ} {many : ℕ} {g : Prepared} {events : List ℕ} {n : ℕ} {r s : CheckResult}
    {q q' a a' u u' : List ℕ} → r ≡ s →
    Whole f starts many g events n s q q' a a' u u' → Whole f starts many g events n r q q' a a' u u'
whole_as {f} {starts} {many} {g} {events} {n} {r} {s} {q} {q'} {a} {a'} {u} {u'} e h =
    subst (λ (y : CheckResult). Whole f starts many g events n y q q' a a' u u') (sym e) h

pub checks_as : {f : List ℕ} {r s : CheckResult} {before after : Lent} → r ≡ s → Checks f s before after →
    Checks f r before after
checks_as {f} {r} {s} {before} {after} e h = subst (λ (y : CheckResult). Checks f y before after) (sym e) h
