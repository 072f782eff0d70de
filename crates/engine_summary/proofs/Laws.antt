-- Laws for the answer's parts.
use Prim.Native.Nat.{ℕ, zero, suc, ◌+◌, ◌<◌}
use mathlib.Core.Path.{◌≡◌, refl, ◌∙◌}
use mathlib.Core.List.{List}
use native.Mathlib.Omega.{arith}
use lib.ListN.{get_or, set, replicate, length-replicate, length-set}
use lib.Seq.{get_or-set_other}
use Rattle.engine_table.proofs.Laws.{one_more}
use Rattle.engine_summary.specs.declared.Simulation.{Simulation}
use Rattle.engine_summary.specs.declared.Summary.{Summary}
use Rattle.engine_summary.specs.Summary.{no_simulation, simulation_of}
use Rattle.engine_summary.specs.Summaries.{Firsts, Summed, Answered}
use Rattle.engine_run.specs.declared.Simulation.{Simulation as Run}

-- ---- the first values

pub zeros : (n e : ℕ) → ◌≡◌ {A = ℕ} (get_or (replicate n 0) e 0) 0
zeros zero e = refl
zeros (suc n) zero = refl
zeros (suc n) (suc e) = zeros n e

module _ (vs : List ℕ) where
  pub firsts_none : Firsts vs 0 (replicate 32 0)
  firsts_none = record {
    long = length-replicate {A = ℕ} 32 0;
    first = λ e h. absurd (omega arith);
    rest =
        λ e h k. zeros 32 e;
  }

  pub firsts_more : (a : List ℕ) (n v : ℕ) → Firsts vs n a → n < 32 → v ≡ get_or vs n 0 → Firsts vs (n + 1) (set a n v)
  firsts_more a n v f h is = record {
    long = length-set a n v ∙ f.long;
    first = one_more (λ (j : ℕ). get_or vs j 0) a n v f.first (omega (arith, f.long)) is;
    rest = λ e k o. get_or-set_other a n e v 0 (λ z. absurd (omega arith)) ∙ f.rest e (omega arith) o;
  }

-- ---- the answer

pub summed_so : (s : Run) (n h : ℕ) (vs : List ℕ) → Firsts s.values n vs →
    Summed s n h (record {
      refused = s.refused;
      steps = s.steps;
      records = s.records;
      horizon = h;
      values = vs;
      unknown =
          s.reasons;
      stop_reason = s.stop_reason;
      runs_left = s.runs_left;
    })
summed_so s n h vs f u = record {
  done = λ y. record {
    accepted = y;
    steps = refl;
    records = refl;
    horizon = refl;
    values = f;
    unknown = refl;
    reasons =
        refl;
    stop_reason = refl;
    runs_left = refl;
  };
  full = λ y. refl;
}

module _ (s : Summary) (u : List ℕ) where
  pub settled_full : (s.refused ≡ 0 → ⊥) → (r : Simulation) → r ≡ no_simulation s.refused →
      Answered (simulation_of s u) r
  settled_full z r e = record { done = λ y. absurd (z y); full = λ y. e }

  pub settled_done : s.refused ≡ 0 → Answered (simulation_of s u) (simulation_of s u)
  settled_done z = record { done = λ y. refl; full = λ y. absurd (y z) }
