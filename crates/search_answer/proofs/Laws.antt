-- Laws for the parts of the answer.
use Prim.Native.Nat.{ℕ, ◌*◌, ◌≤◌}
use mathlib.Core.Path.{◌≡◌, sym, ap, subst}
use mathlib.Core.Bool.{Bool, true, false}
use mathlib.Core.List.{List, []}
use native.Mathlib.Omega.{arith}
use lib.ListN.{length, replicate}
use borrow.Author.Tests.{eq-eqb, ne_eqb}
use Rattle.layout.specs.Sizes.{verdict_reason_words, verdict_reasons}
use Rattle.bounds.specs.Bounds.{AtMost}
use Rattle.reasons.specs.Readable.{HasText}
use Rattle.reasons.specs.Lists.{reasons, listed, insert_all, Clean, Holds, Grows}
use Rattle.reasons.proofs.Listing as listing
use Rattle.reasons.proofs.Listing.{grown}
use Rattle.reasons.proofs.Cleaning.{zeros, holds_zeros}
use Rattle.checker_collect.proofs.Laws.{all_many}
use Rattle.checker_result.specs.declared.CheckResult.{CheckResult}
use Rattle.checker_result.specs.Result.{no_check, result_of}
use Rattle.search_answer.specs.declared.Found.TheVariants as found
use Rattle.search_answer.specs.declared.Searched.{Searched}
use Rattle.search_answer.specs.Result.{whole_of, unverified, no_verification}
use Rattle.search_answer.specs.Answer.{status_m, WithCheck, without}

pub refused_is : (n : ℕ) {c : CheckResult} → c ≡ no_check 0 → unverified n c ≡ no_verification n
unfolding no_verification
refused_is n e = rw e

pub with_lists_is : (x : Searched) {t v us ws s : List ℕ} {c : CheckResult} → c ≡ result_of x.check v us ws s →
    record {
      status = x.status;
      cases = x.cases;
      total_steps = x.total_steps;
      depth = x.depth;
      horizon = x.horizon;
      max_cases = x.max_cases;
      max_steps_per_case = x.max_steps_per_case;
      alphabet = x.alphabet;
      inputs =
          x.inputs;
      gaps = x.gaps;
      seconds = x.seconds;
      reasons = x.reasons;
      told = t;
      shortest = x.shortest;
      events =
          x.events;
      words = x.words;
      written = x.written;
      check = c;
    }
    ≡ whole_of x t v us ws s
with_lists_is x {t} e =
    ap (λ (c : CheckResult). record {
      status = x.status;
      cases = x.cases;
      total_steps = x.total_steps;
      depth =
          x.depth;
      horizon = x.horizon;
      max_cases = x.max_cases;
      max_steps_per_case = x.max_steps_per_case;
      alphabet = x.alphabet;
      inputs = x.inputs;
      gaps = x.gaps;
      seconds = x.seconds;
      reasons = x.reasons;
      told = t;
      shortest = x.shortest;
      events = x.events;
      words = x.words;
      written = x.written;
      check = c;
    }) e

pub without_is : {c : CheckResult} → c ≡ no_check 0 → ◌≡◌ {A = WithCheck}
    (record { events = 0; words = replicate 20 0; written = 0; check = c }) without
unfolding without
without_is e = rw e

pub status_found : {b : Bool} (n : ℕ) → b ≡ true → found.Counterexample ≡ status_m b n
unfolding status_m
status_found n e = rw e

module _ {b : Bool} {n : ℕ} where
  pub status_none : b ≡ false → n ≡ 0 → found.NoCounterexampleWithinBounds ≡ status_m b n
  unfolding status_m
  status_none e z = rw (e, eq-eqb n 0 z)

  pub status_left : b ≡ false → (n ≡ 0 → ⊥) → found.Inconclusive ≡ status_m b n
  unfolding status_m
  status_left e z = rw (e, ne_eqb n 0 z)

-- ---- the reasons

pub told_room : (f b : List ℕ) (m : ℕ) (a : List ℕ) → m ≤ verdict_reasons → length b ≡ 4000 →
    length a ≡ verdict_reason_words →
    (m * 5 ≤ length b) × (length (insert_all (listed f m b) (listed f 0 a)) * 5 ≤ length a)
unfolding reasons
told_room f b m a h l k = (omega (arith, h, l), omega (arith, h, k, all_many (listed f m b) [], listing.length_listed f m b))

pub told_reasons : (f b : List ℕ) {a' : List ℕ} {n m r : ℕ} → AtMost n verdict_reasons m →
    Grows f (Clean f m b) (insert_all (listed f m b) (listed f 0 (replicate verdict_reason_words 0))) 0
    (replicate verdict_reason_words 0) r a' →
    n ≤ verdict_reasons → (HasText f → Clean f n b) → Holds f (insert_all (listed f n b) []) r a'
told_reasons f b {a'} {n} {m} {r} k h o c =
    subst (λ (j : ℕ). Holds f (insert_all (listed f j b) []) r a') (k.same o)
    (grown f (insert_all (listed f m b)) h (λ t. subst (λ (j : ℕ). Clean f j b) (sym (k.same o)) (c t))
    (holds_zeros f (zeros verdict_reason_words)))
