-- Laws for the small functions.
use Prim.Native.Nat.{ℕ, zero, suc, ◌+◌, ◌-◌, ◌*◌, ◌<◌}
use mathlib.Core.Path.{◌≡◌, refl, sym, ap, ◌∙◌}
use mathlib.Core.Bool.{Bool, true, false}
use mathlib.Core.List.{List}
use native.Mathlib.Decide.{dec_lt}
use native.Mathlib.Numerals.{add-one}
use native.Mathlib.Omega.{arith}
use lib.Dec.{ltb}
use lib.ListN.{get_or}
use borrow.Author.Tests.{lt-ltb, le-ltb, eq-eqb, ne_eqb}
use Rattle.texts.proofs.Bool.{never, or_true}
use Rattle.checker_result.specs.Statuses.{is_violation_m}
use Rattle.bounds.specs.Bounds.{at_most}
use Rattle.checker_result.specs.declared.Status.{Status}
use Rattle.checker_result.specs.declared.Status.TheVariants as status
use Rattle.reduce.specs.declared.Reduced.{Reduced}
use Rattle.reduce.specs.Promises.{among, violates_m, Stops, passed, GoesOn, Tried}

-- ---- the target among the violations

module _ (l : List ℕ) (t : ℕ) where
  pub among_none : among l 0 t ≡ false
  unfolding among
  among_none = refl

  pub among_hit : (n k : ℕ) → k < n → get_or l (k * 8) 0 ≡ t → among l n t ≡ true
  unfolding among
  among_hit zero k h e = absurd (omega arith)
  among_hit (suc n) k h e = elim (dec_lt k n) [
    | yes o ↦ rw (among_hit n k o e)
    | no o ↦
        let z : n ≡ k = omega arith in
        rw (eq-eqb (get_or l (n * 8) 0) t (ap (λ (j : ℕ). get_or l (j * 8) 0) z ∙ e)) (or_true (among l n t))
  ]

  pub among_miss : (k : ℕ) → among l k t ≡ false → (get_or l (k * 8) 0 ≡ t → ⊥) → among l (k + 1) t ≡ false
  unfolding among
  among_miss k h e = rw (add-one k) (rw (h, ne_eqb (get_or l (k * 8) 0) t e))

-- ---- a check that violates the target

module _ (s : Status) (v : ℕ) (l : List ℕ) (t : ℕ) where
  pub not_so : {b : Bool} → b ≡ is_violation_m s → b ≡ false → false ≡ violates_m s v l t
  unfolding violates_m
  not_so e z = rw (← e, z)

  pub is_so : {b : Bool} → b ≡ is_violation_m s → b ≡ true → {n : ℕ} → n ≡ at_most v 32 → {r : Bool}
      → r ≡ among l n t →
      r ≡ violates_m s v l t
  unfolding violates_m
  is_so e z n h = h ∙ rw (← e, z, n)

-- ---- when the reduction stops

module _ (r : Reduced) where
  impossible : {A : Type 0} → true ≡ false → A
  impossible e = let z : ◌≡◌ {A = ℕ} 0 1 = cc in absurd (omega arith)

  pub stops : Stops r → GoesOn r false
  stops s = record { more = λ e. impossible (sym e); stop = λ e. s }

  pub goes : r.refused ≡ 0 → r.attempts < 200 → {b : Bool} → b ≡ ltb r.reached r.count → GoesOn r b
  goes a h {b} e = elim (dec_lt r.reached r.count) [
    | yes k ↦ record {
      more = λ z. record { accepted = a; attempts = h; inside = k };
      stop = λ z. impossible (sym (lt-ltb r.reached r.count k) ∙ sym e ∙ z);
    }
    | no k ↦ record {
      more = λ z. impossible (sym z ∙ e ∙ le-ltb r.reached r.count (omega arith));
      stop = λ z. passed a (omega arith);
    }
  ]

-- ---- after an attempt

module _ {r : Reduced} {w : List ℕ} {n : ℕ} {b : Bool} where
  pub tried_full : (n ≡ 0 → ⊥) →
      Tried r w n b (record {
        refused = n;
        count = r.count;
        words = r.words;
        attempts = r.attempts + 1;
        reached =
            r.reached;
      })
  tried_full z = record { full = λ y. refl; kept = λ y. absurd (z y); passed = λ y. absurd (z y) }

  pub tried_kept : n ≡ 0 → b ≡ true →
      Tried r w n b (record { refused = 0; count = r.count - 1; words = w; attempts = r.attempts + 1; reached = 0 })
  tried_kept z e = record { full = λ y. absurd (y z); kept = λ y k. refl; passed = λ y k. never e k }

  pub tried_passed : n ≡ 0 → b ≡ false →
      Tried r w n b (record {
        refused = 0;
        count = r.count;
        words = r.words;
        attempts = r.attempts + 1;
        reached =
            r.reached + 1;
      })
  tried_passed z e = record { full = λ y. absurd (y z); kept = λ y k. never k e; passed = λ y k. refl }
