-- What the code finds of a check is what the definition finds: a violation's first number is the place of the identifier.
use Prim.Native.Nat.{ℕ, zero, suc, ◌+◌, ◌*◌, ◌≤◌, ◌<◌}
use mathlib.Core.Path.{◌≡◌, refl, sym, ap, subst, ◌∙◌}
use mathlib.Core.Bool.{Bool, true, false, ◌||◌}
use mathlib.Core.List.{List, [], ◌∷◌, ◌++◌}
use mathlib.Core.Option.{Option, none, some}
use native.Mathlib.Omega.{arith}
use lib.Dec.{eqb}
use lib.ListN.{length, get_or, take, length-append}
use lib.Seq.{take-suc, take_all}
use borrow.Author.Tests.{le-leb}
use Rattle.checker_result.specs.Statuses.{is_violation_m}
use Rattle.bounds.specs.Bounds.{at_most}
use Rattle.texts.specs.Lists.{is_empty, any, flat}
use Rattle.texts.specs.Texts.{Text, eq_t}
use Rattle.areas.specs.Areas.{area}
use Rattle.areas.proofs.Laws as areas
use Rattle.model_spec.specs.Answer.{Answer, answer, refused, ◌>>=◌}
use Rattle.model_spec.specs.Model.{Source, Event, Invariant, id_of, Model}
use Rattle.model_spec.specs.Rewrite.{place_of}
use Rattle.model_spec.specs.Validate.{accepted}
use Rattle.model_index.specs.declared.Index.{Index}
use Rattle.model_index.specs.Indexed.{Indexed}
use Rattle.engine_spec.specs.Cells.{Cell, initial_cells}
use Rattle.engine_spec.specs.Records.{Areas}
use Rattle.engine_spec.specs.Simulate as engine
use Rattle.engine_spec.specs.Simulate.{simulated}
use Rattle.engine_spec.specs.Words.{source_words, texts_in}
use Rattle.engine_spec.proofs.Distinct.{refused_answer}
use Rattle.engine_spec.proofs.Lists.{Each}
use Rattle.engine_refinement.specs.Meaning.{Tabled}
use Rattle.engine_refinement.proofs.Accepted.{accepted_lawful}
use Rattle.engine_refinement.proofs.Lists.{each_get_d}
use Rattle.engine_refinement.proofs.Words.{text_place}
use Rattle.checker_spec.specs.Check.{Violation, Status, status_of, violation_of, judged, checked, Check}
use Rattle.checker_spec.specs.Check as check
use Rattle.checker_spec.specs.Judge.{
  read_all,
  Failure,
  Failing,
  prohibited_state,
  guard_violated,
  forbidden_transition,
  deadline_missed,
}
use Rattle.checker_spec.specs.Minimize.{violates}
use Rattle.checker_result.specs.declared.CheckResult.{CheckResult}
use Rattle.checker_entry.specs.Contract.{status_as, failure_words, violation_words, Shows}
use Rattle.checker_entry.proofs.Judged.{named}
use Rattle.reduce.specs.Promises.{among, violates_m}

-- ---- lists

any_end : {A : Type 0} (p : A → Bool) (l : List A) (x : A) → any p (l ++ x ∷ []) ≡ (any p l || p x)
unfolding any
any_end p [] x = by (p x)
  where
    by : (b : Bool) → (b || false) ≡ b
    by true = refl
    by false = refl
any_end p (y ∷ l) x = by (p y) (any_end p l x)
  where
    by : (b : Bool) → any p (l ++ x ∷ []) ≡ (any p l || p x) → (b || any p (l ++ x ∷ [])) ≡ ((b || any p l) || p x)
    by true e = refl
    by false e = e

each_of : {A : Type 0} (P : A → Type 0) (d : A) (l : List A) → ((k : ℕ) → k < length l → P (get_or l k d)) → Each P l
each_of P d [] h = tt
each_of P d (x ∷ l) h = (h 0 (omega arith), each_of P d l (λ k o. h (suc k) (omega arith)))

-- ---- a violation's eight numbers

failure_sized : (y : Failure) → length (failure_words y) ≡ 2
failure_sized prohibited_state = refl
failure_sized guard_violated = refl
failure_sized forbidden_transition = refl
failure_sized (deadline_missed d) = refl

source_sized : (s : Option Source) → length (source_words s) ≡ 3
unfolding source_words
source_sized none = refl
source_sized (some s) = refl

sized : (ts : List Text) (v : Violation) → length (violation_words ts v) ≡ 8
unfolding violation_words
sized ts v =
    omega (
      arith,
      length-append (failure_words v.failure) (source_words v.source),
      failure_sized v.failure,
      source_sized v.source,
    )

first_number : (ts : List Text) (v : Violation) → get_or (violation_words ts v) 0 0 ≡ place_of v.invariant ts
unfolding violation_words
first_number ts v = refl

pub none_such : Violation
none_such = record { invariant = []; at = 0; index = 0; source = none; failure = prohibited_state }

number_at : (ts : List Text) (vs : List Violation) (k : ℕ) → k < length vs →
    get_or (area (violation_words ts) 256 vs) (k * 8) 0 ≡ place_of (get_or vs k none_such).invariant ts
number_at ts vs k h =
    let z : k * 8 ≡ k * 8 + 0 = omega arith in
    ap (λ (j : ℕ). get_or (area (violation_words ts) 256 vs) j 0) z
    ∙ areas.word_is (violation_words ts) 8 (sized ts) 256 vs k 0 none_such h (omega arith)
    ∙ first_number ts (get_or vs k none_such)

-- ---- the definition's check

-- one of these texts
abbrev pub In : List Text → Text → Type 0
In ts t = (k : ℕ) × ((k < length ts) × (t ≡ get_or ts k []))

module _ (ts : List Text) (g : Invariant → Option Failing) where
  flat_in : (is : List Invariant) → Each (λ (i : Invariant). In ts (id_of i)) is →
      Each (λ (v : Violation). In ts v.invariant) (flat (λ (i : Invariant). violation_of i (g i)) is)
  unfolding flat violation_of
  flat_in [] h = tt
  flat_in (i ∷ is) h = by (g i) (flat_in is h.1)
    where
      by : (y : Option Failing) → Each (λ (v : Violation). In ts v.invariant)
          (flat (λ (i : Invariant). violation_of i (g i)) is) →
          Each (λ (v : Violation). In ts v.invariant)
          (violation_of i y ++ flat (λ (i : Invariant). violation_of i (g i)) is)
      by none r = r
      by (some y) r = (h.0, r)

  flat_few : (is : List Invariant) → length (flat (λ (i : Invariant). violation_of i (g i)) is) ≤ length is
  unfolding flat violation_of
  flat_few [] = omega arith
  flat_few (i ∷ is) = by (g i) (flat_few is)
    where
      by : (y : Option Failing) → length (flat (λ (i : Invariant). violation_of i (g i)) is) ≤ length is →
          length (violation_of i y ++ flat (λ (i : Invariant). violation_of i (g i)) is) ≤ suc (length is)
      by none r = omega arith
      by (some y) r = omega arith

-- a violation is one of something
status_some : (vs : List Violation) (us ws : List Text) → check.is_violation (status_of vs us ws) ≡ true → 1 ≤ length vs
unfolding status_of check.is_violation is_empty
status_some vs (u ∷ us) ws e = let z : ◌≡◌ {A = ℕ} 0 1 = cc in omega arith
status_some (v ∷ vs) [] ws e = omega arith
status_some [] [] (w ∷ ws) e = let z : ◌≡◌ {A = ℕ} 0 1 = cc in omega arith
status_some [] [] [] e = let z : ◌≡◌ {A = ℕ} 0 1 = cc in omega arith

module _ (f x : List ℕ) (i : Index) (m : Model) (acc : accepted f ≡ answer m) (o : Indexed f i m)
    (tb : Tabled f x o.ts m) where
  abbrev ts : List Text
  ts = o.ts

  abbrev is : List Invariant
  is = m.scenario.invariants

  abbrev cells : List Cell
  cells = initial_cells m.scenario.entities

  few : length is ≤ 32
  few = (accepted_lawful f m acc).few_invariants

  identifiers : Each (λ (y : Invariant). In ts (id_of y)) is
  identifiers = each_of (λ (y : Invariant). In ts (id_of y)) d is at
    where
      d : Invariant
      d = Rattle.model_spec.specs.Model.never [] []

      at : (k : ℕ) → k < length is → In ts (id_of (get_or is k d))
      at k h =
          let n = named f x ts m tb (get_or i.invariants.starts k 0) (get_or is k d)
          (o.invariants.stand d k (omega (arith, h, few)) h) in
          (_, (n.place_in, n.is))

  -- what every check of the model has
  pub record Fair (c : Check) : Type 0 where
    pub identified : Each (λ (v : Violation). In ts v.invariant) c.violations
    pub few_violations : length c.violations ≤ 32
    pub some_violation : check.is_violation c.status ≡ true → 1 ≤ length c.violations

  judged_fair : (sim : engine.Simulation) → Fair (judged is cells sim)
  unfolding judged
  judged_fair sim = record {
    identified = flat_in ts (λ (y : Invariant). (read_all y cells sim.trace).failing) is identifiers;
    few_violations = omega (arith, flat_few ts (λ (y : Invariant). (read_all y cells sim.trace).failing) is, few);
    some_violation = status_some (judged is cells sim).violations (judged is cells sim).unknown
        (judged is cells sim).incomplete;
  }

  pub checked_fair : (areas : Areas) (vs : List Event) (c : Check) → checked areas m cells vs ≡ answer c → Fair c
  unfolding checked ◌>>=◌
  checked_fair areas vs c e = by (simulated areas m cells vs) e
    where
      by : (a : Answer engine.Simulation) → (a >>= λ sim. answer (judged is cells sim)) ≡ answer c → Fair c
      by (answer sim) h = let z : judged is cells sim ≡ c = cc in subst Fair z (judged_fair sim)
      by (refused n) h = absurd (refused_answer h)

  -- ---- places compare as texts do

  place_same : (t : Text) → In ts t → (target : ℕ) → target < length ts
      → eqb (place_of t ts) target ≡ eq_t t (get_or ts target [])
  place_same t (k, (h, e)) target l =
      let p : place_of t ts ≡ k = ap (λ (u : Text). place_of u ts) e ∙ text_place f x ts m tb k h in
      ap (λ (j : ℕ). eqb j target) p ∙ sym (ap (λ (u : Text). eq_t u (get_or ts target [])) e ∙ tb.same k target h l)

  among_is : (vs : List Violation) → Each (λ (v : Violation). In ts v.invariant) vs → (target : ℕ)
      → target < length ts → (k : ℕ) → k ≤ length vs →
      among (area (violation_words ts) 256 vs) k target
      ≡ any (λ (v : Violation). eq_t v.invariant (get_or ts target [])) (take k vs)
  unfolding among any
  among_is vs h target l zero g = refl
  among_is vs h target l (suc k) g =
      let p : Violation → Bool = λ (v : Violation). eq_t v.invariant (get_or ts target []) in
      let y = get_or vs k none_such in
      let e : eqb (get_or (area (violation_words ts) 256 vs) (k * 8) 0) target
      ≡ p y = ap (λ (j : ℕ). eqb j target) (number_at ts vs k g)
      ∙ place_same y.invariant (each_get_d (λ (v : Violation). In ts v.invariant) vs k none_such g h) target l in
      rw (among_is vs h target l k (omega arith), e, take-suc vs k none_such g) (sym (any_end p (take k vs) y))

  status_same : (s : Status) → is_violation_m (status_as s) ≡ check.is_violation s
  unfolding check.is_violation
  status_same Status.unknown = refl
  status_same Status.violation = refl
  status_same Status.incomplete = refl
  status_same check.no_violation_in_trace = refl

  module _ (here : texts_in f ≡ ts) (r : CheckResult) (c : Check) (shows : Shows f r c) (fair : Fair c) where
    violated_here : r.violated ≡ area (violation_words ts) 256 c.violations
    violated_here = shows.violated ∙ ap (λ (l : List Text). area (violation_words l) 256 c.violations) here

    pub violates_is : (target : ℕ) → target < length ts →
        violates_m r.status r.violations r.violated target ≡ violates (get_or ts target []) c
    unfolding violates_m violates at_most
    violates_is target l =
        let n = length c.violations in
        rw (
          shows.status_is,
          status_same c.status,
          violated_here,
          shows.violations,
          le-leb n 32 fair.few_violations,
          among_is c.violations fair.identified target l n (omega arith),
          take_all n c.violations (omega arith),
        )

    -- the code and the definition tell a violation
    pub violation_is : is_violation_m r.status ≡ check.is_violation c.status
    violation_is = ap is_violation_m shows.status_is ∙ status_same c.status

    -- the first number is the place of the first violation's identifier
    pub record Target (t : Text) : Type 0 where
      pub inside : get_or r.violated 0 0 < length ts
      pub is_text : t ≡ get_or ts (get_or r.violated 0 0) []
      pub place : get_or r.violated 0 0 ≡ place_of t ts

    pub target_is : 1 ≤ length c.violations → Target (get_or c.violations 0 none_such).invariant
    target_is h =
        let t = (get_or c.violations 0 none_such).invariant in
        let k = each_get_d (λ (v : Violation). In ts v.invariant) c.violations 0 none_such h fair.identified in
        let n : get_or r.violated 0 0 ≡ place_of t ts = ap (λ (l : List ℕ). get_or l 0 0) violated_here
        ∙ number_at ts c.violations 0 h in
        let e : get_or r.violated 0 0 ≡ k.0 = n ∙ ap (λ (u : Text). place_of u ts) k.1.1
        ∙ text_place f x ts m tb k.0 k.1.0 in
        record {
          inside = subst (λ (j : ℕ). j < length ts) (sym e) k.1.0;
          is_text = k.1.1 ∙ ap (λ (j : ℕ). get_or ts j []) (sym e);
          place = n;
        }
