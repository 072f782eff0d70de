-- Demand 3 of what `check` returns: from the theorem over the definitions' answers, by the contract of `check`.
use Prim.Native.Nat.{ℕ, suc, ◌+◌, ◌*◌, ◌<◌}
use mathlib.Core.Path.{◌≡◌, refl, sym, ap, ◌∙◌, subst}
use mathlib.Core.List.{List, [], ◌∷◌, ◌++◌}
use mathlib.Core.Option.{Option, none, some}
use native.Mathlib.Omega.{arith}
use lib.ListN.{length, get_or}
use Rattle.texts.specs.Lists.{each, flat}
use Rattle.texts.specs.Texts.{Text}
use Rattle.areas.proofs.Laws as areas
use Rattle.model_spec.specs.Answer.{Answer, answer, refused}
use Rattle.model_spec.specs.Model.{Invariant, id_of, Model}
use Rattle.model_spec.specs.Validate.{accepted}
use Rattle.engine_spec.specs.Memory.{Lent, entries}
use Rattle.engine_spec.specs.Words.{texts_in, entry_words}
use Rattle.engine_spec.proofs.Lists.{Each}
use Rattle.engine_refinement.proofs.Lists.{each_length, each_get_d, each_at}
use Rattle.engine_entry.specs.Contract.{incomplete_of}
use Rattle.checker_spec.specs.Check.{Violation, violation_of, Check, check}
use Rattle.checker_spec.specs.Judge.{Failing, prohibited_state}
use Rattle.checker_result.specs.declared.CheckResult.{CheckResult}
use Rattle.checker_result.specs.Result.{no_check}
use Rattle.checker_entry.specs.Contract.{violation_words, Shows, Says, Checks}
use Rattle.cone_judge.specs.Reading.{Told, told, violation_told}
use Rattle.noninterference.specs.Alike.{Alike}
use Rattle.noninterference.specs.Demand.{reading_for}
use Rattle.noninterference.proofs.Demand.{demand3}
use Rattle.noninterference_returned.specs.Returned.{number_at, invariant_at, SameViolation, SameReturned, Complete}
use Rattle.noninterference_returned.proofs.Places.{In, at_place, invariant_in}
use Rattle.noninterference_returned.proofs.Numbers as numbers

-- ---- the invariants that a check's violations name are texts of the file

named : (P : Text → Type 0) (g : Invariant → Option Failing) (is : List Invariant) →
    ((d : Invariant) (k : ℕ) → k < length is → P (id_of (get_or is k d))) →
    Each (λ (v : Violation). P v.invariant) (flat (λ i. violation_of i (g i)) is)
unfolding flat
named P g [] h = tt
named P g (i ∷ is) h = by (g i) (named P g is (λ d k o. h d (suc k) (omega arith)))
  where
    by : (y : Option Failing) → Each (λ (v : Violation). P v.invariant) (flat (λ j. violation_of j (g j)) is) →
        Each (λ (v : Violation). P v.invariant) (violation_of i y ++ flat (λ j. violation_of j (g j)) is)
    by none r = unfold violation_of in r
    by (some f) r = unfold violation_of in (h i 0 (omega arith), r)

-- ---- one answer

-- the definition's check, which the answer shows
record Answered (f : List ℕ) (before : Lent) (r : CheckResult) : Type 0 where
  c : Check
  is : check (entries entry_words before) f ≡ answer c
  shows : Shows f r c

answered : (f : List ℕ) (r : CheckResult) (before after : Lent) → Checks f r before after → Complete r → Answered f before r
answered f r before after ch done = by (check (entries entry_words before) f) refl ch.says
  where
    by : (x : Answer Check) → check (entries entry_words before) f ≡ x → Says f r x → Answered f before r
    by (answer c) e s = record { c = c; is = e; shows = s }
    by (refused n) e s = absurd (done.answered n (ap (λ (y : CheckResult). y.status) s ∙ unfold no_check in refl))

complete : {f : List ℕ} {before : Lent} {r : CheckResult} → Complete r → (a : Answered f before r) →
    a.c.simulation.incomplete ≡ []
unfolding incomplete_of
complete done a = sym a.shows.simulation.incomplete ∙ rw (done.stopped, done.runs_left)

-- ---- two answers

abbrev nothing : Violation
nothing = record { invariant = []; at = 0; index = 0; source = none; failure = prohibited_state }

module _ (f f' : List ℕ) (r r' : CheckResult) (c c' : Check) (x : Shows f r c) (y : Shows f' r' c')
    (same : each violation_told c.violations ≡ each violation_told c'.violations)
    (ins : Each (λ (v : Violation). In v.invariant (texts_in f)) c.violations)
    (ins' : Each (λ (v : Violation). In v.invariant (texts_in f')) c'.violations) where
  count : length c.violations ≡ length c'.violations
  count = sym (each_length violation_told c.violations) ∙ ap length same ∙ each_length violation_told c'.violations

  pub counts : r.violations ≡ r'.violations
  counts = x.violations ∙ count ∙ sym y.violations

  module _ (k : ℕ) (h : k < length c.violations) where
    abbrev v : Violation
    v = get_or c.violations k nothing

    abbrev v' : Violation
    v' = get_or c'.violations k nothing

    h' : k < length c'.violations
    h' = omega (arith, h, count)

    alike : violation_told v ≡ violation_told v'
    alike = sym (each_at violation_told c.violations k nothing)
        ∙ ap (λ (l : List (Text × Told)). get_or l k (violation_told nothing)) same
        ∙ each_at violation_told c'.violations k nothing

    tells : told v.failure v.at v.source ≡ told v'.failure v'.at v'.source
    unfolding violation_told
    tells = ap (λ (p : Text × Told). p.1) alike

    word : (j : ℕ) → j < 8 → number_at r k j ≡ get_or (violation_words (texts_in f) v) j 0
    word j o = ap (λ (l : List ℕ). get_or l (k * 8 + j) 0) x.violated
        ∙ areas.word_is (violation_words (texts_in f)) 8 (numbers.sized (texts_in f)) 256 c.violations k j nothing h o

    word' : (j : ℕ) → j < 8 → number_at r' k j ≡ get_or (violation_words (texts_in f') v') j 0
    word' j o = ap (λ (l : List ℕ). get_or l (k * 8 + j) 0) y.violated
        ∙ areas.word_is (violation_words (texts_in f')) 8 (numbers.sized (texts_in f')) 256 c'.violations k j nothing h' o

    names : invariant_at f r k ≡ v.invariant
    names = ap (λ (n : ℕ). get_or (texts_in f) n []) (word 0 (omega arith) ∙ numbers.first (texts_in f) v)
        ∙ at_place v.invariant (texts_in f) (each_get_d _ c.violations k nothing h ins)

    names' : invariant_at f' r' k ≡ v'.invariant
    names' = ap (λ (n : ℕ). get_or (texts_in f') n []) (word' 0 (omega arith) ∙ numbers.first (texts_in f') v')
        ∙ at_place v'.invariant (texts_in f') (each_get_d _ c'.violations k nothing h' ins')

    not_missed : (number_at r k 3 ≡ 4 → ⊥) → get_or (violation_words (texts_in f) v) 3 0 ≡ 4 → ⊥
    not_missed n e = n (word 3 (omega arith) ∙ e)

    pub same_violation : SameViolation f f' r r' k
    unfolding violation_told
    same_violation = record {
      invariant = names ∙ ap (λ (p : Text × Told). p.0) alike ∙ sym names';
      kind = word 3 (omega arith) ∙ numbers.same_kind (texts_in f) (texts_in f') v v' tells ∙ sym (word' 3 (omega arith));
      deadline = word 4 (omega arith) ∙ numbers.same_deadline (texts_in f) (texts_in f') v v' tells
          ∙ sym (word' 4 (omega arith));
      second = λ n. word 1 (omega arith) ∙ numbers.same_second (texts_in f) (texts_in f') v v' tells (not_missed n)
          ∙ sym (word' 1 (omega arith));
      source = λ n j o.
          let e : 5 + j ≡ suc (suc (suc (suc (suc j)))) = omega arith in
          word (5 + j) (omega arith)
          ∙ rw e (numbers.same_source (texts_in f) (texts_in f') v v' tells (not_missed n) j)
          ∙ sym (word' (5 + j) (omega arith));
    }

-- ---- the theorem

pub check_returned : (f f' : List ℕ) (m m' : Model) → accepted f ≡ answer m → accepted f' ≡ answer m' → Alike m m'
    → (r r' : CheckResult) (before after before' after' : Lent) → Checks f r before after → Checks f' r' before' after'
    → Complete r → Complete r' → SameReturned m m' f f' before before' r r'
check_returned f f' m m' p p' alike r r' before after before' after' ch ch' done done' =
    let a = answered f r before after ch done in
    let b = answered f' r' before' after' ch' done' in
    let both = (demand3 f f' m m' p p' alike).0 _ _ a.c b.c a.is b.is (complete done a) (complete done' b) in
    let ins = subst (Each (λ (v : Violation). In v.invariant (texts_in f))) (sym both.readings.violations)
    (named (λ (t : Text). In t (texts_in f)) (λ (i : Invariant). (reading_for m a.c.simulation i).failing)
    m.scenario.invariants (invariant_in f m p)) in
    let ins' = subst (Each (λ (v : Violation). In v.invariant (texts_in f'))) (sym both.readings'.violations)
    (named (λ (t : Text). In t (texts_in f')) (λ (i : Invariant). (reading_for m' b.c.simulation i).failing)
    m'.scenario.invariants (invariant_in f' m' p')) in
    record {
      c = a.c;
      c' = b.c;
      returns = record { is = a.is; unknown = a.shows.unknown.texts };
      returns' = record { is = b.is; unknown = b.shows.unknown.texts };
      invariants = both;
      count = counts f f' r r' a.c b.c a.shows b.shows both.returned ins ins';
      violations = λ k h. same_violation f f' r r' a.c b.c a.shows b.shows both.returned ins ins' k
          (omega (arith, h, a.shows.violations));
    }
