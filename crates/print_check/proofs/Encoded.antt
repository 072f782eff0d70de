-- The lines are those of the definition's answer: the eight numbers of a violation say that violation, and the words of a
-- reason are rendered as that reason.
use mathlib.Core.Path.{◌≡◌, refl, sym, ap, ◌∙◌}
use mathlib.Core.List.{List, [], ◌∷◌, ◌++◌}
use mathlib.Core.Option.{Option, none, some}
use Prim.Native.Nat.{ℕ, ◌+◌, ◌*◌, ◌<◌}
use native.Mathlib.Omega.{arith}
use lib.ListN.{length, get_or, drop}
use lib.Seq.{get_or-drop}
use Rattle.texts.specs.Texts.{Text}
use Rattle.areas.specs.Areas.{area}
use Rattle.areas.proofs.Laws as areas
use Rattle.reasons.specs.Reasons.{render}
use Rattle.reasons.specs.Lists.{reason_of, listed, Reported}
use Rattle.reasons.proofs.Listing as listing
use Rattle.model_spec.specs.Model.{Source, Model}
use Rattle.model_spec.specs.Rewrite.{place_of}
use Rattle.engine_spec.specs.Words.{source_words, texts_in}
use Rattle.bounds.specs.Bounds.{at_most}
use Rattle.bounds.proofs.Laws as bounds
use Rattle.engine_refinement.specs.Meaning.{Tabled}
use Rattle.engine_refinement.proofs.Words.{text_place}
use Rattle.checker_spec.specs.Judge.{Failure, prohibited_state, guard_violated, forbidden_transition, deadline_missed}
use Rattle.checker_spec.specs.Check as check
use Rattle.checker_result.specs.declared.CheckResult.{CheckResult}
use Rattle.checker_entry.specs.Contract.{failure_words, violation_words, Shows}
use Rattle.check_lines.specs.Numbers.{violated_of, placed_text, failure_of, source_of, violation_of}

-- ---- eight numbers

eight : (p a i : ℕ) (e : Failure) (s : Option Source) → length ((p ∷ a ∷ i ∷ []) ++ (failure_words e ++ source_words s)) ≡ 8
unfolding source_words
eight p a i prohibited_state none = refl
eight p a i prohibited_state (some s) = refl
eight p a i guard_violated none = refl
eight p a i guard_violated (some s) = refl
eight p a i forbidden_transition none = refl
eight p a i forbidden_transition (some s) = refl
eight p a i (deadline_missed d) none = refl
eight p a i (deadline_missed d) (some s) = refl

sized : (ts : List Text) (v : check.Violation) → length (violation_words ts v) ≡ 8
unfolding violation_words
sized ts v = eight (place_of v.invariant ts) v.at v.index v.failure v.source

read_back : (f : List ℕ) (p a i : ℕ) (e : Failure) (s : Option Source) →
    violation_of f (violated_of ((p ∷ a ∷ i ∷ []) ++ (failure_words e ++ source_words s)))
    ≡ record { invariant = placed_text f p; at = a; index = i; source = s; failure = e }
unfolding violation_of violated_of failure_of source_of source_words
read_back f p a i prohibited_state none = refl
read_back f p a i prohibited_state (some s) = refl
read_back f p a i guard_violated none = refl
read_back f p a i guard_violated (some s) = refl
read_back f p a i forbidden_transition none = refl
read_back f p a i forbidden_transition (some s) = refl
read_back f p a i (deadline_missed d) none = refl
read_back f p a i (deadline_missed d) (some s) = refl

-- ---- a violation of an accepted model: its invariant's identifier is one of the file's texts

pub record Named (ts : List Text) (v : check.Violation) : Type 0 where
  pub place : ℕ
  pub among : place < length ts
  pub is : v.invariant ≡ get_or ts place []

module _ (f x : List ℕ) (ts : List Text) (m : Model) (tb : Tabled f x ts m) where
  identifier : (v : check.Violation) → Named ts v → placed_text f (place_of v.invariant ts) ≡ v.invariant
  unfolding placed_text
  identifier v n =
      let p : place_of v.invariant ts ≡ n.place =
      ap (λ (t : Text). place_of t ts) n.is ∙ text_place f x ts m tb n.place n.among in
      let q : at_most n.place 65535 ≡ n.place = sym
      (bounds.most_yes n.place 65535 (omega (arith, n.among, tb.few_texts))) in
      rw (p, q) (tb.placed_text n.place n.among ∙ sym n.is)

  said : (v : check.Violation) → Named ts v → violation_of f (violated_of (violation_words ts v)) ≡ v
  unfolding violation_words
  said v n = read_back f (place_of v.invariant ts) v.at v.index v.failure v.source ∙ rw (identifier v n)

  module _ (len : ℕ) (vs : List check.Violation) (k : ℕ) (d : check.Violation) (h : k < length vs) where
    abbrev held : List ℕ
    held = area (violation_words ts) len vs

    at : (j : ℕ) → j < 8 → get_or (drop (k * 8) held) j 0 ≡ get_or (violation_words ts (get_or vs k d)) j 0
    at j o = get_or-drop (k * 8) held j 0 ∙ areas.word_is (violation_words ts) 8 (sized ts) len vs k j d h o

    same : violated_of (drop (k * 8) held) ≡ violated_of (violation_words ts (get_or vs k d))
    unfolding violated_of
    same = rw (
      at 0 (omega arith),
      at 1 (omega arith),
      at 2 (omega arith),
      at 3 (omega arith),
      at 4 (omega arith),
      at 5 (omega arith),
      at 6 (omega arith),
      at 7 (omega arith),
    )

    pub held_is : Named ts (get_or vs k d) → violation_of f (violated_of (drop (k * 8) held)) ≡ get_or vs k d
    held_is n = ap (violation_of f) same ∙ said (get_or vs k d) n

  -- the violation at k of the entry's answer is the definition's
  pub violation_is : {r : CheckResult} {c : check.Check} → Shows f r c → texts_in f ≡ ts → (k : ℕ) (d : check.Violation) →
      k < length c.violations → Named ts (get_or c.violations k d) →
      violation_of f (violated_of (drop (k * 8) r.violated)) ≡ get_or c.violations k d
  violation_is {r} {c} s e k d h n =
      let g : r.violated ≡ area (violation_words ts) 256 c.violations =
      s.violated ∙ ap (λ (l : List Text). area (violation_words l) 256 c.violations) e in
      rw g (held_is 256 c.violations k d h n)

-- ---- reasons

-- the reason at k of an answer's list is the definition's
pub reason_is : {f : List ℕ} {l : List Text} {n : ℕ} {a : List ℕ} → Reported f l n a → (k : ℕ) → k < length l →
    render f (reason_of (drop (k * 5) a)) ≡ get_or l k []
reason_is {f} {l} {n} {a} h k o =
    let t : Text = render f (reason_of (drop (k * 5) a)) in
    let e : drop k l ≡ t ∷ drop (k + 1) (listed f n a) =
    ap (drop k) (sym h.texts) ∙ listing.next f n a k (omega (arith, h.many)) in
    let z : k + 0 ≡ k = omega arith in
    sym (ap (λ (i : ℕ). get_or l i []) (sym z) ∙ sym (get_or-drop k l 0 []) ∙ ap (λ (y : List Text). get_or y 0 []) e)
