-- A violation's eight numbers, and what they have in common with those of a violation that tells the same.
use Prim.Native.Nat.{ℕ, suc}
use mathlib.Core.Path.{◌≡◌, refl, sym, ap, ◌∙◌}
use mathlib.Core.List.{List, [], ◌∷◌, ◌++◌}
use mathlib.Core.Option.{Option, none, some}
use native.Mathlib.Omega.{arith}
use lib.ListN.{get_or, length}
use Rattle.texts.specs.Texts.{Text}
use Rattle.model_spec.specs.Model.{Source}
use Rattle.model_spec.specs.Rewrite.{place_of}
use Rattle.engine_spec.specs.Words.{source_words}
use Rattle.checker_spec.specs.Check.{Violation}
use Rattle.checker_spec.specs.Judge.{Failure, prohibited_state, guard_violated, forbidden_transition, deadline_missed}
use Rattle.checker_entry.specs.Contract.{failure_words, violation_words}
use Rattle.cone_judge.specs.Reading.{Told, failed, missed, told}

-- ---- what is told, as numbers

abbrev kind_of : Told → ℕ
kind_of (failed y a s) = get_or (failure_words y) 0 0
kind_of (missed d) = 4

abbrev deadline_of : Told → ℕ
deadline_of (failed y a s) = 0
deadline_of (missed d) = d

abbrev second_of : Told → ℕ
second_of (failed y a s) = a
second_of (missed d) = 0

abbrev source_of : Told → List ℕ
source_of (failed y a s) = source_words s
source_of (missed d) = []

-- ---- a violation's numbers

abbrev row : (p a i : ℕ) → Failure → Option Source → List ℕ
row p a i y s = (p ∷ a ∷ i ∷ []) ++ (failure_words y ++ source_words s)

record Row (p a i : ℕ) (y : Failure) (s : Option Source) : Type 0 where
  size : length (row p a i y s) ≡ 8
  place : get_or (row p a i y s) 0 0 ≡ p
  kind : get_or (row p a i y s) 3 0 ≡ kind_of (told y a s)
  deadline : get_or (row p a i y s) 4 0 ≡ deadline_of (told y a s)
  second : (get_or (row p a i y s) 3 0 ≡ 4 → ⊥) → get_or (row p a i y s) 1 0 ≡ second_of (told y a s)
  source : (get_or (row p a i y s) 3 0 ≡ 4 → ⊥) → (j : ℕ) →
      get_or (row p a i y s) (suc (suc (suc (suc (suc j))))) 0 ≡ get_or (source_of (told y a s)) j 0

three : (s : Option Source) → length (source_words s) ≡ 3
unfolding source_words
three none = refl
three (some s) = refl

row_is : (p a i : ℕ) (y : Failure) (s : Option Source) → Row p a i y s
unfolding told
row_is p a i prohibited_state s = record {
  size = omega (arith, three s);
  place = refl;
  kind = refl;
  deadline = refl;
  second = λ e. refl;
  source = λ e j. refl;
}
row_is p a i guard_violated s = record {
  size = omega (arith, three s);
  place = refl;
  kind = refl;
  deadline = refl;
  second = λ e. refl;
  source = λ e j. refl;
}
row_is p a i forbidden_transition s = record {
  size = omega (arith, three s);
  place = refl;
  kind = refl;
  deadline = refl;
  second = λ e. refl;
  source = λ e j. refl;
}
row_is p a i (deadline_missed d) s = record {
  size = omega (arith, three s);
  place = refl;
  kind = refl;
  deadline = refl;
  second = λ e. absurd (e refl);
  source = λ e j. absurd (e refl);
}

-- ---- two violations that tell the same

module _ (ts ts' : List Text) (v v' : Violation) (same : told v.failure v.at v.source
    ≡ told v'.failure v'.at v'.source) where
  abbrev words : List ℕ
  words = violation_words ts v

  abbrev words' : List ℕ
  words' = violation_words ts' v'

  x : Row (place_of v.invariant ts) v.at v.index v.failure v.source
  x = row_is _ _ _ v.failure v.source

  y : Row (place_of v'.invariant ts') v'.at v'.index v'.failure v'.source
  y = row_is _ _ _ v'.failure v'.source

  pub same_deadline : get_or words 4 0 ≡ get_or words' 4 0
  unfolding violation_words
  same_deadline = x.deadline ∙ ap deadline_of same ∙ sym y.deadline

  pub same_kind : get_or words 3 0 ≡ get_or words' 3 0
  unfolding violation_words
  same_kind = x.kind ∙ ap kind_of same ∙ sym y.kind

  other : (get_or words 3 0 ≡ 4 → ⊥) → get_or words' 3 0 ≡ 4 → ⊥
  other n e = n (same_kind ∙ e)

  pub same_second : (get_or words 3 0 ≡ 4 → ⊥) → get_or words 1 0 ≡ get_or words' 1 0
  unfolding violation_words
  same_second n = x.second n ∙ ap second_of same ∙ sym (y.second (other n))

  pub same_source : (get_or words 3 0 ≡ 4 → ⊥) → (j : ℕ) →
      get_or words (suc (suc (suc (suc (suc j))))) 0 ≡ get_or words' (suc (suc (suc (suc (suc j))))) 0
  unfolding violation_words
  same_source n j = x.source n j ∙ ap (λ (t : Told). get_or (source_of t) j 0) same ∙ sym (y.source (other n) j)

-- eight numbers, the first a place
pub sized : (ts : List Text) (v : Violation) → length (violation_words ts v) ≡ 8
unfolding violation_words
sized ts v = (row_is (place_of v.invariant ts) v.at v.index v.failure v.source).size

pub first : (ts : List Text) (v : Violation) → get_or (violation_words ts v) 0 0 ≡ place_of v.invariant ts
unfolding violation_words
first ts v = (row_is (place_of v.invariant ts) v.at v.index v.failure v.source).place
