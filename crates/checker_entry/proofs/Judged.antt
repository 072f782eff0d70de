-- What is gathered from the invariants is the definition's verdict: violations word for word, reasons as sorted texts.
use Prim.Native.Nat.{ℕ, zero, suc, ◌+◌, ◌-◌, ◌≤◌, ◌<◌}
use mathlib.Core.Path.{◌≡◌, refl, sym, ap, ◌∙◌}
use mathlib.Core.List.{List, [], ◌∷◌, ◌++◌, append-nil, append_assoc}
use native.Mathlib.Omega.{arith}
use lib.ListN.{length, get_or, take, length-append}
use lib.Seq.{take-suc}
use mathlib.Core.Bool.{Bool, true}
use Rattle.texts.specs.Lists.{all, each, flat}
use Rattle.texts.specs.Texts.{Text, sorted_t}
use Rattle.areas.specs.Areas.{words}
use Rattle.areas.proofs.Laws as areas
use Rattle.records.specs.declared.Record.{Record}
use Rattle.records.specs.declared.Source.{Source}
use Rattle.std.specs.Prelude.{Option, Some, None}
use Rattle.reasons.specs.Lists.{insert_all}
use Rattle.reasons.proofs.Sorting.{merged, either_way}
use Rattle.model_spec.specs.Model.{Invariant, id_of, Model}
use Rattle.model_spec.specs.Windows.{windowless_invariant}
use Rattle.model_spec.specs.File.{invariant}
use Rattle.model_spec.specs.Rewrite.{place_of}
use Rattle.model_parts.specs.Stand.{Reads}
use Rattle.engine_spec.specs.Words.{source_words}
use Rattle.engine_fields.specs.Fields.{two, cap}
use Rattle.engine_state.specs.declared.Cells.{Cells}
use Rattle.engine_refinement.specs.Meaning.{where_of, cells_of, record_of, Tabled}
use Rattle.engine_refinement.proofs.Numbers.{cap_is}
use Rattle.engine_refinement.proofs.Evaluate.{Valued}
use Rattle.engine_refinement.proofs.Words.{text_place}
use Rattle.checker_spec.specs.Check.{Violation, violation_of}
use Rattle.checker_spec.specs.Judge.{Reading, read_all, unknown_reasons, incomplete_reasons}
use Rattle.checker_response.specs.declared.Failure.{Failure}
use Rattle.checker_response.specs.declared.Failure.TheVariants.{
  ProhibitedState,
  GuardViolated,
  ForbiddenTransition,
  DeadlineMissed,
}
use Rattle.checker_response.specs.Response.{failed_m}
use Rattle.checker_judge.specs.Judging.{judge_m}
use Rattle.checker_reasons.specs.Reasons.{renderings, unknown_m, incomplete_m}
use Rattle.checker_judge.specs.declared.Reading.{Reading as Read}
use Rattle.checker_refinement.specs.Meaning.{memory_of, failing_of, reading_of}
use Rattle.checker_refinement.proofs.Record.{both_true, Parts, of_never, of_guard, of_transition, of_response, parts}
use Rattle.checker_refinement.proofs.Judge.{Traced, judge_is}
use Rattle.checker_refinement.proofs.Reasons.{unknown_is, incomplete_is}
use Rattle.checker_collect.specs.Collect.{source_m, broken_m, violated_m, Gathered, one_m, first_m}
use Rattle.checker_entry.specs.Contract.{violation_words}

-- ---- lists

all_at : {A : Type 0} (p : A → Bool) (l : List A) (d : A) (k : ℕ) → all p l ≡ true → k < length l → p (get_or l k d) ≡ true
unfolding all
all_at p [] d k h j = absurd (omega arith)
all_at p (a ∷ l) d zero h j = (both_true (p a) (all p l) h).0
all_at p (a ∷ l) d (suc k) h j = all_at p l d k (both_true (p a) (all p l) h).1 (omega arith)

module _ {A B : Type 0} (g : A → List B) where
  flat_append : (l k : List A) → flat g (l ++ k) ≡ flat g l ++ flat g k
  unfolding flat
  flat_append [] k = refl
  flat_append (a ∷ l) k = ap (λ (y : List B). g a ++ y) (flat_append l k) ∙ sym (append_assoc (g a) (flat g l) (flat g k))

  flat_next : (l : List A) (k : ℕ) (d : A) → k < length l → flat g (take (suc k) l) ≡ flat g (take k l) ++ g (get_or l k d)
  unfolding flat
  flat_next l k d h =
      ap (flat g) (take-suc l k d h)
      ∙ flat_append (take k l) (get_or l k d ∷ [])
      ∙ ap (λ (y : List B). flat g (take k l) ++ y) (append-nil (g (get_or l k d)))

-- the reasons of one invariant more
sorted_more : (l a b : List Text) → insert_all b (sorted_t (l ++ a)) ≡ sorted_t (l ++ (a ++ b))
sorted_more l a b = merged b (l ++ a) ∙ either_way b (l ++ a) ∙ ap sorted_t (append_assoc l a b)

-- ---- one invariant

source_as : (s : Option Source) → source_m s 0 ∷ source_m s 1 ∷ source_m s 2 ∷ [] ≡ source_words (where_of s)
unfolding source_words
source_as None = refl
source_as (Some s) = refl

module _ (f x : List ℕ) (ts : List Text) (m : Model) (tb : Tabled f x ts m) where
  -- an invariant's identifier is a text of the file
  pub record Named (at : ℕ) (i : Invariant) : Type 0 where
    pub place_in : two f (cap at + 1) < length ts
    pub is : id_of i ≡ get_or ts (two f (cap at + 1)) []

  pub named : (at : ℕ) (i : Invariant) → Reads (invariant ts) f at i → Named at i
  unfolding id_of
  named at i (q, e) = by i (parts f x ts m tb at i q e)
    where
      near : (k : ℕ) → at + k ≤ length f → cap at ≡ at
      near k h = cap_is at (omega (arith, tb.size))

      by : (i : Invariant) → Parts f x ts m tb at i → Named at i
      by i (of_never ps q k d inside e) = record { place_in = rw (near 3 inside) d; is = rw (near 3 inside) }
      by i (of_guard ps q k d inside h j e) = record { place_in = rw (near 7 inside) d; is = rw (near 7 inside) }
      by i (of_transition k d inside h j o) = record { place_in = rw (near 9 inside) d; is = rw (near 9 inside) }
      by i (of_response p q n b c k d inside e g h) = record { place_in = rw (near 3 inside) d; is = rw (near 3 inside) }

  -- a violation's numbers
  violation_as : (id : ℕ) (i : Invariant) (r : Read) → id < length ts → id_of i ≡ get_or ts id [] →
      words broken_m (violated_m id r) ≡ words (violation_words ts) (violation_of i (reading_of r).failing)
  unfolding words violated_m failed_m reading_of failing_of violation_of violation_words
  violation_as id i r h e = by r.failure refl
    where
      one : (n d : ℕ) →
          id ∷ r.second ∷ r.index ∷ n ∷ d ∷ source_m r.source 0 ∷ source_m r.source 1 ∷ source_m r.source 2 ∷ []
          ≡ place_of (id_of i) ts ∷ r.second ∷ r.index ∷ n ∷ d ∷ source_words (where_of r.source)
      one n d =
          ap (λ (y : List ℕ). id ∷ r.second ∷ r.index ∷ n ∷ d ∷ y) (source_as r.source)
          ∙ ap (λ (k : ℕ). k ∷ r.second ∷ r.index ∷ n ∷ d ∷ source_words (where_of r.source))
          (sym (text_place f x ts m tb id h) ∙ ap (λ (t : Text). place_of t ts) (sym e))

      by : (y : Option Failure) → r.failure ≡ y →
          words broken_m (violated_m id r) ≡ words (violation_words ts) (violation_of i (reading_of r).failing)
      by None z = rw z
      by (Some ProhibitedState) z = rw z (ap (λ (l : List ℕ). l ++ []) (one 1 0))
      by (Some GuardViolated) z = rw z (ap (λ (l : List ℕ). l ++ []) (one 2 0))
      by (Some ForbiddenTransition) z = rw z (ap (λ (l : List ℕ). l ++ []) (one 3 0))
      by (Some (DeadlineMissed d)) z = rw z (ap (λ (l : List ℕ). l ++ []) (one 4 d))

  violation_count : (id : ℕ) (i : Invariant) (r : Read) →
      length (violated_m id r) ≡ length (violation_of i (reading_of r).failing)
  unfolding violated_m failed_m reading_of failing_of violation_of
  violation_count id i r = by r.failure refl
    where
      by : (y : Option Failure) → r.failure ≡ y → length (violated_m id r) ≡ length (violation_of i (reading_of r).failing)
      by None z = rw z
      by (Some ProhibitedState) z = rw z
      by (Some GuardViolated) z = rw z
      by (Some ForbiddenTransition) z = rw z
      by (Some (DeadlineMissed d)) z = rw z

  -- ---- all invariants, over the records l

  module _ (is : List Invariant) (starts : List ℕ) (stand : (d : Invariant) (k : ℕ) → k < length is →
      Reads (invariant ts) f (get_or starts k 0) (get_or is k d)) (calm : all windowless_invariant is ≡ true) (c : Cells)
      (ns : List ℕ) (ok : Valued f x ts m tb c.values) (long : length ns ≡ 32) (l : List Record) (traced : Traced ts l)
    where
      abbrev reading_for : Invariant → Reading
      reading_for i = read_all i (cells_of x ts c.values ns) (each (record_of x ts) l)

      abbrev violated : Invariant → List Violation
      violated i = violation_of i (reading_for i).failing

      abbrev unknown : Invariant → List Text
      unknown i = unknown_reasons i (reading_for i).memory

      abbrev incomplete : Invariant → List Text
      incomplete i = incomplete_reasons i (reading_for i).memory

      -- what is gathered from the first k, before them the reasons us and ws
      pub record Agreed (us ws : List Text) (k : ℕ) (g : Gathered) : Type 0 where
        pub violations : words broken_m g.violations ≡ words (violation_words ts) (flat violated (take k is))
        pub many : length g.violations ≡ length (flat violated (take k is))
        pub unknowns : g.unknown ≡ sorted_t (us ++ flat unknown (take k is))
        pub incompletes : g.incomplete ≡ sorted_t (ws ++ flat incomplete (take k is))

      agreed_next : (us ws : List Text) (k : ℕ) (d : Invariant) → k < length is → (g : Gathered) → Agreed us ws k g →
          Agreed us ws (suc k) (one_m f x (get_or starts k 0) c l g)
      unfolding one_m reading_of
      agreed_next us ws k d h g a =
          let at = get_or starts k 0 in
          let i = get_or is k d in
          let r = judge_m f x at c l in
          let n = named at i (stand d k h) in
          let e : reading_of r ≡ reading_for i = judge_is f x ts m tb at i (stand d k h)
          (all_at windowless_invariant is d k calm h) c ns ok long l traced in
          let em : memory_of r.memory ≡ (reading_for i).memory = ap (λ (y : Reading). y.memory) e in
          let ev : words broken_m (violated_m (two f (cap at + 1)) r) ≡ words (violation_words ts) (violated i) =
          violation_as (two f (cap at + 1)) i r n.place_in n.is
          ∙ ap (λ (y : Reading). words (violation_words ts) (violation_of i y.failing)) e in
          let eu : renderings f (unknown_m f (cap at) r.memory) ≡ unknown i =
          unknown_is f x ts m tb at r.memory i (stand d k h) ∙ ap (unknown_reasons i) em in
          let ew : renderings f (incomplete_m f (cap at) r.memory) ≡ incomplete i =
          incomplete_is f x ts m tb at r.memory i (stand d k h) ∙ ap (incomplete_reasons i) em in
          record {
            violations =
                areas.words_append broken_m g.violations (violated_m (two f (cap at + 1)) r)
                ∙ ap (λ (y : List ℕ). y ++ words broken_m (violated_m (two f (cap at + 1)) r)) a.violations
                ∙ ap (λ (y : List ℕ). words (violation_words ts) (flat violated (take k is)) ++ y) ev
                ∙ sym (areas.words_append (violation_words ts) (flat violated (take k is)) (violated i))
                ∙ ap (words (violation_words ts)) (sym (flat_next violated is k d h));
            many = omega (
              arith,
              length-append g.violations (violated_m (two f (cap at + 1)) r),
              length-append (flat violated (take k is)) (violated i),
              ap length (flat_next violated is k d h),
              a.many,
              violation_count (two f (cap at + 1)) i r ∙ ap (λ (y : Reading). length (violation_of i y.failing)) e,
            );
            unknowns =
                ap (λ (y : List Text). insert_all y g.unknown) eu
                ∙ ap (insert_all (unknown i)) a.unknowns
                ∙ sorted_more us (flat unknown (take k is)) (unknown i)
                ∙ ap (λ (y : List Text). sorted_t (us ++ y)) (sym (flat_next unknown is k d h));
            incompletes =
                ap (λ (y : List Text). insert_all y g.incomplete) ew
                ∙ ap (insert_all (incomplete i)) a.incompletes
                ∙ sorted_more ws (flat incomplete (take k is)) (incomplete i)
                ∙ ap (λ (y : List Text). sorted_t (ws ++ y)) (sym (flat_next incomplete is k d h));
          }

      pub agreed : (us ws : List Text) (g : Gathered) → Agreed us ws 0 g → (d : Invariant) (k : ℕ) → k ≤ length is →
          Agreed us ws k (first_m f x starts c l k g)
      unfolding first_m
      agreed us ws g a d zero h = a
      agreed us ws g a d (suc k) h = agreed_next us ws k d h (first_m f x starts c l k g) (agreed us ws g a d k (omega arith))
