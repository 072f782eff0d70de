-- One record, for the invariant that stands at a position: what it shows on places is what Judge says of it.
use Rattle.std.specs.Prelude.{if◌then◌else◌, Option, Some, None}
use mathlib.Core.Path.{◌≡◌, refl, sym, ap, ◌∙◌, subst}
use mathlib.Core.Bool.{Bool, true, false, ◌&&◌, false≢true}
use mathlib.Core.List.{List, [], ◌∷◌}
use Prim.Native.Nat.{ℕ, zero, suc, ◌+◌, ◌≤◌, ◌<◌}
use native.Mathlib.Omega.{arith}
use lib.Dec.{eqb}
use lib.ListN.{length, get_or}
use borrow.Author.Tests.{eqb-true}
use Rattle.texts.proofs.Bool.{or_false}
use Rattle.texts.specs.Lists.{present_and}
use Rattle.texts.specs.Texts.{Text, text, eq_t, all_texts}
use Rattle.model_spec.specs.Model.{Moment, Predicate, Invariant, never, guard, transition, response, Model, midnight}
use Rattle.model_spec.specs.Windows.{no_window, windowless_invariant}
use Rattle.model_spec.specs.File.{◌>>=◌ as ◌>>=ᵣ◌}
use Rattle.model_spec.specs.File.{got, Reader, give, refuse, u32, counted, place, predicate, invariant}
use Rattle.model_walk.proofs.Found.{
  Case,
  is_true,
  is_false,
  case,
  bound,
  given,
  u8_wide,
  u16_wide,
  Kind as KindAt,
  kind_found,
  place_found,
}
use Rattle.model_walk.proofs.Found as found
use Rattle.records.specs.declared.Write.{Write}
use Rattle.records.specs.declared.Record.{Record}
use Rattle.engine_spec.specs.Kleene.{is_yes, is_no, is_unknown}
use Rattle.engine_spec.specs.Kleene as kleene
use Rattle.engine_spec.specs.Cells.{Cell}
use Rattle.engine_spec.specs.Truth.{moment_after}
use Rattle.engine_spec.proofs.Windowless.{same_truth, same_truths}
use Rattle.engine_spec.specs.Records.{Kind, kind_name, all_records}
use Rattle.engine_fields.specs.Fields.{two, four}
use Rattle.engine_state.specs.Machine.{later}
use Rattle.engine_evaluate.specs.Evaluate.{evaluate_m, size_m, all_m}
use Rattle.engine_evaluate.specs.declared.Truth.{Truth}
use Rattle.engine_refinement.specs.Meaning.{Placed, truth_of, cells_of, kind_of, change_of, record_of, Tabled}
use Rattle.engine_refinement.proofs.Numbers.{byte_is, two_is, four_is, later_is}
use Rattle.engine_refinement.proofs.Evaluate.{Valued, evaluate_is, all_is}
use Rattle.checker_spec.specs.Judge.{
  stated,
  stated_all,
  is_action,
  is_horizon,
  writes,
  passes,
  fails_if,
  read_response,
  read,
}
use Rattle.checker_spec.specs.Judge as judge
use Rattle.checker_response.specs.Response.{yes_m, no_m, unknown_m, fails_m, responded_m}
use Rattle.checker_judge.specs.Judging.{
  unsure_m,
  never_m,
  writes_m,
  about_m,
  guarded_m,
  guard_m,
  passes_m,
  transition_m,
  goal_at,
  within_at,
  seen_m,
  read_m,
}
use Rattle.checker_response.specs.declared.Failure.TheVariants.{
  ProhibitedState,
  GuardViolated,
  ForbiddenTransition,
}
use Rattle.checker_response.specs.declared.Memory.{Memory}
use Rattle.checker_refinement.specs.Meaning.{memory_of, shown_of}
use Rattle.checker_refinement.proofs.Response.{yes_is, no_is, unknown_is, fails_is, told, responded_is}

pub both_true : (a b : Bool) → a && b ≡ true → (a ≡ true) × (b ≡ true)
both_true true b h = (refl, h)
both_true false b h = absurd (false≢true h)

-- ---- what a verdict shows

never_is : (t : Truth) (v : kleene.Truth) (m : Memory) → truth_of t ≡ v →
    shown_of (record { failure = fails_m (yes_m t) (Some ProhibitedState); memory = unsure_m (unknown_m t) m })
    ≡ record { failure = fails_if (is_yes v) judge.prohibited_state; memory = judge.unsure (is_unknown v) (memory_of m) }
unfolding shown_of memory_of unsure_m
never_is t v m e =
    rw (← e, ← yes_is t, ← unknown_is t, fails_is (yes_m t) (Some ProhibitedState) judge.prohibited_state refl)

guard_is : (about : Bool) (t : Truth) (v : kleene.Truth) (m : Memory) → truth_of t ≡ v →
    shown_of (if about then guarded_m t m else record { failure = None; memory = m })
    ≡ record {
      failure = fails_if (about && is_no v) judge.guard_violated;
      memory =
          judge.unsure (about && is_unknown v) (memory_of m);
    }
unfolding shown_of memory_of unsure_m guarded_m fails_if
guard_is true t v m e =
    rw (← e, ← no_is t, ← unknown_is t, fails_is (no_m t) (Some GuardViolated) judge.guard_violated refl)
guard_is false t v m e = rw (or_false m.unknown)

transition_is : (b : Bool) (m : Memory) →
    shown_of (record { failure = fails_m b (Some ForbiddenTransition); memory = m })
    ≡ record { failure = fails_if b judge.forbidden_transition; memory = memory_of m }
unfolding shown_of
transition_is b m = rw (fails_is b (Some ForbiddenTransition) judge.forbidden_transition refl)

same_guard : (ps : List Predicate) {a b c d e v : Text} → a ≡ b → c ≡ d → e ≡ v → guard a c e ps ≡ guard b d v ps
same_guard ps h i j = rw (h, i, j)

same_transition : {a b c d e v u w : Text} → a ≡ b → c ≡ d → e ≡ v → u ≡ w → transition a c e u ≡ transition b d v w
same_transition h i j k = rw (h, i, j, k)

-- ---- kinds of records

record Named (kind : Kind) (k : ℕ) : Type 0 where
  action : eq_t (kind_name kind) (text "action") ≡ eqb k 2
  horizon : eq_t (kind_name kind) (text "horizon") ≡ eqb k 9

pick : (k i : ℕ) (a b : Kind) → Named a i → (eqb k i ≡ false → Named b k) → Named (if eqb k i then a else b) k
pick k i a b here rest = cases (case (eqb k i))
  where
    cases : Case (eqb k i) → Named (if eqb k i then a else b) k
    cases (is_true h) = let z : k ≡ i = eqb-true k i h in rw h (subst (Named a) (sym z) here)
    cases (is_false h) = rw h (rest h)

module _ (x : List ℕ) (ts : List Text) where
  named : (k d : ℕ) → Named (kind_of x ts k d) k
  unfolding kind_of all_records all_texts
  named k d =
      pick k 0 _ _ (record { action = refl; horizon = refl }) λ _. pick k 1 _ _ (record { action = refl; horizon = refl })
      λ _. pick k 2 _ _ (record { action = refl; horizon = refl }) λ two. pick k 3 _ _
      (record { action = refl; horizon = refl }) λ _. pick k 4 _ _ (record { action = refl; horizon = refl }) λ _.
      pick k 5 _ _ (record { action = refl; horizon = refl }) λ _. pick k 6 _ _ (record { action = refl; horizon = refl })
      λ _. pick k 7 _ _ (record { action = refl; horizon = refl }) λ _. pick k 8 _ _
      (record { action = refl; horizon = refl }) λ _. pick k 9 _ _ (record { action = refl; horizon = refl }) λ nine.
      pick k 10 _ _ (record { action = refl; horizon = refl }) λ _. pick k 11 _ _ (record { action = refl; horizon = refl })
      λ _. pick k 12 _ _ (record { action = refl; horizon = refl }) λ _. pick k 13 _ _
      (record { action = refl; horizon = refl }) λ _. pick k 14 _ _ (record { action = refl; horizon = refl }) λ _.
      pick k 15 _ _ (record { action = refl; horizon = refl }) λ _. pick k 16 _ _ (record { action = refl; horizon = refl })
      λ _. pick k 17 _ _ (record { action = refl; horizon = refl }) λ _. record { action = sym two; horizon = sym nine }

  action_is : (r : Record) → is_action (record_of x ts r) ≡ eqb r.kind 2
  unfolding is_action record_of
  action_is r = (named r.kind r.detail).action

  horizon_is : (r : Record) → is_horizon (record_of x ts r) ≡ eqb r.kind 9
  unfolding is_horizon record_of
  horizon_is r = (named r.kind r.detail).horizon

module _ (f x : List ℕ) (ts : List Text) (mo : Model) (tb : Tabled f x ts mo) where
  abbrev T : ℕ → Text
  T v = get_or ts v []

  -- ---- the parts of an invariant, where they stand

  record TextAt (p : ℕ) (t : Text) (q : ℕ) : Type 0 where
    is : t ≡ T (two f p)
    place_in : two f p < length ts
    ends : q ≡ p + 2
    inside : p + 2 ≤ length f

  placed_text : {n : ℕ} (p : ℕ) {t : Text} {q : ℕ} → n ≡ p → place ts f n ≡ got t q → TextAt p t q
  placed_text {n} p y e =
      let a = place_found ts e in
      let w = u16_wide f n a.is_place in
      let z : two f p ≡ a.at = ap (two f) (sym y) ∙ two_is f n a.is_place in
      record { is = a.is_text ∙ ap T (sym z); place_in = rw z a.is_in; ends = omega arith; inside = omega arith }

  pub data Parts (at : ℕ) : Invariant → Type 0 where
    of_never : (ps : List Predicate) (q : ℕ) → get_or f at 0 ≡ 0 → two f (at + 1) < length ts → at + 3 ≤ length f →
        counted (predicate ts) f (at + 3) ≡ got ps q → Parts at (never (T (two f (at + 1))) ps)
    of_guard : (ps : List Predicate) (q : ℕ) → get_or f at 0 ≡ 1 → two f (at + 1) < length ts → at + 7 ≤ length f →
        two f (at + 3) < length ts → two f (at + 5) < length ts → counted (predicate ts) f (at + 7) ≡ got ps q →
        Parts at (guard (T (two f (at + 1))) (T (two f (at + 3))) (T (two f (at + 5))) ps)
    of_transition : get_or f at 0 ≡ 2 → two f (at + 1) < length ts → at + 9 ≤ length f → two f (at + 3) < length ts →
        two f (at + 5) < length ts → two f (at + 7) < length ts →
        Parts at (transition (T (two f (at + 1))) (T (two f (at + 3))) (T (two f (at + 5))) (T (two f (at + 7))))
    of_response : (p q : Predicate) (n b c : ℕ) → get_or f at 0 ≡ 3 → two f (at + 1) < length ts → at + 3 ≤ length f →
        predicate ts f (at + 3) ≡ got p b → predicate ts f b ≡ got q c → four f c ≡ n →
        Parts at (response (T (two f (at + 1))) p q n)

  pub parts : (at : ℕ) (i : Invariant) (q : ℕ) → invariant ts f at ≡ got i q → Parts at i
  unfolding invariant
  parts at i q e = cases k.kind refl k.holds
    where
      rs : List (Reader Invariant)
      rs =
          (place ts >>=ᵣ λ id. counted (predicate ts) >>=ᵣ λ ps. give (never id ps))
          ∷ (place ts >>=ᵣ λ id. place ts >>=ᵣ λ e. place ts >>=ᵣ λ v. counted (predicate ts) >>=ᵣ λ ps. give
          (guard id e v ps))
          ∷ (place ts >>=ᵣ λ id. place ts >>=ᵣ λ e. place ts >>=ᵣ λ v. place ts >>=ᵣ λ w. give (transition id e v w))
          ∷ (place ts >>=ᵣ λ id. predicate ts >>=ᵣ λ p. predicate ts >>=ᵣ λ q. u32 >>=ᵣ λ n. give (response id p q n))
          ∷ []

      k : KindAt rs f at i q
      k = kind_found rs e

      kind : (n : ℕ) → k.kind ≡ n → get_or f at 0 ≡ n
      kind n z = byte_is f at k.is_kind ∙ z

      start : k.next ≡ at + 1
      start = (u8_wide f at k.is_kind).ends

      cases : (n : ℕ) → k.kind ≡ n → get_or rs n refuse f k.next ≡ got i q → Parts at i
      cases zero z h =
          let d = bound (place ts) _ h in
          let ps = bound (counted (predicate ts)) _ d.rest in
          let g = given _ _ _ ps.rest in
          let t = placed_text (at + 1) start d.first in
          let y : d.next ≡ at + 3 = omega arith in
          subst (Parts at) (ap (λ (u : Text). never u ps.value) (sym t.is) ∙ g.0)
          (of_never ps.value ps.next (kind 0 z) t.place_in (omega arith)
          (ap (counted (predicate ts) f) (sym y) ∙ ps.first))
      cases (suc zero) z h =
          let d = bound (place ts) _ h in
          let e = bound (place ts) _ d.rest in
          let v = bound (place ts) _ e.rest in
          let ps = bound (counted (predicate ts)) _ v.rest in
          let g = given _ _ _ ps.rest in
          let t = placed_text (at + 1) start d.first in
          let t₁ = placed_text (at + 3) (omega arith) e.first in
          let t₂ = placed_text (at + 5) (omega arith) v.first in
          let y : v.next ≡ at + 7 = omega arith in
          subst (Parts at) (sym (same_guard ps.value t.is t₁.is t₂.is) ∙ g.0)
          (of_guard ps.value ps.next (kind 1 z) t.place_in (omega arith) t₁.place_in t₂.place_in
          (ap (counted (predicate ts) f) (sym y) ∙ ps.first))
      cases (suc (suc zero)) z h =
          let d = bound (place ts) _ h in
          let e = bound (place ts) _ d.rest in
          let v = bound (place ts) _ e.rest in
          let w = bound (place ts) _ v.rest in
          let g = given _ _ _ w.rest in
          let t = placed_text (at + 1) start d.first in
          let t₁ = placed_text (at + 3) (omega arith) e.first in
          let t₂ = placed_text (at + 5) (omega arith) v.first in
          let t₃ = placed_text (at + 7) (omega arith) w.first in
          subst (Parts at) (sym (same_transition t.is t₁.is t₂.is t₃.is) ∙ g.0)
          (of_transition (kind 2 z) t.place_in (omega arith) t₁.place_in t₂.place_in t₃.place_in)
      cases (suc (suc (suc zero))) z h =
          let d = bound (place ts) _ h in
          let p = bound (predicate ts) _ d.rest in
          let o = bound (predicate ts) _ p.rest in
          let n = bound u32 _ o.rest in
          let g = given _ _ _ n.rest in
          let t = placed_text (at + 1) start d.first in
          let y : d.next ≡ at + 3 = omega arith in
          subst (Parts at) (ap (λ (u : Text). response u p.value o.value n.value) (sym t.is) ∙ g.0)
          (of_response p.value o.value n.value p.next o.next (kind 3 z) t.place_in (omega arith)
          (ap (predicate ts f) (sym y) ∙ p.first) o.first (four_is f o.next n.first))
      cases (suc (suc (suc (suc n)))) z h = absurd (found.refused f k.next h)

  -- ---- the change of a record

  writes_is : (at : ℕ) (c : Option Write) → Placed ts c → two f (at + 3) < length ts → two f (at + 5) < length ts →
      writes_m f at c ≡ present_and (writes (T (two f (at + 3))) (T (two f (at + 5)))) (change_of x ts c)
  unfolding writes_m present_and writes
  writes_is at None h i j = refl
  writes_is at (Some w) h i j = rw (tb.same w.entity (two f (at + 3)) h.0 i, tb.same w.after (two f (at + 5)) h.1.1 j)

  passes_is : (at : ℕ) (c : Option Write) → Placed ts c → two f (at + 3) < length ts → two f (at + 5) < length ts →
      two f (at + 7) < length ts →
      passes_m f at c ≡ present_and (passes (T (two f (at + 3))) (T (two f (at + 5))) (T (two f (at + 7)))) (change_of x ts c)
  unfolding passes_m present_and passes
  passes_is at None h i j k = refl
  passes_is at (Some w) h i j k =
      rw (
        tb.same w.entity (two f (at + 3)) h.0 i,
        tb.same w.before (two f (at + 5)) h.1.0 j,
        tb.same w.after (two f (at + 7)) h.1.1 k,
      )

  about_is : (at : ℕ) (r : Record) → Placed ts r.change → two f (at + 3) < length ts → two f (at + 5) < length ts →
      about_m f at r
      ≡ (is_action (record_of x ts r) && present_and (writes (T (two f (at + 3))) (T (two f (at + 5))))
      (record_of x ts r).change)
  unfolding about_m record_of
  about_is at r h i j =
      ap (λ (z : Bool). z && writes_m f at r.change) (sym (action_is x ts r))
      ∙ ap (λ (z : Bool). is_action (record_of x ts r) && z) (writes_is at r.change h i j)

  -- ---- the record: values before it and after it
  module _ (at : ℕ) (vs ns ws os : List ℕ) (ok : Valued f x ts mo tb vs) (good : Valued f x ts mo tb ws) (r : Record)
      (placed : Placed ts r.change) (m : Memory) where
    abbrev before : List Cell
    before = cells_of x ts vs ns

    abbrev present : List Cell
    present = cells_of x ts ws os

    -- the code reads an invariant's predicates at second 0, the definition at midnight: without windows it is the same
    abbrev at_first : Moment
    at_first = moment_after mo.start 0

    abbrev Is : Invariant → Type 0
    Is i = shown_of (read_m f x at vs ws r m) ≡ read i before present (record_of x ts r) (memory_of m)

    -- where a response's parts stand, and what its predicates say
    module _ (p q : Predicate) (n b c : ℕ) (inside : at + 3 ≤ length f) (is-p : predicate ts f (at + 3) ≡ got p b)
        (is-q : predicate ts f b ≡ got q c) (is-n : four f c ≡ n) (w : (no_window p ≡ true) × (no_window q ≡ true)) where
      three : later at 3 ≡ at + 3
      three = later_is at 3 (omega (arith, tb.size))

      goal_is : goal_at f at ≡ b
      unfolding goal_at
      goal_is =
          let j = evaluate_is f x ts mo tb ws os good 0 (at + 3) p b is-p in
          rw three (later_is (at + 3) (size_m f (at + 3)) (omega (arith, j.ends, j.inside, tb.size)) ∙ sym j.ends)

      within_is : within_at f at ≡ c
      unfolding within_at
      within_is =
          let j = evaluate_is f x ts mo tb ws os good 0 b q c is-q in
          rw goal_is (later_is b (size_m f b) (omega (arith, j.ends, j.inside, tb.size)) ∙ sym j.ends)

      cause : truth_of (seen_m f x at vs ws).cause ≡ stated p present
      unfolding seen_m
      cause = ap (λ (y : ℕ). truth_of (evaluate_m f x ws 0 y)) three
          ∙ (evaluate_is f x ts mo tb ws os good 0 (at + 3) p b is-p).is
          ∙ same_truth at_first midnight present p w.0

      goal : truth_of (seen_m f x at vs ws).goal ≡ stated q present
      unfolding seen_m
      goal = ap (λ (y : ℕ). truth_of (evaluate_m f x ws 0 y)) goal_is ∙ (evaluate_is f x ts mo tb ws os good 0 b q c is-q).is
          ∙ same_truth at_first midnight present q w.1

      earlier : truth_of (seen_m f x at vs ws).earlier ≡ stated q before
      unfolding seen_m
      earlier = ap (λ (y : ℕ). truth_of (evaluate_m f x vs 0 y)) goal_is ∙ (evaluate_is f x ts mo tb vs ns ok 0 b q c is-q).is
          ∙ same_truth at_first midnight before q w.1

      within : (seen_m f x at vs ws).within ≡ n
      unfolding seen_m
      within = ap (four f) within_is ∙ is-n

      response_is : (id : Text) → shown_of (responded_m (seen_m f x at vs ws) r.second (eqb r.kind 9) m)
          ≡ read (response id p q n) before present (record_of x ts r) (memory_of m)
      unfolding read read_response record_of
      response_is id =
          responded_is (seen_m f x at vs ws) r.second (eqb r.kind 9) m
          ∙ ap (λ (y : kleene.Truth). told y (truth_of (seen_m f x at vs ws).goal) (truth_of (seen_m f x at vs ws).earlier)
          (seen_m f x at vs ws).within r.second (eqb r.kind 9) (memory_of m)) cause
          ∙ ap (λ (y : kleene.Truth). told (stated p present) y (truth_of (seen_m f x at vs ws).earlier)
          (seen_m f x at vs ws).within r.second (eqb r.kind 9) (memory_of m)) goal
          ∙ ap (λ (y : kleene.Truth). told (stated p present) (stated q present) y (seen_m f x at vs ws).within r.second
          (eqb r.kind 9) (memory_of m)) earlier
          ∙ ap (λ (y : ℕ). told (stated p present) (stated q present) (stated q before) y r.second (eqb r.kind 9)
          (memory_of m)) within
          ∙ ap (λ (y : Bool). told (stated p present) (stated q present) (stated q before) n r.second y (memory_of m))
          (sym (horizon_is x ts r))

    by_parts : (i : Invariant) → windowless_invariant i ≡ true → Parts at i → Is i
    unfolding windowless_invariant read_m read never_m guard_m transition_m record_of
    by_parts i w (of_never ps q k d inside e) =
        let t = later_is at 3 (omega (arith, tb.size)) in
        rw (k, t)
        (never_is (all_m f x ws 0 (at + 3)).truth (stated_all ps present) m
        ((all_is f x ts mo tb ws os good 0 (at + 3) ps q e).is ∙ same_truths at_first midnight present ps w))
    by_parts i w (of_guard ps q k d inside h j e) =
        let t = later_is at 7 (omega (arith, tb.size)) in
        rw (k, t, ← about_is at r placed h j)
        (guard_is (about_m f at r) (all_m f x vs 0 (at + 7)).truth (stated_all ps before) m
        ((all_is f x ts mo tb vs ns ok 0 (at + 7) ps q e).is ∙ same_truths at_first midnight before ps w))
    by_parts i w (of_transition k d inside h j o) =
        rw (k, ← passes_is at r.change placed h j o) (transition_is (passes_m f at r.change) m)
    by_parts i w (of_response p q n b c k d inside e g h) =
        rw k (response_is p q n b c inside e g h (both_true (no_window p) (no_window q) w) (T (two f (at + 1))))

    pub read_is : (i : Invariant) (q : ℕ) → invariant ts f at ≡ got i q → windowless_invariant i ≡ true → Is i
    read_is i q e w = by_parts i w (parts at i q e)
