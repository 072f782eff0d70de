-- No candidate of an accepted model is refused.
use Prim.Native.Nat.{ℕ, ◌+◌, ◌≤◌}
use mathlib.Core.Path.{◌≡◌, refl, sym, ap, ◌∙◌}
use mathlib.Core.Bool.{Bool, true, false, ◌||◌, not}
use mathlib.Core.List.{List, [], ◌∷◌, ◌++◌, Memᴰ}
use native.Mathlib.Omega.{arith}
use lib.Dec.{ltb, leb, eqb}
use lib.ListN.{length}
use borrow.Author.Tests.{le-ltb, ltb-false, leb-true}
use Rattle.texts.specs.Lists.{is_empty, any, each}
use Rattle.model_spec.specs.Answer.{Answer, answer, Verdict, accept, ◌>>=◌, ◌and◌, ◌when◌, each_accepted}
use Rattle.model_spec.specs.Model.{Event, Input, Scenario, Model, with_events}
use Rattle.model_spec.specs.Events.{Some, no_more, skip, keep}
use Rattle.model_spec.specs.Validate.{
  day,
  ordered,
  bad_title,
  bad_size,
  bad_limits,
  bad_start,
  bad_alphabet,
  bad_events,
  check_input,
  check_rules,
  validate,
}
use Rattle.engine_spec.proofs.Lists.{or_no, and_l, and_r, le-leb, each_weak}
use Rattle.engine_spec.specs.Each.{Each}
use Rattle.engine_spec.proofs.Validated.{and_first, and_inv, when_inv, bind_inv, or_no', few_parts}
use Rattle.engine_spec.specs.Cells.{Cell, initial_cells}
use Rattle.engine_spec.specs.Records.{Areas}
use Rattle.engine_spec.specs.Simulate.{ended, outcome, simulated}
use Rattle.checker_spec.specs.Check.{checked}
use Rattle.checker_spec.specs.Verify.{last_at}
use Rattle.checker_spec.specs.Candidates.{Placed, nothing_yet, one_more, Accepts, check_model, Candidates}
use Rattle.checker_spec.proofs.Some.{some_each}

-- ---- verdicts

and_so : {A : Type 0} (v : Verdict) (x r : Answer A) → v ≡ accept → x ≡ r → (v and x) ≡ r
unfolding ◌and◌
and_so v x r p q = ap (λ (y : Verdict). y and x) p ∙ q

when_so : (n : ℕ) (t : Bool) → t ≡ false → (n when t) ≡ accept
unfolding ◌when◌
when_so n t h = ap (λ (b : Bool). n when b) h

module _ {A : Type 0} (g : A → Verdict) where
  each_split : (l m : List A) → each_accepted g (l ++ m) ≡ accept →
      (each_accepted g l ≡ accept) × (each_accepted g m ≡ accept)
  unfolding each_accepted
  each_split [] m h = (refl, h)
  each_split (x ∷ l) m h =
      let r = each_split l m (and_inv (g x) (each_accepted g (l ++ m)) tt h) in
      (and_so (g x) (each_accepted g l) accept (and_first (g x) (each_accepted g (l ++ m)) tt h) r.0, r.1)

  each_join : (l m : List A) → each_accepted g l ≡ accept → each_accepted g m ≡ accept → each_accepted g (l ++ m) ≡ accept
  unfolding each_accepted
  each_join [] m h k = k
  each_join (x ∷ l) m h k =
      and_so (g x) (each_accepted g (l ++ m)) accept (and_first (g x) (each_accepted g l) tt h)
      (each_join l m (and_inv (g x) (each_accepted g l) tt h) k)

  each_mem : {a : A} (l : List A) → Memᴰ a l → each_accepted g l ≡ accept → g a ≡ accept
  unfolding each_accepted
  each_mem {a = a} [] x'' h = elim x'' [ ]
  each_mem (x ∷ l) (Memᴰ.head e) h = ap g e ∙ and_first (g x) (each_accepted g l) tt h
  each_mem (x ∷ l) (Memᴰ.tail i) h = each_mem l i (and_inv (g x) (each_accepted g l) tt h)

-- ---- the events that a model may have instead

-- what `validate` tests of a model's events, but for their number
record Fit (m : Model) (vs : List Event) : Type 0 where
  inputs : each_accepted (check_input m.scenario.entities) (each (λ e. e.input) vs) ≡ accept
  within : any (λ e. ltb m.scenario.limits.horizon e.at) vs ≡ false
  rising : ordered vs ≡ true

-- a check reads no events of the model
pub same_check : (m : Model) (areas : Areas) (vs : List Event) (cells : List Cell) →
    checked areas (with_events vs m) cells vs ≡ checked areas m cells vs
unfolding checked simulated ended outcome
same_check m areas vs cells = refl

-- the model's other tests are the same
size_with : (m : Model) (vs : List Event) → bad_size m ≡ false → length vs ≤ 100 → bad_size (with_events vs m) ≡ false
unfolding bad_size
size_with m vs h few =
    let s = m.scenario in
    let a = is_empty s.entities || ltb 32 (length s.entities) || ltb 32 (length m.rules) in
    let d = ltb 100 (length s.events) in
    let e = ltb 32 (length s.invariants) in
    rw (or_no a d (or_no (a || d) e h), le-ltb 100 (length vs) few) (or_no' (a || d) e h)

module _ (m : Model) (valid : validate m ≡ answer m) where
  abbrev s : Scenario
  s = m.scenario

  record Passed : Type 0 where
    title : bad_title s ≡ false
    size : bad_size m ≡ false
    limits : bad_limits s.limits ≡ false
    inputs : each_accepted (check_input s.entities) (each (λ e. e.input) s.events ++ s.alphabet) ≡ accept
    events : bad_events s.limits.horizon s.events ≡ false

  passed : Passed
  unfolding validate
  passed =
      let e₂ = and_inv _ _ m valid in
      let e₃ = and_inv _ _ m e₂ in
      let e₆ = and_inv _ _ m (and_inv _ _ m (and_inv _ _ m e₃)) in
      record {
        title = when_inv _ _ _ m valid;
        size = when_inv _ _ _ m e₂;
        limits = or_no (bad_limits s.limits) (bad_start m.start) (when_inv _ _ _ m e₃);
        inputs = and_first _ _ m e₆;
        events = when_inv _ _ _ m (and_inv _ _ m e₆);
      }

  split_inputs : (each_accepted (check_input s.entities) (each (λ e. e.input) s.events) ≡ accept)
      × (each_accepted (check_input s.entities) s.alphabet ≡ accept)
  split_inputs = each_split (check_input s.entities) (each (λ e. e.input) s.events) s.alphabet passed.inputs

  accepts : (vs : List Event) → length vs ≤ 100 → Fit m vs → Accepts m vs
  unfolding validate bad_title bad_alphabet bad_events ◌>>=◌
  accepts vs few fit =
      let e₂ = and_inv _ _ m valid in
      let e₃ = and_inv _ _ m e₂ in
      let e₄ = and_inv _ _ m e₃ in
      let e₅ = and_inv _ _ m e₄ in
      let e₈ = and_inv _ _ m (and_inv _ _ m (and_inv _ _ m e₅)) in
      let rules = (bind_inv (check_rules s.entities [] m.rules 0) (λ k. answer m) m (and_inv _ _ m e₈)).1.0 in
      and_so _ _ _ (when_so 1 _ (when_inv _ _ _ m valid))
      (and_so _ _ _ (when_so 2 _ (size_with m vs passed.size few))
      (and_so _ _ _ (and_first _ _ m e₃)
      (and_so _ _ _ (when_so 4 _ (when_inv _ _ _ m e₄))
      (and_so _ _ _ (and_first _ _ m e₅)
      (and_so _ _ _ (each_join (check_input s.entities) (each (λ e. e.input) vs) s.alphabet fit.inputs
      split_inputs.1)
      (and_so _ _ _ (when_so 9 _ (rw (fit.within, fit.rising)))
      (and_so _ _ _ (and_first _ _ m e₈) (rw rules))))))))

  -- ---- a search's cases

  ordered_end : (vs : List Event) (e : Event) → ordered vs ≡ true → last_at vs ≤ e.at → ordered (vs ++ e ∷ []) ≡ true
  unfolding ordered last_at
  ordered_end [] e o h = refl
  ordered_end (a ∷ []) e o h = rw (le-leb a.at e.at h)
  ordered_end (a ∷ b ∷ l) e o h =
      rw (and_l (leb a.at b.at) (ordered (b ∷ l)) o)
      (ordered_end (b ∷ l) e (and_r (leb a.at b.at) (ordered (b ∷ l)) o) h)

  any_end : (p : Event → Bool) (vs : List Event) (e : Event) → any p vs ≡ false → p e ≡ false → any p (vs ++ e ∷ []) ≡ false
  unfolding any
  any_end p [] e a b = rw b
  any_end p (v ∷ vs) e a b = rw (or_no (p v) (any p vs) a) (any_end p vs e (or_no' (p v) (any p vs) a) b)

  each_end : (vs : List Event) (e : Event) → each (λ v. v.input) (vs ++ e ∷ []) ≡ each (λ v. v.input) vs ++ e.input ∷ []
  unfolding each
  each_end [] e = refl
  each_end (v ∷ vs) e = ap (λ (l : List Input). v.input ∷ l) (each_end vs e)

  placed_fit : {vs : List Event} → Placed s vs → Fit m vs
  unfolding ordered any each each_accepted
  placed_fit nothing_yet = record { inputs = refl; within = refl; rising = refl }
  placed_fit (one_more {vs} {g} {i} p at_gap of-input h) =
      let f = placed_fit p in
      let e : Event = record { at = last_at vs + g; input = i } in
      let one = each_mem (check_input s.entities) s.alphabet of-input split_inputs.1 in
      record {
        inputs = rw (each_end vs e) (each_join (check_input s.entities) (each (λ v. v.input) vs) (i ∷ []) f.inputs
            (and_so (check_input s.entities i) accept accept one refl));
        within = any_end (λ v. ltb s.limits.horizon v.at) vs e f.within
            (le-ltb s.limits.horizon (last_at vs + g) h);
        rising = ordered_end vs e f.rising (omega arith);
      }

  shallow : s.limits.search_depth ≤ 5
  unfolding bad_limits
  shallow =
      let l = s.limits in
      let a = ltb day l.horizon || eqb l.max_steps 0 || ltb 10000 l.max_steps in
      let d = ltb 5 l.search_depth in
      let e = eqb l.max_cases 0 in
      let g = ltb 2000 l.max_cases in
      ltb-false 5 l.search_depth (or_no' a d (or_no (a || d) e (or_no (a || d || e) g passed.limits)))

  -- ---- some of the model's events

  -- seconds never fall, each compared with all that follow
  abbrev Rising : List Event → Type 0
  Rising [] = Unit {0}
  Rising (v ∷ l) = Each (λ (w : Event). v.at ≤ w.at) l × Rising l

  rising_of : (l : List Event) → ordered l ≡ true → Rising l
  unfolding ordered
  rising_of [] h = tt
  rising_of (a ∷ []) h = (tt, tt)
  rising_of (a ∷ b ∷ l) h =
      let o = leb-true a.at b.at (and_l (leb a.at b.at) (ordered (b ∷ l)) h) in
      let r = rising_of (b ∷ l) (and_r (leb a.at b.at) (ordered (b ∷ l)) h) in
      ((o, each_weak (λ (w : Event). b.at ≤ w.at) (λ (w : Event). a.at ≤ w.at) (λ w k. omega arith) l r.0), r)

  ordered_of : (l : List Event) → Rising l → ordered l ≡ true
  unfolding ordered
  ordered_of [] r = refl
  ordered_of (a ∷ []) r = refl
  ordered_of (a ∷ b ∷ l) r = rw (le-leb a.at b.at r.0.0) (ordered_of (b ∷ l) r.1)

  some_rising : {l k : List Event} → Some l k → Rising k → Rising l
  some_rising no_more h = tt
  some_rising (skip a) h = some_rising a h.1
  some_rising (keep {x} a) h = (some_each (λ (w : Event). x.at ≤ w.at) a h.0, some_rising a h.1)

  some_size : {l k : List Event} → Some l k → length l ≤ length k
  some_size no_more = omega arith
  some_size (skip a) = omega (arith, some_size a)
  some_size (keep a) = omega (arith, some_size a)

  some_any : (p : Event → Bool) {l k : List Event} → Some l k → any p k ≡ false → any p l ≡ false
  unfolding any
  some_any p no_more h = h
  some_any p (skip {x} {l} {m = k} a) h = some_any p a (or_no' (p x) (any p k) h)
  some_any p (keep {x} {l} {m = k} a) h = rw (or_no (p x) (any p k) h) (some_any p a (or_no' (p x) (any p k) h))

  some_inputs : (g : Input → Verdict) {l k : List Event} → Some l k → each_accepted g (each (λ e. e.input) k) ≡ accept →
      each_accepted g (each (λ e. e.input) l) ≡ accept
  unfolding each_accepted each
  some_inputs g no_more h = h
  some_inputs g (skip {x} {l} {m = k} a) h = some_inputs g a (and_inv (g x.input) _ tt h)
  some_inputs g (keep {x} {l} {m = k} a) h =
      and_so (g x.input) _ accept (and_first (g x.input) _ tt h) (some_inputs g a (and_inv (g x.input) _ tt h))

  not_no : (b : Bool) → not b ≡ false → b ≡ true
  not_no true h = refl
  not_no false h = sym h

  some_fit : {vs : List Event} → Some vs s.events → Fit m vs
  unfolding bad_events
  some_fit {vs} a =
      let late = any (λ e. ltb s.limits.horizon e.at) s.events in
      let o = not_no (ordered s.events) (or_no' late (not (ordered s.events)) passed.events) in
      record {
        inputs = some_inputs (check_input s.entities) a split_inputs.0;
        within = some_any (λ e. ltb s.limits.horizon e.at) a
            (or_no late (not (ordered s.events)) passed.events);
        rising = ordered_of vs (some_rising a (rising_of s.events o));
      }

  candidate_check : (areas : Areas) (vs : List Event) → Accepts m vs →
      check_model areas (with_events vs m) ≡ checked areas m (initial_cells s.entities) vs
  unfolding check_model ◌>>=◌
  candidate_check areas vs a = rw a (same_check m areas vs (initial_cells s.entities))

  pub candidates_accepted : Candidates m
  candidates_accepted = record {
    cases = λ vs c. accepts vs (omega (arith, c.depth, shallow)) (placed_fit c.placed);
    reductions = λ vs a. accepts vs (omega (arith, some_size a, (few_parts m passed.size).events)) (some_fit a);
    checks = candidate_check;
  }
