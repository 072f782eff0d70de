-- The definitions by cases.
use Rattle.std.specs.Prelude.{Some, None, if◌then◌else◌}
use Prim.Native.Nat.{ℕ, suc, ◌+◌, ◌-◌, ◌%◌, ◌≤◌, ◌<◌}
use mathlib.Core.Path.{◌≡◌, sym, ◌∙◌, ap}
use mathlib.Core.Bool.{Bool, true, false}
use mathlib.Core.List.{List}
use lib.ListN.{get_or}
use borrow.Author.Tests.{ne_eqb, lt-ltb, le-ltb}
use native.Mathlib.Omega.{arith}
use Rattle.model_walk.specs.Walk.{Walked, predicate_size, actions_m}
use Rattle.runs.specs.Runs.{place_in}
use Rattle.runs.specs.declared.Place.{Place}
use Rattle.engine_fields.specs.Fields.{two, cap, entity_of}
use Rattle.engine_window.specs.Window.{open_m}
use Rattle.engine_state.specs.Machine.{later}
use Rattle.engine_state.specs.declared.Move.{Move}
use Rattle.engine_evaluate.specs.Evaluate.{
  both_m,
  against_m,
  value_m,
  evaluate_m,
  size_m,
  all_from,
  all_m,
  matches_m,
  any_from,
  any_m,
  end_m,
  judged_m,
  branch_m,
  select_from,
  select_m,
}
use Rattle.engine_evaluate.specs.declared.Truth.{Truth}
use Rattle.engine_evaluate.specs.declared.Truth.TheVariants.{Yes, No, Unknown}
use Rattle.engine_evaluate.specs.declared.Judged.{Judged}
use Rattle.engine_evaluate.specs.declared.Branch.{Branch}
use Rattle.engine_evaluate.specs.declared.Branch.TheVariants.{Take, Unclear, Skip}

pub one_less : (n : ℕ) → 0 < n → n ≡ suc (n - 1)
one_less n h = omega arith

pub none_left : (n : ℕ) → n ≤ 0 → n ≡ 0
none_left n h = omega arith

-- ---- predicates

pub size_is : (f : List ℕ) (at b : ℕ) → b ≡ get_or f at 0 → predicate_size b ≡ size_m f at
unfolding size_m
size_is f at b e = ap predicate_size e

pub note_is : (f x vs : List ℕ) (second at b : ℕ) → b ≡ get_or f at 0 → b ≡ 1 → Unknown ≡ evaluate_m f x vs second at
unfolding evaluate_m
note_is f x vs second at b eb h = rw (← eb, h)

-- a window is Yes while it is open, else No
module _ (f x vs : List ℕ) (second at b : ℕ) (o : Bool) (eb : b ≡ get_or f at 0) (w : b ≡ 2) (is : o ≡ open_m f x second at)
  where
    is_window : evaluate_m f x vs second at ≡ (if o then Yes else No)
    unfolding evaluate_m
    is_window = rw (← eb, w, is)

    pub window_yes : o ≡ true → Yes ≡ evaluate_m f x vs second at
    window_yes h = sym (is_window ∙ rw h)

    pub window_no : o ≡ false → No ≡ evaluate_m f x vs second at
    window_no h = sym (is_window ∙ rw h)

module _ (f x vs : List ℕ) (second at i e v : ℕ) (r : Truth) (hi : i ≡ two f (at + 1)) (he : e ≡ entity_of x i) where
  where_is : e ≡ entity_of x (two f (at + 1))
  where_is = he ∙ ap (entity_of x) hi

  pub evaluate_known : (b : ℕ) → b ≡ get_or f at 0 → (b ≡ 1 → ⊥) → (b ≡ 2 → ⊥) → e < 32 → v ≡ two f (at + 3) →
      r ≡ against_m x (get_or vs e 0) v → r ≡ evaluate_m f x vs second at
  unfolding evaluate_m value_m
  evaluate_known b eb nb nw h ev er = rw (← eb, ne_eqb b 1 nb, ne_eqb b 2 nw, ← where_is, ← ev, lt-ltb e 32 h) er

  pub evaluate_none : (b : ℕ) → b ≡ get_or f at 0 → (b ≡ 1 → ⊥) → (b ≡ 2 → ⊥) → 32 ≤ e → Unknown ≡ evaluate_m f x vs second at
  unfolding evaluate_m value_m
  evaluate_none b eb nb nw h = rw (← eb, ne_eqb b 1 nb, ne_eqb b 2 nw, ← where_is, le-ltb e 32 h)

pub all_start : (f x vs : List ℕ) (second at n p : ℕ) → n ≡ two f at → p ≡ later at 2 →
    all_m f x vs second at ≡ all_from f x vs second n p Yes
unfolding all_m
all_start f x vs second at n p e g = rw (e, g)

pub all_more : (f x vs : List ℕ) (second n p s q : ℕ) (t u w : Truth) → 0 < n → u ≡ evaluate_m f x vs second p →
    w ≡ both_m t u → s ≡ size_m f p → q ≡ later p s → all_from f x vs second n p t ≡ all_from f x vs second (n - 1) q w
unfolding all_from
all_more f x vs second n p s q t u w h eu ew es eq =
    ap (λ i. all_from f x vs second i p t) (one_less n h) ∙ rw (eq, es, ew, eu)

pub all_end : (f x vs : List ℕ) (second n p : ℕ) (t : Truth) → n ≤ 0 →
    all_from f x vs second n p t ≡ record { truth = t; next = p }
unfolding all_from
all_end f x vs second n p t h = rw (none_left n h)

-- ---- triggers

pub any_start : (f : List ℕ) (m : Move) (at n p : ℕ) → n ≡ two f at → p ≡ later at 2 → any_m f m at ≡ any_from f m n p
unfolding any_m
any_start f m at n p e g = rw (e, g)

module _ (f : List ℕ) (m : Move) (n p : ℕ) (b : Bool) (h : 0 < n) (is : b ≡ matches_m f m p) where
  pub any_here : b ≡ true → any_from f m n p ≡ true
  unfolding any_from
  any_here e = ap (λ i. any_from f m i p) (one_less n h) ∙ rw (sym is ∙ e, any_from)

  pub any_later : (q : ℕ) → b ≡ false → q ≡ later p 16 → any_from f m n p ≡ any_from f m (n - 1) q
  unfolding any_from
  any_later q e g = ap (λ i. any_from f m i p) (one_less n h) ∙ rw (sym is ∙ e, any_from, g)

pub any_end : (f : List ℕ) (m : Move) (n p : ℕ) → n ≤ 0 → any_from f m n p ≡ false
unfolding any_from
any_end f m n p h = rw (none_left n h)

-- ---- branches

pub end_to : (w : Walked) (at p n r : ℕ) → w ≡ Some (p, n) → r ≡ cap p → r ≡ end_m w at
unfolding end_m
end_to w at p n r e g = g ∙ sym (ap (λ v. end_m v at) e)

pub end_broken : (w : Walked) (at : ℕ) → w ≡ None → at ≡ end_m w at
unfolding end_m
end_broken w at e = sym (ap (λ v. end_m v at) e)

module _ (f x vs : List ℕ) (second at : ℕ) (j : Judged) (is : j ≡ all_m f x vs second at) where
  judged_is : branch_m f x vs second at ≡ judged_m f x j
  unfolding branch_m
  judged_is = ap (judged_m f x) (sym is)

  pub branch_yes : j.truth ≡ Yes → Take j.next ≡ branch_m f x vs second at
  unfolding judged_m
  branch_yes e = sym (judged_is ∙ rw (e, judged_m))

  pub branch_unknown : j.truth ≡ Unknown → Unclear ≡ branch_m f x vs second at
  unfolding judged_m
  branch_unknown e = sym (judged_is ∙ rw (e, judged_m))

  pub branch_no : (w : Walked) (q : ℕ) → j.truth ≡ No → w ≡ actions_m (get_or x 9 0) 17 f j.next 0 → q ≡ end_m w j.next →
      Skip q ≡ branch_m f x vs second at
  unfolding judged_m
  branch_no w q e g h = ap Skip (h ∙ ap (λ v. end_m v j.next) g) ∙ sym (judged_is ∙ rw (e, judged_m))

pub select_start : (f x vs : List ℕ) (second at n p : ℕ) → n ≡ two f at → p ≡ later at 2 →
    select_m f x vs second at ≡ select_from f x vs second n p
unfolding select_m
select_start f x vs second at n p e g = rw (e, g)

module _ (f x vs : List ℕ) (second n p : ℕ) (b : Branch) (h : 0 < n) (is : b ≡ branch_m f x vs second p) where
  pub select_take : (q : ℕ) → b ≡ Take q → select_from f x vs second n p ≡ Take q
  unfolding select_from
  select_take q e = ap (λ i. select_from f x vs second i p) (one_less n h) ∙ rw (sym is ∙ e, select_from)

  pub select_unclear : b ≡ Unclear → select_from f x vs second n p ≡ Unclear
  unfolding select_from
  select_unclear e = ap (λ i. select_from f x vs second i p) (one_less n h) ∙ rw (sym is ∙ e, select_from)

  pub select_skip : (q : ℕ) → b ≡ Skip q → select_from f x vs second n p ≡ select_from f x vs second (n - 1) q
  unfolding select_from
  select_skip q e = ap (λ i. select_from f x vs second i p) (one_less n h) ∙ rw (sym is ∙ e, select_from)

pub select_end : (f x vs : List ℕ) (second n p : ℕ) → n ≤ 0 → select_from f x vs second n p ≡ Take p
unfolding select_from
select_end f x vs second n p h = rw (none_left n h)

-- ---- places

pub left_small : (w : ℕ) (p : Place) → p ≡ place_in w → p.left - 1 < 65536
unfolding place_in
left_small w p e = let l : p.left ≡ w % 65536 = ap (λ q. q.left) e in omega arith
