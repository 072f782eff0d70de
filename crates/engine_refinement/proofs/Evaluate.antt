-- Predicates, triggers and branches at positions are judged as the definition judges what stands there.
-- A cell is found by its entity's number, and a write by number is a write by name.
use Rattle.std.specs.Prelude.{if◌then◌else◌}
use mathlib.Core.Path.{◌≡◌, refl, sym, ap, ◌∙◌, subst}
use mathlib.Core.List.{List, [], ◌∷◌}
use mathlib.Core.Bool.{Bool, true, false, ◌&&◌, ◌||◌, not}
use mathlib.Core.Option.{Option, none, some}
use Prim.Native.Nat.{ℕ, zero, suc, ◌+◌, ◌≤◌, ◌<◌}
use native.Mathlib.Omega.{arith}
use lib.ListN.{length, get_or, set}
use lib.Seq.{get_or-set_same, get_or-set_other}
use lib.Dec.{eqb}
use borrow.Author.Tests.{lt-ltb, eq-eqb, ne_eqb, eqb-true, eqb-false}
use Rattle.texts.specs.Lists.{absent, absent_or, any, find, each}
use Rattle.texts.specs.Texts.{Text, text, eq_t}
use Rattle.model_spec.specs.Model.{
  observational,
  Moment,
  Predicate,
  state,
  window,
  Trigger,
  Actions,
  Branches,
  no_branch,
  branch,
  Model,
}
use Rattle.model_spec.specs.File.{◌>>=◌ as ◌>>=ᵣ◌}
use Rattle.model_spec.specs.File.{
  got,
  Reader,
  give,
  refuse,
  u8,
  u16,
  u32,
  times,
  counted,
  place,
  predicate,
  trigger,
  branches,
  actions,
}
use Rattle.model_spec.specs.Validate.{undecided}
use Rattle.model_spec.specs.Notes.{of_actions}
use Rattle.model_walk.specs.Walk.{Walked, seen, capped, actions_m}
use Rattle.model_walk.proofs.Refines.{marks, sees_actions}
use Rattle.model_walk.proofs.Found.{
  Case,
  is_true,
  is_false,
  case,
  bound,
  given,
  u8_wide,
  u16_wide,
  u32_wide,
  source_wide,
  counted_found,
  Kind,
  kind_found,
  place_found,
  predicate_wide,
  Value?,
  trigger_found,
}
use Rattle.model_walk.proofs.Found as found
use Rattle.model_parts.proofs.Stands.{more}
use Rattle.model_order.specs.Order.{Fixed}
use Rattle.engine_spec.specs.Cells.{Cell, is_cell, cell_of, overwrite, put}
use Rattle.engine_spec.specs.Kleene.{◌and₃◌}
use Rattle.engine_spec.specs.Kleene as kleene
use Rattle.engine_spec.specs.Truth.{against, moment_after, is_open, evaluate, evaluate_all, matches}
use Rattle.engine_spec.specs.Engine.{select}
use Rattle.engine_window.specs.Window.{open_m}
use Rattle.engine_fields.specs.Fields.{two, four, name, entities, entity_from, entity_of}
use Rattle.engine_state.specs.Machine.{later}
use Rattle.engine_state.specs.declared.Move.{Move}
use Rattle.engine_evaluate.specs.Evaluate.{
  both_m,
  undecided_m,
  against_m,
  value_m,
  evaluate_m,
  size_m,
  all_from,
  all_m,
  admits_m,
  matches_m,
  any_from,
  any_m,
  end_m,
  judged_m,
  branch_m,
  select_from,
  select_m,
}
use Rattle.engine_evaluate.specs.declared.Truth.{Truth}
use Rattle.engine_evaluate.specs.declared.Truth.TheVariants.{Yes, No, Unknown}
use Rattle.engine_evaluate.specs.declared.Judged.{Judged}
use Rattle.engine_evaluate.specs.declared.Branch.{Branch}
use Rattle.engine_evaluate.specs.declared.Branch.TheVariants.{Take, Unclear}
use Rattle.engine_refinement.specs.Meaning.{truth_of, cell_at, cells_from, cells_of, Tabled}
use Rattle.engine_refinement.proofs.Numbers.{byte_is, two_is, four_is, later_is, cap_is, most_is}

-- ---- Kleene's conjunction

both_is : (a b : Truth) → truth_of (both_m a b) ≡ (truth_of a and₃ truth_of b)
unfolding both_m ◌and₃◌
both_is Yes b = refl
both_is No b = refl
both_is Unknown Yes = refl
both_is Unknown No = refl
both_is Unknown Unknown = refl

and_assoc : (a b c : kleene.Truth) → ((a and₃ b) and₃ c) ≡ (a and₃ (b and₃ c))
unfolding ◌and₃◌
and_assoc kleene.Yes b c = refl
and_assoc kleene.No b c = refl
and_assoc kleene.Unknown kleene.Yes c = refl
and_assoc kleene.Unknown kleene.No c = refl
and_assoc kleene.Unknown kleene.Unknown kleene.Yes = refl
and_assoc kleene.Unknown kleene.Unknown kleene.No = refl
and_assoc kleene.Unknown kleene.Unknown kleene.Unknown = refl

and_yes : (a : kleene.Truth) → (a and₃ kleene.Yes) ≡ a
unfolding ◌and₃◌
and_yes kleene.Yes = refl
and_yes kleene.No = refl
and_yes kleene.Unknown = refl

module _ (f x : List ℕ) (ts : List Text) (mo : Model) (tb : Tabled f x ts mo) where
  -- the text at a place
  abbrev T : ℕ → Text
  T v = get_or ts v []

  abbrev many : ℕ
  many = length mo.scenario.entities

  pub entities_are : entities x ≡ many
  unfolding entities
  entities_are = ap (λ (n : ℕ). n) (most_is (get_or x 0 0) 32 (omega (arith, tb.entities, tb.few_entities))) ∙ tb.entities

  pub fixed_is : (v w : ℕ) (t : Text) → v < length ts → Fixed ts w t → eq_t (T v) t ≡ eqb v w
  fixed_is v w t h g = ap (eq_t (T v)) (sym g.is_text) ∙ tb.same v w h g.is_in

  or_is : (a b : Bool) → (if a then true else b) ≡ (a || b)
  or_is true b = refl
  or_is false b = refl

  pub undecided_is : (v : ℕ) → v < length ts → undecided_m x v ≡ undecided (T v)
  unfolding undecided_m undecided
  undecided_is v h =
      or_is (eqb v (get_or x 6 0)) (eqb v (get_or x 7 0))
      ∙ ap (λ (b : Bool). b || eqb v (get_or x 7 0)) (sym (fixed_is v (get_or x 6 0) (text "unknown") h tb.unknown))
      ∙ ap (λ (b : Bool). eq_t (T v) (text "unknown") || b)
      (sym (fixed_is v (get_or x 7 0) (text "unavailable") h tb.unavailable))

  choice_is : (a b : Bool) →
      truth_of (if a then Yes else if b then Unknown else No)
      ≡ (if a then kleene.Yes else if b then kleene.Unknown else kleene.No)
  choice_is true b = refl
  choice_is false true = refl
  choice_is false false = refl

  against_is : (p v : ℕ) → p < length ts → v < length ts → truth_of (against_m x p v) ≡ against (T p) (T v)
  unfolding against_m against
  against_is p v h k =
      choice_is (eqb p v) (undecided_m x p)
      ∙ ap (λ (b : Bool). if b then kleene.Yes else if undecided_m x p then kleene.Unknown else kleene.No)
      (sym (tb.same p v h k))
      ∙ ap (λ (b : Bool). if eq_t (T p) (T v) then kleene.Yes else if b then kleene.Unknown else kleene.No) (undecided_is p h)

  -- ---- cells

  pub name_in : (e : ℕ) → e < many → name x e < length ts
  name_in e h =
      (tb.columns (record { name = []; domain = []; initial = []; tier = observational; stale_after = none }) e h).name_in

  -- the values are places of texts
  pub record Valued (vs : List ℕ) : Type 0 where
    pub long : length vs ≡ 32
    pub in_texts : (e : ℕ) → e < many → get_or vs e 0 < length ts

  pub data Sought (id : ℕ) (vs ns : List ℕ) (found : ℕ) (l : List Cell) : Type 0 where
    here : (j : ℕ) → j < many → found ≡ j → name x j ≡ id → cell_of (T id) l ≡ some (cell_at x ts vs ns j) →
        Sought id vs ns found l
    nowhere : found ≡ 32 → cell_of (T id) l ≡ none → Sought id vs ns found l

  pub cell_named : (vs ns : List ℕ) (id e : ℕ) → id < length ts → e < many →
      is_cell (T id) (cell_at x ts vs ns e) ≡ eqb (name x e) id
  unfolding is_cell cell_at
  cell_named vs ns id e h k = tb.same (name x e) id (name_in e k) h

  sought_step : (vs ns : List ℕ) (id left e : ℕ) → id < length ts → e < many →
      Sought id vs ns (entity_from x id left (e + 1)) (cells_from x ts vs ns left (e + 1)) →
      Sought id vs ns (entity_from x id (suc left) e) (cells_from x ts vs ns (suc left) e)
  unfolding entity_from cells_from cell_of find
  sought_step vs ns id left e h k rest = cases (case (eqb (name x e) id)) rest
    where
      cases : Case (eqb (name x e) id) →
          Sought id vs ns (entity_from x id left (e + 1)) (cells_from x ts vs ns left (e + 1)) →
          Sought id vs ns (entity_from x id (suc left) e) (cells_from x ts vs ns (suc left) e)
      cases (is_true b) r = here e k (rw (b, entity_from)) (eqb-true _ _ b) (rw (cell_named vs ns id e h k ∙ b))
      cases (is_false b) (here j g o n c) = here j g (rw (b, entity_from) o) n (rw (cell_named vs ns id e h k ∙ b) c)
      cases (is_false b) (nowhere o c) = nowhere (rw (b, entity_from) o) (rw (cell_named vs ns id e h k ∙ b) c)

  sought : (vs ns : List ℕ) (id : ℕ) → id < length ts → (left e : ℕ) → e + left ≤ many →
      Sought id vs ns (entity_from x id left e) (cells_from x ts vs ns left e)
  unfolding entity_from cells_from cell_of find
  sought vs ns id h zero e k = nowhere refl refl
  sought vs ns id h (suc left) e k =
      sought_step vs ns id left e h (omega arith) (sought vs ns id h left (e + 1) (omega arith))

  -- the cell with a name
  pub cell_is : (vs ns : List ℕ) (id : ℕ) → id < length ts → Sought id vs ns (entity_of x id) (cells_of x ts vs ns)
  unfolding entity_of cells_of
  cell_is vs ns id h = sought vs ns id h (entities x) 0 (omega (arith, entities_are))

  -- a write by number
  module _ (vs ns : List ℕ) (j v k : ℕ) (j-in : j < many) (v-long : j < length vs) (n-long : j < length ns) where
    abbrev vs' : List ℕ
    vs' = set vs j v

    abbrev ns' : List ℕ
    ns' = set ns j (get_or ns j 0 + k)

    one_written : (e : ℕ) → e < many → overwrite (T (name x j)) (T v) k (cell_at x ts vs ns e) ≡ cell_at x ts vs' ns' e
    unfolding overwrite cell_at
    one_written e h = cases (case (eqb (name x e) (name x j)))
      where
        cases : Case (eqb (name x e) (name x j)) →
            overwrite (T (name x j)) (T v) k (cell_at x ts vs ns e) ≡ cell_at x ts vs' ns' e
        cases (is_true b) =
            let z : e ≡ j = tb.names_differ e j h j-in (eqb-true _ _ b) in
            rw (
              cell_named vs ns (name x j) e (name_in j j-in) h ∙ b,
              z,
              get_or-set_same vs j v 0 v-long,
              get_or-set_same ns j (get_or ns j 0 + k) 0 n-long,
            )
        cases (is_false b) =
            let z : e ≡ j → ⊥ = λ q. eqb-false _ _ b (ap (λ (i : ℕ). name x i) q) in
            rw (
              cell_named vs ns (name x j) e (name_in j j-in) h ∙ b,
              get_or-set_other vs j e v 0 (λ q. z q),
              get_or-set_other ns j e (get_or ns j 0 + k) 0 (λ q. z q),
            )

    written : (left e : ℕ) → e + left ≤ many →
        put (T (name x j)) (T v) k (cells_from x ts vs ns left e) ≡ cells_from x ts vs' ns' left e
    unfolding put each cells_from
    written zero e h = refl
    written (suc left) e h =
        ap (λ (c : Cell). c ∷ each (overwrite (T (name x j)) (T v) k) (cells_from x ts vs ns left (e + 1)))
        (one_written e (omega arith))
        ∙ ap (λ (l : List Cell). cell_at x ts vs' ns' e ∷ l) (written left (e + 1) (omega arith))

    pub put_is : put (T (name x j)) (T v) k (cells_of x ts vs ns) ≡ cells_of x ts vs' ns'
    unfolding cells_of
    put_is = written (entities x) 0 (omega (arith, entities_are))

  -- where a predicate ends
  pub ends_at : (p : ℕ) (a : Predicate) (q : ℕ) → predicate ts f p ≡ got a q → (q ≡ p + size_m f p) × (q ≤ length f)
  unfolding size_m
  ends_at p a q e = let w = predicate_wide ts e in (w.ends, omega (arith, w.ends, w.inside))

  -- ---- predicates
  module _ (vs ns : List ℕ) (ok : Valued vs) (now : ℕ) where
    abbrev cs : List Cell
    cs = cells_of x ts vs ns

    abbrev at_now : Moment
    at_now = moment_after mo.start now

    value_is : (id v : ℕ) → id < length ts → v < length ts →
        truth_of (value_m x vs (entity_of x id) v) ≡ evaluate at_now (state (T id) (T v)) cs
    unfolding value_m evaluate cell_at
    value_is id v h k = cases (cell_is vs ns id h)
      where
        cases : Sought id vs ns (entity_of x id) cs →
            truth_of (value_m x vs (entity_of x id) v) ≡ evaluate at_now (state (T id) (T v)) cs
        cases (here j g o n c) =
            rw (o, lt-ltb j 32 (omega (arith, tb.few_entities)), c, evaluate)
            (against_is (get_or vs j 0) v (ok.in_texts j g) k)
        cases (nowhere o c) = rw (o, c, evaluate)

    -- a window is Yes or No
    open_is : (b : Bool) → truth_of (if b then Yes else No) ≡ (if b then kleene.Yes else kleene.No)
    open_is true = refl
    open_is false = refl

    window_is : (p d b e : ℕ) → get_or f (p + 1) 0 ≡ d → four f (p + 2) ≡ b → four f (p + 6) ≡ e →
        truth_of (if open_m f x now p then Yes else No) ≡ evaluate at_now (window d b e) cs
    unfolding open_m evaluate
    window_is p d b e h k l =
        open_is (open_m f x now p)
        ∙ (λ i. if is_open (h i) (k i) (l i) (moment_after (tb.start i) now) then kleene.Yes else kleene.No)

    unknown_is : (r : Text) → kleene.Unknown ≡ evaluate at_now (Predicate.unknown r) cs
    unfolding evaluate
    unknown_is r = refl

    -- the verdict, by the predicate's kind
    verdict_is : (p : ℕ) (a : Predicate) (q : ℕ) → predicate ts f p ≡ got a q →
        truth_of (evaluate_m f x vs now p) ≡ evaluate at_now a cs
    unfolding predicate evaluate_m
    verdict_is p a q e = cases k.kind refl k.holds
      where
        rs : List (Reader Predicate)
        rs =
            (place ts >>=ᵣ λ x. place ts >>=ᵣ λ v. give (state x v))
            ∷ (place ts >>=ᵣ λ r. give (Predicate.unknown r))
            ∷ (u8 >>=ᵣ λ d. u32 >>=ᵣ λ b. u32 >>=ᵣ λ e. give (window d b e))
            ∷ []

        k : Kind rs f p a q
        k = kind_found rs e

        behind : k.next ≡ p + 1
        behind = (u8_wide f p k.is_kind).ends

        -- the test of the kind
        kind_is : (i n : ℕ) → k.kind ≡ i → eqb (get_or f p 0) n ≡ eqb i n
        kind_is i n z = ap (λ (y : ℕ). eqb y n) (byte_is f p k.is_kind ∙ z)

        cases : (i : ℕ) → k.kind ≡ i → get_or rs i refuse f k.next ≡ got a q →
            truth_of (evaluate_m f x vs now p) ≡ evaluate at_now a cs
        cases zero z h =
            let e = bound (place ts) _ h in
            let v = bound (place ts) _ e.rest in
            let g = given _ _ _ v.rest in
            let a₁ = place_found ts e.first in
            let a₂ = place_found ts v.first in
            let w₁ = u16_wide f k.next a₁.is_place in
            let y₂ : e.next ≡ p + 3 = omega (arith, behind, w₁.ends) in
            let t₁ : two f (p + 1) ≡ a₁.at = ap (two f) (sym behind) ∙ two_is f k.next a₁.is_place in
            let t₂ : two f (p + 3) ≡ a₂.at = ap (two f) (sym y₂) ∙ two_is f e.next a₂.is_place in
            let n : a ≡ state (T a₁.at) (T a₂.at) =
            sym g.0 ∙ (λ j. state (a₁.is_text j) (a₂.is_text j)) in
            rw (kind_is 0 1 z, kind_is 0 2 z, t₁, t₂) (value_is a₁.at a₂.at a₁.is_in a₂.is_in)
            ∙ ap (λ (y : Predicate). evaluate at_now y cs) (sym n)
        cases (suc zero) z h =
            let r = bound (place ts) _ h in
            let g = given _ _ _ r.rest in
            rw (kind_is 1 1 z) (unknown_is r.value) ∙ ap (λ (y : Predicate). evaluate at_now y cs) g.0
        cases (suc (suc zero)) z h =
            let d = bound u8 _ h in
            let b = bound u32 _ d.rest in
            let v = bound u32 _ b.rest in
            let g = given _ _ _ v.rest in
            let w₁ = u8_wide f k.next d.first in
            let w₂ = u32_wide f d.next b.first in
            let y₁ : d.next ≡ p + 2 = omega (arith, behind, w₁.ends) in
            let y₂ : b.next ≡ p + 6 = omega (arith, y₁, w₂.ends) in
            rw (kind_is 2 1 z, kind_is 2 2 z)
            (window_is p d.value b.value v.value
            (ap (λ (i : ℕ). get_or f i 0) (sym behind) ∙ byte_is f k.next d.first)
            (ap (four f) (sym y₁) ∙ four_is f d.next b.first)
            (ap (four f) (sym y₂) ∙ four_is f b.next v.first))
            ∙ ap (λ (y : Predicate). evaluate at_now y cs) g.0
        cases (suc (suc (suc i))) z h = absurd (found.refused f k.next h)

    pub record Judges (p : ℕ) (a : Predicate) (q : ℕ) : Type 0 where
      pub is : truth_of (evaluate_m f x vs now p) ≡ evaluate at_now a cs
      pub ends : q ≡ p + size_m f p
      pub inside : q ≤ length f

    pub evaluate_is : (p : ℕ) (a : Predicate) (q : ℕ) → predicate ts f p ≡ got a q → Judges p a q
    evaluate_is p a q e =
        let w = ends_at p a q e in
        record { is = verdict_is p a q e; ends = w.0; inside = w.1 }

    pub record JudgesAll (j : Judged) (t : kleene.Truth) (q : ℕ) : Type 0 where
      pub is : truth_of j.truth ≡ t
      pub ends : j.next ≡ q

    all_from_lem : (n p : ℕ) (t : Truth) (l : List Predicate) (q : ℕ) → times n (predicate ts) f p ≡ got l q →
        JudgesAll (all_from f x vs now n p t) (truth_of t and₃ evaluate_all at_now l cs) q
    unfolding times give all_from evaluate_all
    all_from_lem zero p t l q e =
        let z : l ≡ [] = cc in
        let y : p ≡ q = cc in
        record {
          is = sym (and_yes (truth_of t)) ∙ ap (λ (y : List Predicate). truth_of t and₃ evaluate_all at_now y cs)
              (sym z);
          ends = y;
        }
    all_from_lem (suc n) p t l q e =
        let m = more (predicate ts) f n p e in
        let j = evaluate_is p m.first m.after m.is_first in
        let z : later p (size_m f p) ≡ m.after = later_is p (size_m f p) (omega (arith, j.ends, j.inside, tb.size))
        ∙ sym j.ends in
        let r = all_from_lem n m.after (both_m t (evaluate_m f x vs now p)) m.others q m.are_others in
        record {
          is = ap (λ (i : ℕ). truth_of (all_from f x vs now n i (both_m t (evaluate_m f x vs now p))).truth) z
              ∙ r.is
              ∙ ap (λ (y : kleene.Truth). y and₃ evaluate_all at_now m.others cs)
              (both_is t (evaluate_m f x vs now p) ∙ ap (λ (y : kleene.Truth). truth_of t and₃ y) j.is)
              ∙ and_assoc (truth_of t) (evaluate at_now m.first cs) (evaluate_all at_now m.others cs)
              ∙ ap (λ (y : List Predicate). truth_of t and₃ evaluate_all at_now y cs) (sym m.both);
          ends = ap (λ (i : ℕ). (all_from f x vs now n i (both_m t (evaluate_m f x vs now p))).next) z ∙ r.ends;
        }

    pub all_is : (p : ℕ) (l : List Predicate) (q : ℕ) → counted (predicate ts) f p ≡ got l q →
        JudgesAll (all_m f x vs now p) (evaluate_all at_now l cs) q
    unfolding all_m ◌and₃◌
    all_is p l q e =
        let c = counted_found (predicate ts) e in
        let w = u16_wide f p c.is_count in
        let z : later p 2 ≡ c.start = later_is p 2 (omega (arith, tb.size)) ∙ sym w.ends in
        rw (two_is f p c.is_count, z) (all_from_lem c.count c.start Yes l q c.are_values)

    -- ---- branches: the list that is taken stands where the reader `actions` finds it, and P holds of it
    module _ (P : Actions → Type 0) where
      abbrev pub Lists : Branches → Type 0
      Lists no_branch = Unit {0}
      Lists (branch ps l bs) = P l × Lists bs

      pub data Taken (r : Branch) (o : Option Actions) : Type 0 where
        takes : (p : ℕ) (a : Actions) (q : ℕ) → r ≡ Take p → actions ts 17 f p ≡ got a q → P a → o ≡ some a → Taken r o
        unclear : r ≡ Unclear → o ≡ none → Taken r o

      -- where a list ends
      list_end_lem : (p : ℕ) (a : Actions) (q : ℕ) → actions ts 17 f p ≡ got a q → q ≤ 4294967295 →
          end_m (actions_m (get_or x 9 0) 17 f p 0) p ≡ q
      unfolding end_m seen capped
      list_end_lem p a q e h =
          ap (λ (n : ℕ). end_m (actions_m n 17 f p 0) p) tb.texts
          ∙ ap (λ (w : Walked). end_m w p) (sees_actions ts 17 0 f p ∙ ap (seen (marks of_actions) 0) e)
          ∙ cap_is q h

      -- it begins in the file
      list_start : (p : ℕ) (a : Actions) (q : ℕ) → actions ts 17 f p ≡ got a q → p ≤ length f
      unfolding actions
      list_start p a q e =
          let c = bound u16 _ e in
          let w = u16_wide f p c.first in
          omega arith

      branches_start : (n p : ℕ) (bs : Branches) (q : ℕ) (d : Actions) (o : ℕ) →
          branches ts (actions ts 17) n f p ≡ got bs q → actions ts 17 f q ≡ got d o → p ≤ length f
      unfolding branches
      branches_start zero p bs q d o e g = let z = given _ _ _ e in omega (arith, z.1, list_start q d o g)
      branches_start (suc n) p bs q d o e g =
          let c = bound (counted (predicate ts)) _ e in
          let w = u16_wide f p (counted_found (predicate ts) c.first).is_count in
          omega arith

      select_from_lem : (n p : ℕ) (bs : Branches) (q : ℕ) (d : Actions) (o : ℕ) →
          branches ts (actions ts 17) n f p ≡ got bs q → actions ts 17 f q ≡ got d o → Lists bs → P d →
          Taken (select_from f x vs now n p) (select at_now bs d cs)
      unfolding branches select_from select branch_m judged_m
      select_from_lem zero p bs q d o e g ps pd =
          let z = given _ _ _ e in
          subst (λ (y : Branches). Taken (Take p) (select at_now y d cs)) z.0
          (takes p d o refl (ap (actions ts 17 f) z.1 ∙ g) pd refl)
      select_from_lem (suc n) p bs q d o e g ps pd =
          let c = bound (counted (predicate ts)) _ e in
          let a = bound (actions ts 17) _ c.rest in
          let r = bound (branches ts (actions ts 17) n) _ a.rest in
          let z = given _ _ _ r.rest in
          let e₃ : branches ts (actions ts 17) n f a.next ≡ got r.value q = r.first ∙ ap (got r.value) z.1 in
          let ps' : P a.value × Lists r.value = subst Lists (sym z.0) ps in
          let j = all_is p c.value c.next c.first in
          subst (λ (y : Branches). Taken (select_from f x vs now (suc n) p) (select at_now y d cs)) z.0
          (cases n p q d o c.value a.value r.value c.next a.next j a.first ps'.0
          (branches_start n a.next r.value q d o e₃ g)
          (select_from_lem n a.next r.value q d o e₃ g ps'.1 pd) (all_m f x vs now p).truth refl)
        where
          cases : (n p q : ℕ) (d : Actions) (o : ℕ) (ps : List Predicate) (l : Actions) (bs : Branches) (at end : ℕ) →
              JudgesAll (all_m f x vs now p) (evaluate_all at_now ps cs) at → actions ts 17 f at ≡ got l end → P l →
              end ≤ length f →
              Taken (select_from f x vs now n end) (select at_now bs d cs) → (t : Truth) → (all_m f x vs now p).truth ≡ t →
              Taken (select_from f x vs now (suc n) p) (select at_now (branch ps l bs) d cs)
          cases n p q d o ps l bs at end j h pl inside ih Yes t =
              let v : evaluate_all at_now ps cs ≡ kleene.Yes = sym j.is ∙ ap truth_of t in
              takes at l end (rw (t, judged_m, select_from) (ap Take j.ends)) h pl (rw (v, select))
          cases n p q d o ps l bs at end j h pl inside ih No t =
              let v : evaluate_all at_now ps cs ≡ kleene.No = sym j.is ∙ ap truth_of t in
              let w : end_m (actions_m (get_or x 9 0) 17 f (all_m f x vs now p).next 0) (all_m f x vs now p).next ≡ end =
              ap (λ (i : ℕ). end_m (actions_m (get_or x 9 0) 17 f i 0) i) j.ends
              ∙ list_end_lem at l end h (omega (arith, tb.size)) in
              rw (t, judged_m, select_from, v, select, w) ih
          cases n p q d o ps l bs at end j h pl inside ih Unknown t =
              let v : evaluate_all at_now ps cs ≡ kleene.Unknown = sym j.is ∙ ap truth_of t in
              unclear (rw (t, judged_m, select_from)) (rw (v, select))

      pub select_is : (p n at : ℕ) (bs : Branches) (q : ℕ) (d : Actions) (o : ℕ) → u16 f p ≡ got n at →
          branches ts (actions ts 17) n f at ≡ got bs q → actions ts 17 f q ≡ got d o → Lists bs → P d →
          Taken (select_m f x vs now p) (select at_now bs d cs)
      unfolding select_m
      select_is p n at bs q d o c e g ps pd =
          let w = u16_wide f p c in
          let z : later p 2 ≡ at = later_is p 2 (omega (arith, tb.size)) ∙ sym w.ends in
          rw (two_is f p c, z) (select_from_lem n at bs q d o e g ps pd)

  -- ---- triggers

  -- the places of a change are those of texts
  pub record Moved (m : Move) : Type 0 where
    pub entity_in : m.entity < length ts
    pub from_in : m.from < length ts
    pub to_in : m.to < length ts

  admits_is : (p v : ℕ) (o : Option Text) → v < length ts → Value? ts p o → admits_m p v ≡ absent_or (λ t. eq_t t (T v)) o
  unfolding admits_m absent_or
  admits_is p v none h (found.absent e) = rw (eq-eqb p 65535 e)
  admits_is p v (some t) h (found.present e k) = rw (ne_eqb p 65535 e) (sym (tb.same p v k h))

  tests_are : (a b c d e : Bool) →
      (if a then (if b then (if c then false else (if d then e else false)) else false) else false)
      ≡ (a && b && not c && d && e)
  tests_are true true true d e = refl
  tests_are true true false true e = refl
  tests_are true true false false e = refl
  tests_are true false c d e = refl
  tests_are false b c d e = refl

  note_is : (p : ℕ) (o : Option Text) → Value? ts p o → eqb p 65535 ≡ absent o
  unfolding absent
  note_is p none (found.absent e) = eq-eqb p 65535 e
  note_is p (some t) (found.present e k) = ne_eqb p 65535 e

  pub record Matched (at : ℕ) (t : Trigger) (q : ℕ) : Type 0 where
    pub is : (m : Move) → Moved m → matches_m f m at ≡ matches (T m.entity) (T m.from) (T m.to) t
    pub note : eqb (two f (at + 14)) 65535 ≡ absent t.note
    pub ends : q ≡ at + 16
    pub inside : at + 16 ≤ length f

  pub matches_is : (at : ℕ) (t : Trigger) (q : ℕ) → trigger ts f at ≡ got t q → Matched at t q
  unfolding matches_m matches
  matches_is at t q e =
      let p = trigger_found ts e in
      let w₁ = u16_wide f at p.entity_at.is_place in
      let w₂ = u16_wide f p.at_from p.from_at.is_place in
      let w₃ = u16_wide f p.at_to p.to_at.is_place in
      let w₄ = source_wide f p.at_source p.source_at in
      let w₅ = u16_wide f p.at_note p.note_at.is_place in
      let y₂ : p.at_from ≡ at + 2 = w₁.ends in
      let y₃ : p.at_to ≡ at + 4 = omega arith in
      let y₅ : p.at_note ≡ at + 14 = omega arith in
      let t₁ : two f at ≡ p.entity_at.at = two_is f at p.entity_at.is_place in
      let t₂ : two f (at + 2) ≡ p.from_at.at = ap (two f) (sym y₂) ∙ two_is f p.at_from p.from_at.is_place in
      let t₃ : two f (at + 4) ≡ p.to_at.at = ap (two f) (sym y₃) ∙ two_is f p.at_to p.to_at.is_place in
      let t₅ : two f (at + 14) ≡ p.note_at.at = ap (two f) (sym y₅) ∙ two_is f p.at_note p.note_at.is_place in
      record {
        is = λ m h. rw (t₁, t₂, t₃, t₅) (
            tests_are (eqb p.note_at.at 65535) (eqb p.entity_at.at m.entity) (eqb m.from m.to)
            (admits_m p.from_at.at m.from) (admits_m p.to_at.at m.to)
            ∙ rw (
              note_is p.note_at.at t.note p.note_at.is_value,
              ap (λ (y : Text). eq_t y (T m.entity)) p.entity_at.is_text
                  ∙ tb.same p.entity_at.at m.entity p.entity_at.is_in h.entity_in,
              tb.same m.from m.to h.from_in h.to_in,
              admits_is p.from_at.at m.from t.from h.from_in p.from_at.is_value,
              admits_is p.to_at.at m.to t.to h.to_in p.to_at.is_value,
            ));
        note = rw t₅ (note_is p.note_at.at t.note p.note_at.is_value);
        ends = omega arith;
        inside = omega arith;
      }

  any_from_lem : (m : Move) → Moved m → (n p : ℕ) (l : List Trigger) (q : ℕ) → times n (trigger ts) f p ≡ got l q →
      any_from f m n p ≡ any (matches (T m.entity) (T m.from) (T m.to)) l
  unfolding times give any_from any
  any_from_lem m h zero p l q e = let z : l ≡ [] = cc in rw z
  any_from_lem m h (suc n) p l q e =
      let r = more (trigger ts) f n p e in
      let j = matches_is p r.first r.after r.is_first in
      let z : later p 16 ≡ r.after = later_is p 16 (omega (arith, j.inside, tb.size)) ∙ sym j.ends in
      cases (matches_m f m p) (matches (T m.entity) (T m.from) (T m.to) r.first) (any_from f m n (later p 16))
      (any (matches (T m.entity) (T m.from) (T m.to)) r.others) (j.is m h)
      (rw z (any_from_lem m h n r.after r.others q r.are_others))
      ∙ ap (any (matches (T m.entity) (T m.from) (T m.to))) (sym r.both)
    where
      cases : (a b c d : Bool) → a ≡ b → c ≡ d → (elim a [ true ↦ true | false ↦ c ]) ≡ (b || d)
      cases true b c d e g = rw (← e)
      cases false b c d e g = rw (← e) g

  pub any_is : (m : Move) → Moved m → (p : ℕ) (l : List Trigger) (q : ℕ) → counted (trigger ts) f p ≡ got l q →
      any_m f m p ≡ any (matches (T m.entity) (T m.from) (T m.to)) l
  unfolding any_m
  any_is m h p l q e =
      let c = counted_found (trigger ts) e in
      let w = u16_wide f p c.is_count in
      let z : later p 2 ≡ c.start = later_is p 2 (omega (arith, tb.size)) ∙ sym w.ends in
      rw (two_is f p c.is_count, z) (any_from_lem m h c.count c.start l q c.are_values)
