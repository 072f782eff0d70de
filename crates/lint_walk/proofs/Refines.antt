-- The walk over an automation's actions finds the positions of the definition's actions, in order, and ends where the reader
-- ends.
use mathlib.Core.Path.{◌≡◌, refl, sym, ap, ◌∙◌, subst}
use mathlib.Core.List.{List, [], ◌∷◌, ◌++◌, append_assoc, append-nil}
use Prim.Native.Nat.{ℕ, zero, suc, ◌+◌, ◌-◌, ◌≤◌, ◌<◌}
use native.Mathlib.Omega.{arith}
use native.Mathlib.Numerals.{add-one}
use lib.ListN.{length, take, set, length-append, length-set, length-replicate}
use lib.Seq.{take-suc-set}
use Rattle.texts.specs.Texts.{Text}
use Rattle.model_spec.specs.Model.{Effect, toggle, delay, condition, choose, wait, Actions, Branches, Automation}
use Rattle.model_spec.specs.File.{got, u16, counted, source, predicate, branches, effect, actions_of, actions}
use Rattle.model_walk.proofs.Found.{bound, given, u16_wide}
use Rattle.model_walk.proofs.Found as found
use Rattle.lint_spec.specs.Touches.{Action, within, walk, within_branches}
use Rattle.lint_spec.specs.Touches as touches
use Rattle.lint_walk.specs.declared.Walk.{Walk}
use Rattle.lint_walk.specs.Raw.{past, repeat, predicates_end, simple_end, kind_m, actions_m}
use Rattle.lint_walk.specs.Walks.{
  moved_m,
  noted_m,
  entered_m,
  simple_m,
  action_m,
  branch_m,
  choice_m,
  list_m,
  fresh,
  walk_m,
  list_end,
}
use Rattle.lint_walk.proofs.Laws as laws
use Rattle.lint_walk.proofs.Found.{
  past_is,
  place_got,
  SourceAt,
  source_found,
  predicates_end_lem,
  EffectAt,
  set_at,
  toggle_at,
  delay_at,
  condition_at,
  choose_at,
  wait_at,
  unknown_at,
  effect_found,
  ActionAt,
  RuleAt,
}

-- the walk's list begins with these positions, and has no more
pub record Filled (w : Walk) (ps : List ℕ) : Type 0 where
  pub size : length w.list ≡ 512
  pub many : w.count ≡ length ps
  pub front : take (length ps) w.list ≡ ps

take_more : (l : List ℕ) (ps : List ℕ) (x : ℕ) → length ps < length l → take (length ps) l ≡ ps →
    take (length (ps ++ x ∷ [])) (set l (length ps) x) ≡ ps ++ x ∷ []
take_more l ps x h e =
    let n : length (ps ++ x ∷ []) ≡ suc (length ps) = length-append ps (x ∷ []) ∙ add-one (length ps) in
    rw n (take-suc-set l (length ps) x h ∙ ap (λ (y : List ℕ). y ++ x ∷ []) e)

module _ (ts : List Text) (s : List ℕ) where
  -- positions of actions, one by one
  pub data ActionsAt : List ℕ → List Action → Type 0 where
    no_action : ActionsAt [] []
    action : {p : ℕ} {a : Action} {ps : List ℕ} {l : List Action} → ActionAt ts s p a → ActionsAt ps l →
        ActionsAt (p ∷ ps) (a ∷ l)

  pub actions_append : {ps qs : List ℕ} {l m : List Action} → ActionsAt ps l → ActionsAt qs m → ActionsAt (ps ++ qs) (l ++ m)
  actions_append no_action g = g
  actions_append (action a f) g = action a (actions_append f g)

  -- a walk from w to v finds the actions, and ends at q
  pub record Went (w v : Walk) (acts : List Action) (q : ℕ) : Type 0 where
    pub next : v.next ≡ q
    pub finds : (ps : List ℕ) → Filled w ps → length ps + length acts ≤ 512 →
        (qs : List ℕ) × (Filled v (ps ++ qs) × ActionsAt qs acts)

  went_then : {w v u : Walk} (a b : List Action) {p q : ℕ} → Went w v a p → Went v u b q → Went w u (a ++ b) q
  went_then a b f g = record {
    next = g.next;
    finds = λ ps h k.
        let n = length-append a b in
        let x = f.finds ps h (omega arith) in
        let m = len x.1.1 in
        let y = g.finds (ps ++ x.0) x.1.0 (omega (arith, length-append ps x.0)) in
        (x.0 ++ y.0, (subst (Filled _) (append_assoc ps x.0 y.0) y.1.0, actions_append x.1.1 y.1.1));
  }
    where
      len : {qs : List ℕ} {l : List Action} → ActionsAt qs l → length qs ≡ length l
      len no_action = refl
      len (action x y) = ap suc (len y)

  went_same : {w v : Walk} {a b : List Action} {p q : ℕ} → Went w v a p → a ≡ b → p ≡ q → Went w v b q
  went_same {w} {v} {a} {b} {p} {q} f e g = subst (λ (l : List Action). Went w v l q) e (subst (λ (n : ℕ). Went w v a n) g f)

  went_to : {w v u : Walk} {a : List Action} {q : ℕ} → Went w v a q → v ≡ u → Went w u a q
  went_to {w} {v} {u} {a} {q} f e = subst (λ (x : Walk). Went w x a q) e f

  went_moved : (w : Walk) (q : ℕ) → Went w (moved_m w q) [] q
  unfolding moved_m
  went_moved w q =
      record {
        next = refl;
        finds =
            λ ps h k. ([], (rw (append-nil ps) (record { size = h.size; many = h.many; front = h.front }), no_action));
      }

  -- one action
  went_noted : (w : Walk) (q : ℕ) (a : Action) → ActionAt ts s w.next a → Went w (moved_m (noted_m w) q) (a ∷ []) q
  unfolding moved_m
  went_noted w q a f = record {
    next = refl;
    finds = λ ps h k.
        let b : w.count < 512 = omega (arith, h.many) in (
          w.next ∷ [],
          (
            rw (laws.noted_in w b) (record {
              size = length-set w.list w.count w.next ∙ h.size;
              many = ap (λ (n : ℕ). n + 1) h.many ∙ sym (length-append ps (w.next ∷ []));
              front = rw h.many (take_more w.list ps w.next (omega (arith, h.size)) h.front);
            }),
            action f no_action,
          ),
        );
  }

  -- the walk over an inner list, and its reader, are given
  module _ (left : ℕ) (shallow : left ≤ 18) (inner : Walk → Walk)
      (ih : (w : Walk) (a : Actions) (q : ℕ) → actions ts left s w.next ≡ got a q → Went w (inner w) (walk a) q) where
    went_branches : (n : ℕ) (w : Walk) (b : Branches) (q : ℕ) → branches ts (actions ts left) n s w.next ≡ got b q →
        Went w (repeat n (branch_m s inner) w) (within_branches b) q
    unfolding branches repeat within_branches moved_m
    went_branches zero w b q e =
        let z = given _ _ _ e in
        went_same (went_to (went_moved w w.next) refl) (ap within_branches z.0) z.1
    went_branches (suc n) w b q e =
        let c = bound (counted (predicate ts)) _ e in
        let a = bound (actions ts left) _ c.rest in
        let r = bound (branches ts (actions ts left) n) _ a.rest in
        let z = given _ _ _ r.rest in
        let v = moved_m w (predicates_end s w.next) in
        let m : predicates_end s w.next ≡ c.next = predicates_end_lem ts s w.next c.first in
        let f₁ = went_moved w (predicates_end s w.next) in
        let f₂ = ih v a.value a.next (ap (actions ts left s) m ∙ a.first) in
        let f₃ : Went w (branch_m s inner w) (walk a.value) a.next =
        went_to (went_then [] (walk a.value) f₁ f₂) (sym (laws.branch_is s w inner)) in
        let g = went_branches n (branch_m s inner w) r.value q
        (ap (branches ts (actions ts left) n s) f₃.next ∙ r.first ∙ ap (got r.value) z.1) in
        went_same (went_then (walk a.value) (within_branches r.value) f₃ g) (ap within_branches z.0) refl

    -- an action, and what stands within it
    went_simple : (w : Walk) (a : Action) {q : ℕ} (k : ℕ) → ActionAt ts s w.next a → kind_m s w.next ≡ k → (k ≡ 4 → ⊥) →
        simple_end s k (past s w.next 9) ≡ q →
        Went w (action_m s (choice_m s inner) w) (a ∷ []) q
    unfolding simple_m
    went_simple w a k f e d g =
        let z : simple_end s (kind_m s w.next) (past s w.next 9) ≡ _ =
        ap (λ (i : ℕ). simple_end s i (past s w.next 9)) e ∙ g in
        went_to (went_same (went_noted w (simple_end s (kind_m s w.next) (past s w.next 9)) a f) refl z)
        (sym (laws.action_simple s w (choice_m s inner) (λ y. d (sym e ∙ y))))

    went_effect : (w : Walk) (a : Action) (q : ℕ) → ActionAt ts s w.next a → EffectAt ts s left w.next q a.effect →
        Went w (action_m s (choice_m s inner) w) (a ∷ within a.effect) q
    unfolding within entered_m moved_m
    went_effect w a q f g = cases a.effect g
      where
        cases : (x : Effect) → EffectAt ts s left w.next q x → Went w (action_m s (choice_m s inner) w) (a ∷ within x) q
        cases (Effect.set x v) (set_at x' v' k i j m n o) = went_simple w a 0 f k (λ y. omega arith) o
        cases (toggle x) (toggle_at x' k i m o) = went_simple w a 1 f k (λ y. omega arith) o
        cases (delay x) (delay_at x' k o) = went_simple w a 2 f k (λ y. omega arith) o
        cases (condition x) (condition_at x' k i o) = went_simple w a 3 f k (λ y. omega arith) o
        cases (choose bs d) (choose_at bs' d' n r k c b t) =
            let v = entered_m s w in
            let u = moved_m v (past s v.next 2) in
            let x = repeat n (branch_m s inner) u in
            let nx : v.next ≡ past s w.next 9 = refl in
            let ux : u.next ≡ past s w.next 11 = past_is s (u16_wide s (past s w.next 9) c) in
            let f₁ = went_noted w (past s w.next 9) a f in
            let f₂ = went_moved v (past s v.next 2) in
            let f₃ = went_branches n u bs r (ap (branches ts (actions ts left) n s) ux ∙ b) in
            let f₄ = ih x d q (ap (actions ts left s) f₃.next ∙ t) in
            let f₅ = went_then (a ∷ []) (within_branches bs ++ walk d) f₁
            (went_then [] (within_branches bs ++ walk d) f₂ (went_then (within_branches bs) (walk d) f₃ f₄)) in
            went_to f₅ (sym (
            laws.action_choice s w (choice_m s inner) k
            ∙ laws.choice_is s v inner
            ∙ ap (λ (i : ℕ). inner (repeat i (branch_m s inner) u)) (place_got s v.next c)))
        cases (wait x y z) (wait_at x' y' z' r k i o) = went_simple w a 5 f k (λ y. omega arith) o
        cases (Effect.unknown x) (unknown_at x' k i m o) = went_simple w a 6 f k (λ y. omega arith) o

    went_list : (n : ℕ) (w : Walk) (a : Actions) (q : ℕ) → actions_of ts (actions ts left) n s w.next ≡ got a q →
        Went w (repeat n (action_m s (choice_m s inner)) w) (walk a) q
    unfolding actions_of repeat walk moved_m
    went_list zero w a q e =
        let z = given _ _ _ e in
        went_same (went_to (went_moved w w.next) refl) (ap walk z.0) z.1
    went_list (suc n) w a q e =
        let c = bound source _ e in
        let f = bound (effect ts (actions ts left)) _ c.rest in
        let r = bound (actions_of ts (actions ts left) n) _ f.rest in
        let z = given _ _ _ r.rest in
        let x : Action = record { source = c.value; effect = f.value } in
        let sa = source_found c.first in
        let ea = effect_found ts s left sa.wide f.first in
        let at : ActionAt ts s w.next x = record {
          left = left;
          is_shallow = shallow;
          after = c.next;
          end = f.next;
          source_at = sa;
          effect_at = ea;
        } in
        let f₁ = went_effect w x f.next at ea in
        let g = went_list n (action_m s (choice_m s inner) w) r.value q
        (ap (actions_of ts (actions ts left) n s) f₁.next ∙ r.first ∙ ap (got r.value) z.1) in
        went_same (went_then (x ∷ within f.value) (walk r.value) f₁ g) (ap walk z.0) refl

  -- a list that was read with the depth `left`, walked with at least that depth
  pub went : (left deep : ℕ) → left ≤ deep → left ≤ 18 → (w : Walk) (a : Actions) (q : ℕ) →
      actions ts left s w.next ≡ got a q → Went w (list_m deep s w) (walk a) q
  unfolding actions moved_m
  went zero deep h m w a q e = absurd (found.refused s w.next e)
  went (suc left) zero h m w a q e = absurd (omega arith)
  went (suc left) (suc deep) h m w a q e =
      let c = bound u16 (actions_of ts (actions ts left)) e in
      let u = moved_m w (past s w.next 2) in
      let ux : u.next ≡ c.next = past_is s (u16_wide s w.next c.first) in
      let g = went_list left (omega arith) (list_m deep s) (went left deep (omega arith) (omega arith)) c.value u a q
      (ap (actions_of ts (actions ts left) c.value s) ux ∙ c.rest) in
      went_to (went_then [] (walk a) (went_moved w (past s w.next 2)) g) (sym (
      laws.list_suc s w deep
      ∙ ap (λ (i : ℕ). repeat i (action_m s (choice_m s (list_m deep s))) u) (place_got s w.next c.first)))

  -- ---- an automation's actions

  pub record Walked (w : Walk) (r : Automation) : Type 0 where
    pub positions : List ℕ
    pub filled : Filled w positions
    pub are_actions : ActionsAt positions (touches.actions_of r)
    pub at_notes : ℕ
    pub source_at : SourceAt s w.next r.source at_notes

  filled_none : (p : ℕ) → Filled (fresh p) []
  filled_none p = record { size = length-replicate {A = ℕ} 512 0; many = refl; front = refl }

  pub walked : (p : ℕ) (r : Automation) → RuleAt ts s p r → length (touches.actions_of r) ≤ 512 → Walked (walk_m s p) r
  unfolding walk_m touches.actions_of
  walked p r f h =
      let g = went 18 18 (omega arith) (omega arith) (fresh (actions_m s p)) r.actions f.at_source f.are_actions in
      let x = g.finds [] (filled_none (actions_m s p)) (omega arith) in
      record {
        positions = x.0;
        filled = x.1.0;
        are_actions = x.1.1;
        at_notes = f.at_notes;
        source_at = rw g.next (source_found f.source_at);
      }

  -- the position behind a list
  pub list_ends : (left p : ℕ) (a : Actions) (q : ℕ) → left ≤ 18 → actions ts left s p ≡ got a q → list_end s p ≡ q
  unfolding list_end
  list_ends left p a q h e = (went left 18 h h (fresh p) a q e).next
