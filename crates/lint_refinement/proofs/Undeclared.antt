-- The places that the code finds are those of the undeclared names that the definition reads; there are at most 64.
use Rattle.std.specs.Prelude.{if◌then◌else◌}
use mathlib.Core.Path.{◌≡◌, refl, sym, ap, ◌∙◌}
use mathlib.Core.Bool.{Bool, true, false, ◌||◌, ◌&&◌, not}
use mathlib.Core.List.{List, [], ◌∷◌, ◌++◌}
use mathlib.Core.Option.{Option, none, some}
use Prim.Native.Nat.{ℕ, zero, suc, ◌+◌, ◌<◌}
use native.Mathlib.Omega.{arith}
use native.Mathlib.Nat.{zero-add}
use lib.Dec.{eqb, leb}
use lib.ListN.{length, get_or}
use lib.Seq.{get_or-take}
use borrow.Author.Tests.{le-leb, lt-leb}
use Rattle.texts.proofs.Bool.{or_false}
use Rattle.engine_spec.proofs.Bounds.{length_each}
use Rattle.texts.specs.Lists.{absent, any, keep, each, flat}
use Rattle.texts.specs.Texts.{Text, eq_t, mem_t}
use Rattle.texts.proofs.Ordering.{not_both, eq_is, eq_sym}
use Rattle.model_spec.specs.Model.{
  Predicate,
  state,
  window,
  Trigger,
  Effect,
  toggle,
  delay,
  condition,
  choose,
  wait,
  Automation,
  Model,
}
use Rattle.model_walk.proofs.Found.{Case, is_true, is_false, case}
use Rattle.model_parts.specs.declared.Section.{Section}
use Rattle.model_check.specs.Checks.{number_of}
use Rattle.engine_spec.proofs.Lists.{Each}
use Rattle.model_spec.specs.Rewrite.{place_of}
use Rattle.lint_spec.specs.Reach.{places}
use Rattle.lint_spec.specs.Touches.{Action, conditions_of, predicate_reads, effect_reads, reads_of}
use Rattle.lint_spec.specs.Touches as touches
use Rattle.lint_walk.specs.declared.Walk.{Walk}
use Rattle.lint_walk.specs.Raw.{place_m, past, kind_m}
use Rattle.lint_walk.specs.Walks.{walk_m}
use Rattle.lint_walk.proofs.Found.{
  EffectAt,
  set_at,
  toggle_at,
  delay_at,
  condition_at,
  choose_at,
  wait_at,
  unknown_at,
  ActionAt,
}
use Rattle.lint_walk.proofs.Refines.{ActionsAt, no_action, action}
use Rattle.lint_access.specs.Names.{name_at}
use Rattle.lint_access.proofs.Refines.{number_at, number_none}
use Rattle.lint_access.proofs.Rising.{Rising, mem_cons, mem_none, mem_append, rising_sorted, mem_sorted, unique}
use Rattle.lint_conditions.specs.declared.Names.{Names}
use Rattle.lint_undeclared.specs.Undeclared.{await_m, awaits_m, strange_m}
use Rattle.lint_spec.specs.Numbers.{undeclared}
use Rattle.lint_refinement.proofs.Lists.{rising_keep, mem_keep, mem_at, not_at, found_at}
use Rattle.lint_refinement.proofs.Sets.{Once, places_at}
use Rattle.lint_refinement.proofs.Accepted.{Declared, FineP, FineT, Fine, FineA, Legal}
use Rattle.lint_refinement.proofs.FileFacts.{Stage, no_rule, legal_at, walked_at}
use Rattle.lint_refinement.proofs.Rules.{es, names}
use Rattle.lint_refinement.proofs.Cycled.{any_flat, any_over}

-- ---- lists

pub keep_append : {A : Type 0} (p : A → Bool) (l m : List A) → keep p (l ++ m) ≡ keep p l ++ keep p m
unfolding keep
keep_append p [] m = refl
keep_append p (x ∷ l) m = cases (p x) (keep_append p l m)
  where
    cases : (b : Bool) → keep p (l ++ m) ≡ keep p l ++ keep p m →
        (if b then x ∷ keep p (l ++ m) else keep p (l ++ m)) ≡ (if b then x ∷ keep p l else keep p l) ++ keep p m
    cases true ih = ap (λ (z : List _). x ∷ z) ih
    cases false ih = ih

-- kept by place, or by text
pub keep_texts : (f : ℕ → Bool) (g : Text → Bool) (all l : List Text) (k : ℕ) →
    ((t : ℕ) → t < length l → get_or all (k + t) [] ≡ get_or l t []) → ((t : ℕ) → t < length l → f (k + t) ≡ g (get_or l t [])) →
    each (λ i. get_or all i []) (keep f (places (length l) k)) ≡ keep g l
unfolding keep places each
keep_texts f g all [] k h e = refl
keep_texts f g all (x ∷ l) k h e =
    let z : k + 0 ≡ k = omega arith in
    let first : get_or all k [] ≡ x = ap (λ (i : ℕ). get_or all i []) (sym z) ∙ h 0 (omega arith) in
    let test : f k ≡ g x = ap f (sym z) ∙ e 0 (omega arith) in
    rw test (cases (g x) first (keep_texts f g all l (k + 1)
    (λ t b. let y : k + 1 + t ≡ k + suc t = omega arith in ap (λ (i : ℕ). get_or all i []) y ∙ h (suc t) (omega arith))
    (λ t b. let y : k + 1 + t ≡ k + suc t = omega arith in ap f y ∙ e (suc t) (omega arith))))
  where
    cases : (b : Bool) → get_or all k [] ≡ x → each (λ i. get_or all i []) (keep f (places (length l) (k + 1))) ≡ keep g l →
        each (λ i. get_or all i []) (if b then k ∷ keep f (places (length l) (k + 1)) else keep f (places (length l) (k + 1)))
        ≡ (if b then x ∷ keep g l else keep g l)
    cases true a ih = rw (a, ih)
    cases false a ih = ih

pub places_below : (f : ℕ → Bool) (n k j : ℕ) → j < length (keep f (places n k)) → get_or (keep f (places n k)) j 0 < k + n
unfolding keep places
places_below f zero k j h = absurd (omega arith)
places_below f (suc n) k j h = cases (f k) j h (λ i b. places_below f n (k + 1) i b)
  where
    cases : (b : Bool) (j : ℕ) → j < length (if b then k ∷ keep f (places n (k + 1)) else keep f (places n (k + 1))) →
        ((i : ℕ) → i < length (keep f (places n (k + 1))) → get_or (keep f (places n (k + 1))) i 0 < k + 1 + n) →
        get_or (if b then k ∷ keep f (places n (k + 1)) else keep f (places n (k + 1))) j 0 < k + suc n
    cases true zero h ih = omega arith
    cases true (suc j) h ih = omega (arith, ih j (omega arith))
    cases false j h ih = omega (arith, ih j h)

module _ {s : List ℕ} {d : Names} {rs : Section} {ts : List Text} {m : Model} (st : Stage s d rs ts m) where
  abbrev T : ℕ → Text
  T x = get_or ts x []

  -- the text is no entity's name
  abbrev pub Strange : Text → Type 0
  Strange x = mem_t x (names st) ≡ false

  pub fine_not : (x y : Text) → Strange x → Declared (es st) y → eq_t x y ≡ false
  unfolding name_at
  fine_not x y h f =
      let b = f.1.0 in
      eq_sym x y ∙ ap (λ (t : Text). eq_t t x) (sym f.1.1)
      ∙ not_at (names st) x h f.0 (omega (arith, length_each (λ e. e.name) (es st)))

  pub one_not : (x y : Text) → Strange x → Declared (es st) y → mem_t x (y ∷ []) ≡ false
  one_not x y h f = mem_cons x y [] ∙ ap (λ (b : Bool). b || mem_t x []) (fine_not x y h f) ∙ mem_none x

  pub predicate_not : (x : Text) → Strange x → (p : Predicate) → FineP (es st) p → mem_t x (predicate_reads p) ≡ false
  unfolding predicate_reads
  predicate_not x h (state y v) f = one_not x y h f
  predicate_not x h (Predicate.unknown r) f = mem_none x
  predicate_not x h (window d b e) f = mem_none x

  pub flat_not : {A : Type 0} (x : Text) (g : A → List Text) (P : A → Type 0) → ((a : A) → P a → mem_t x (g a) ≡ false) →
      (l : List A) → Each P l → mem_t x (flat g l) ≡ false
  unfolding flat
  flat_not x g P h [] f = mem_none x
  flat_not x g P h (a ∷ l) f = mem_append x (g a) (flat g l) ∙ rw (h a f.0, flat_not x g P h l f.1)

  trigger_not : (x : Text) → Strange x → (l : List Trigger) → Each (FineT (es st)) l →
      mem_t x (each (λ t. t.entity) (keep (λ t. absent t.note) l)) ≡ false
  unfolding keep each absent
  trigger_not x h [] f = mem_none x
  trigger_not x h (t ∷ l) f = cases t.note f.0 (trigger_not x h l f.1)
    where
      cases : (o : Option Text) → (o ≡ none → Declared (es st) t.entity) →
          mem_t x (each (λ t. t.entity) (keep (λ t. absent t.note) l)) ≡ false →
          mem_t x (each (λ t. t.entity) (if absent o then t ∷ keep (λ t. absent t.note) l
          else keep (λ t. absent t.note) l)) ≡ false
      cases none g ih = mem_cons x t.entity _ ∙ rw (fine_not x t.entity h (g refl)) ih
      cases (some y) g ih = ih

  -- ---- one place

  number_is : (t : ℕ) → t < length ts → leb d.entities.count (number_of d.entities t s) ≡ not (mem_t (T t) (names st))
  unfolding name_at
  number_is t h = cases (case (mem_t (T t) (names st)))
    where
      long : length (names st) ≡ length (es st)
      long = length_each (λ e. e.name) (es st)

      cases : Case (mem_t (T t) (names st)) → leb d.entities.count (number_of d.entities t s)
          ≡ not (mem_t (T t) (names st))
      cases (is_true b) =
          let f = found_at (names st) (T t) b in
          let k : f.0 < length (es st) = let l = f.1.0 in omega (arith, long) in
          let z = number_at s d.entities ts (es st) st.grounds t f.0 h k f.1.1 in
          rw (b, z) (lt-leb d.entities.count f.0 (omega (arith, st.grounds.counts)))
      cases (is_false b) =
          rw b (le-leb d.entities.count (number_of d.entities t s)
          (number_none s d.entities ts (es st) st.grounds t h
          (λ j k. not_at (names st) (T t) b j (omega (arith, long)))))

  action_strange : (t : ℕ) → t < length ts → Strange (T t) → (p : ℕ) (a : Action) → ActionAt ts s p a → FineA (es st) a →
      await_m s t p ≡ mem_t (T t) (effect_reads a.effect)
  unfolding await_m effect_reads
  action_strange t h n p a f fine = cases a.effect f.effect_at fine
    where
      x : Text
      x = T t

      cases : (g : Effect) → EffectAt ts s f.left p f.end g → Fine (es st) g →
          (if eqb (kind_m s p) 5 then eqb (place_m s (past s p 9)) t else false) ≡ mem_t x (effect_reads g)
      cases (Effect.set y v) (set_at x' v' k i j l o q) z = rw k (sym (mem_none x))
      cases (toggle y) (toggle_at x' k i l o) z = rw k (sym (mem_none x))
      cases (delay y) (delay_at x' k o) z = rw k (sym (mem_none x))
      cases (condition y) (condition_at x' k i o) z = rw k (sym (predicate_not x n y z))
      cases (choose bs b) (choose_at bs' d' c r k q y o) z =
          rw k (sym (flat_not x (flat predicate_reads) (Each (FineP (es st)))
          (λ l g. flat_not x predicate_reads (FineP (es st)) (predicate_not x n) l g) (conditions_of bs) z))
      cases (wait u y c) (wait_at t' y' z' r k i o) z =
          rw k (
          ap (λ (q : ℕ). eqb q t) i.at_entity
          ∙ sym (st.grounds.same i.x t i.is_in h)
          ∙ eq_sym (T i.x) x
          ∙ ap (eq_t x) (sym i.is_entity)
          ∙ sym (mem_cons x u.entity [] ∙ ap (λ (b : Bool). eq_t x u.entity || b) (mem_none x)
          ∙ or_false (eq_t x u.entity)))
      cases (Effect.unknown y) (unknown_at x' k i l o) z = rw k (sym (mem_none x))

  -- ---- the i-th automation

  module _ (i : ℕ) (h : i < length m.rules) where
    abbrev r : Automation
    r = get_or m.rules i no_rule

    abbrev w : Walk
    w = walk_m s (get_or rs.starts i 0)

    abbrev acts : List Action
    acts = touches.actions_of r

    legal : Legal (es st) r
    legal = legal_at st i h

    -- what is read and undeclared is what actions read
    pub reads_acts : (x : Text) → Strange x → mem_t x (reads_of r) ≡ any (λ a. mem_t x (effect_reads a.effect)) acts
    unfolding reads_of mem_t
    reads_acts x n =
        let l₁ = each (λ t. t.entity) (keep (λ t. absent t.note) r.triggers) in
        let l₂ = flat (λ a. effect_reads a.effect) acts in
        let l₃ = flat predicate_reads r.conditions in
        mem_sorted x (l₁ ++ l₂ ++ l₃)
        ∙ mem_append x (l₁ ++ l₂) l₃
        ∙ ap (λ (b : Bool). b || mem_t x l₃) (mem_append x l₁ l₂
        ∙ ap (λ (b : Bool). b || mem_t x l₂) (trigger_not x n r.triggers legal.triggers))
        ∙ ap (λ (b : Bool). mem_t x l₂ || b) (flat_not x predicate_reads (FineP (es st)) (predicate_not x n) r.conditions
        legal.conditions)
        ∙ or_false (mem_t x l₂)
        ∙ any_flat (eq_t x) (λ a. effect_reads a.effect) acts

    awaits_is : (t : ℕ) → t < length ts → Strange (T t) → awaits_m s w t ≡ mem_t (T t) (reads_of r)
    unfolding awaits_m
    awaits_is t b n =
        let wa = walked_at st i h in
        ap (λ (k : ℕ). Rattle.lint_conditions.specs.Conditions.any_list_m (await_m s t) w.list k 0) wa.filled.many
        ∙ any_over st (await_m s t) (λ a. mem_t (T t) (effect_reads a.effect)) (action_strange t b n) w.list 0
        wa.positions acts
        (λ k c. ap (λ (o : ℕ). get_or w.list o 0) (zero-add k) ∙ sym (get_or-take (length wa.positions) w.list k 0 c)
        ∙ ap (λ (l : List ℕ). get_or l k 0) wa.filled.front)
        wa.are_actions legal.actions
        ∙ sym (reads_acts (T t) n)

    -- undeclared, and read
    abbrev pub alien : Text → Bool
    alien x = not (mem_t x (names st)) && mem_t x (reads_of r)

    pub strange_is : (t : ℕ) → t < length ts → strange_m s d.entities w t ≡ alien (T t)
    unfolding strange_m
    strange_is t b = ap (λ (c : Bool). if awaits_m s w t then c else false) (number_is t b)
        ∙ cases (case (mem_t (T t) (names st)))
      where
        never : (c : Bool) → (if c then false else false) ≡ false
        never true = refl
        never false = refl

        same : (c : Bool) → (if c then true else false) ≡ c
        same true = refl
        same false = refl

        cases : Case (mem_t (T t) (names st)) → (if awaits_m s w t then not (mem_t (T t) (names st)) else false) ≡ alien (T t)
        cases (is_true n) = rw n (never (awaits_m s w t))
        cases (is_false n) = rw n (same (awaits_m s w t) ∙ awaits_is t b n)

    -- such a name is one of the texts
    one_text : (x : Text) → Strange x → (p : ℕ) (a : Action) → ActionAt ts s p a → FineA (es st) a →
        mem_t x (effect_reads a.effect) ≡ true → mem_t x ts ≡ true
    unfolding effect_reads
    one_text x n p a f fine = cases a.effect f.effect_at fine
      where
        cases : (g : Effect) → EffectAt ts s f.left p f.end g → Fine (es st) g → mem_t x (effect_reads g) ≡ true →
            mem_t x ts ≡ true
        cases (Effect.set y v) (set_at x' v' k i j l o q) z e = absurd (not_both (mem_none x) e)
        cases (toggle y) (toggle_at x' k i l o) z e = absurd (not_both (mem_none x) e)
        cases (delay y) (delay_at x' k o) z e = absurd (not_both (mem_none x) e)
        cases (condition y) (condition_at x' k i o) z e = absurd (not_both (predicate_not x n y z) e)
        cases (choose bs b) (choose_at bs' d' c r k q y o) z e =
            absurd (not_both (flat_not x (flat predicate_reads) (Each (FineP (es st)))
            (λ l g. flat_not x predicate_reads (FineP (es st)) (predicate_not x n) l g) (conditions_of bs) z) e)
        cases (wait u y c) (wait_at t' y' z' r k i o) z e =
            let q : eq_t x u.entity ≡ true = sym (mem_cons x u.entity []
            ∙ ap (λ (b : Bool). eq_t x u.entity || b) (mem_none x) ∙ or_false (eq_t x u.entity)) ∙ e in
            ap (λ (y : Text). mem_t y ts) (eq_is x u.entity q ∙ i.is_entity) ∙ mem_at ts i.x i.is_in
        cases (Effect.unknown y) (unknown_at x' k i l o) z e = absurd (not_both (mem_none x) e)

    some_text : (x : Text) → Strange x → (ps : List ℕ) (l : List Action) → ActionsAt ts s ps l → Each (FineA (es st)) l →
        any (λ a. mem_t x (effect_reads a.effect)) l ≡ true → mem_t x ts ≡ true
    unfolding any
    some_text x n ps l no_action fine e = absurd (not_both refl e)
    some_text x n ps l (action {p} {a} {ps = qs} {l = rest} y z) fine e =
        cases (case (mem_t x (effect_reads a.effect))) (λ k. some_text x n qs rest z fine.1 k)
      where
        cases : Case (mem_t x (effect_reads a.effect)) →
            (any (λ a. mem_t x (effect_reads a.effect)) rest ≡ true → mem_t x ts ≡ true) → mem_t x ts ≡ true
        cases (is_true b) ih = one_text x n p a y fine.0 b
        cases (is_false b) ih = ih (rw b at e)

    pub alien_text : (x : Text) → (alien x && mem_t x ts) ≡ alien x
    alien_text x = cases (case (mem_t x (names st))) (case (mem_t x (reads_of r)))
      where
        cases : Case (mem_t x (names st)) → Case (mem_t x (reads_of r)) → (alien x && mem_t x ts) ≡ alien x
        cases (is_true n) c = rw n
        cases (is_false n) (is_false c) = rw (n, c)
        cases (is_false n) (is_true c) =
            rw (n, c) (some_text x n (walked_at st i h).positions acts (walked_at st i h).are_actions legal.actions
            (sym (reads_acts x n) ∙ c))

    unfoldable pub found_places : List ℕ
    found_places = keep (strange_m s d.entities w) (places (length ts) 0)

    -- the names at the places that the code finds
    pub strangers_are : (ascends : Rising ts) → each T found_places ≡ undeclared (names st) (reads_of r)
    unfolding found_places undeclared reads_of
    strangers_are ascends =
        keep_texts (strange_m s d.entities w) alien ts ts 0 (λ t b. ap T (zero-add t))
        (λ t b. ap (strange_m s d.entities w) (zero-add t) ∙ strange_is t b)
        ∙ unique (keep alien ts) (keep (λ t. not (mem_t t (names st))) (reads_of r)) (rising_keep alien ascends)
        (rising_keep (λ t. not (mem_t t (names st))) (rising_sorted _))
        (λ x. mem_keep alien x ts ∙ alien_text x ∙ sym (mem_keep (λ t. not (mem_t t (names st))) x (reads_of r)))

    pub strange_places : (ascends : Rising ts) → Once ts →
        found_places ≡ each (λ t. place_of t ts) (undeclared (names st) (reads_of r))
    unfolding found_places
    strange_places ascends once =
        sym (places_at ts once found_places (λ j b. let y = places_below (strange_m s d.entities w) (length ts) 0 j b in
        omega arith))
        ∙ ap (each (λ t. place_of t ts)) (strangers_are ascends)
