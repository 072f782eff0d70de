-- The undeclared names of all automations fit into the answer's 64 places, which hold them and then zeros.
use Rattle.std.specs.Prelude.{if◌then◌else◌}
use mathlib.Core.Path.{◌≡◌, refl, sym, ap, ◌∙◌}
use mathlib.Core.Bool.{Bool, true, false, ◌&&◌, not}
use mathlib.Core.List.{List, [], ◌∷◌, ◌++◌, append-nil, append_assoc}
use mathlib.Core.Option.{Option, none, some}
use Prim.Native.Nat.{ℕ, zero, suc, ◌+◌, ◌-◌, ◌≤◌, ◌<◌}
use native.Mathlib.Omega.{arith}
use lib.ListN.{length, get_or, set, replicate, length-append}
use lib.Seq.{set-append_seam}
use borrow.Author.Tests.{lt-ltb}
use Rattle.engine_spec.proofs.Bounds.{length_each}
use Rattle.texts.specs.Lists.{absent, keep, listed, each, flat}
use Rattle.texts.specs.Texts.{Text, mem_t, sorted_t}
use Rattle.model_spec.specs.Model.{
  Predicate,
  state,
  window,
  Trigger,
  Effect,
  toggle,
  delay,
  condition,
  choose,
  wait,
  Actions,
  done,
  act,
  Branches,
  no_branch,
  branch,
  Entity,
  Automation,
  Model,
}
use Rattle.model_spec.specs.Notes.{
  of_predicate,
  of_trigger,
  of_effect,
  of_actions,
  of_branches,
  of_invariant,
  of_rule,
  notes_of,
}
use Rattle.model_parts.specs.declared.Section.{Section}
use Rattle.engine_spec.proofs.Lists.{Each, each_split, sorted_many}
use Rattle.model_spec.specs.Rewrite.{place_of}
use Rattle.lint_spec.specs.Reach.{places}
use Rattle.lint_spec.specs.Touches.{
  Action,
  within,
  walk,
  within_branches,
  conditions_of,
  predicate_reads,
  effect_reads,
  reads_of,
}
use Rattle.lint_spec.specs.Touches as touches
use Rattle.lint_walk.specs.Walks.{walk_m}
use Rattle.lint_access.specs.Names.{name_at}
use Rattle.lint_access.proofs.Rising.{Rising, mem_sorted, rising_sorted, unique}
use Rattle.lint_conditions.specs.declared.Names.{Names}
use Rattle.lint_undeclared.specs.declared.Undeclared.{Undeclared}
use Rattle.lint_undeclared.specs.Undeclared.{with_m, strange_m, name_m, names_m, rule_m, rules_m, undeclared_m}
use Rattle.lint_spec.specs.Numbers.{padded, undeclared}
use Rattle.lint_refinement.proofs.Lists.{flat_append, rising_keep, mem_keep, mem_at}
use Rattle.lint_refinement.proofs.Sets.{Once}
use Rattle.lint_refinement.proofs.Accepted.{Declared, FineP, FineT, Fine, FineA, Legal}
use Rattle.lint_refinement.proofs.FileFacts.{Stage, no_rule, id_number}
use Rattle.lint_refinement.proofs.Undeclared.{keep_append, found_places, strange_places}
use Rattle.lint_refinement.proofs.Rules.{es, names, ids}

-- ---- no more than notes

module _ (es : List Entity) where
  abbrev names_of : List Text
  names_of = each (λ e. e.name) es

  abbrev und : Text → Bool
  und t = not (mem_t t (each (λ e. e.name) es))

  known : (y : Text) → Declared es y → und y ≡ false
  unfolding name_at
  known y f =
      let b = f.1.0 in
      ap (λ (t : Text). und t) (sym f.1.1) ∙ ap not
      (mem_at names_of f.0 (omega (arith, length_each (λ e. e.name) es)))

  one_known : (y : Text) → Declared es y → keep und (y ∷ []) ≡ []
  unfolding keep
  one_known y f = rw (known y f)

  predicate_known : (p : Predicate) → FineP es p → keep und (predicate_reads p) ≡ []
  unfolding predicate_reads keep
  predicate_known (state y v) f = one_known y f
  predicate_known (Predicate.unknown r) f = refl
  predicate_known (window d b e) f = refl

  flat_known : {A : Type 0} (g : A → List Text) (P : A → Type 0) → ((a : A) → P a → keep und (g a) ≡ []) → (l : List A) →
      Each P l → keep und (flat g l) ≡ []
  unfolding flat keep
  flat_known g P h [] f = refl
  flat_known g P h (a ∷ l) f = keep_append und (g a) (flat g l) ∙ rw (h a f.0, flat_known g P h l f.1)

  triggers_known : (l : List Trigger) → Each (FineT es) l →
      keep und (each (λ t. t.entity) (keep (λ t. absent t.note) l)) ≡ []
  unfolding keep each absent
  triggers_known [] f = refl
  triggers_known (t ∷ l) f = cases t.note f.0 (triggers_known l f.1)
    where
      cases : (o : Option Text) → (o ≡ none → Declared es t.entity) →
          keep und (each (λ t. t.entity) (keep (λ t. absent t.note) l)) ≡ [] →
          keep und (each (λ t. t.entity) (if absent o then t ∷ keep (λ t. absent t.note) l
          else keep (λ t. absent t.note) l)) ≡ []
      cases none g ih = rw (known t.entity (g refl)) ih
      cases (some y) g ih = ih

  -- undeclared names that actions read
  abbrev strays : List Action → List Text
  strays l = keep und (flat (λ a. effect_reads a.effect) l)

  strays_append : (l m : List Action) → length (strays (l ++ m)) ≡ length (strays l) + length (strays m)
  strays_append l m =
      ap (λ (t : List Text). length (keep und t)) (flat_append (λ a. effect_reads a.effect) l m)
      ∙ ap length (keep_append und (flat (λ a. effect_reads a.effect) l) (flat (λ a. effect_reads a.effect) m))
      ∙ length-append (strays l) (strays m)

  strays_cons : (a : Action) (l : List Action) → length (strays (a ∷ l))
      ≡ length (keep und (effect_reads a.effect)) + length (strays l)
  unfolding flat
  strays_cons a l = ap length (keep_append und (effect_reads a.effect) (flat (λ a. effect_reads a.effect) l))
      ∙ length-append (keep und (effect_reads a.effect)) (strays l)

  none_of : length (strays []) ≡ 0
  unfolding flat keep
  none_of = refl

  wait_few : (t : Trigger) → FineT es t → length (keep und (t.entity ∷ [])) ≤ length (of_trigger t)
  unfolding of_trigger listed keep
  wait_few t f = cases t.note f
    where
      some_few : (b : Bool) → length (if b then t.entity ∷ [] else []) ≤ 1
      some_few true = omega arith
      some_few false = omega arith

      cases : (o : Option Text) → (o ≡ none → Declared es t.entity) →
          length (keep und (t.entity ∷ [])) ≤ length (listed o)
      cases none g = rw (known t.entity (g refl)) (omega arith)
      cases (some y) g = some_few (und t.entity)

  mutual
    unfolding effect_reads within of_effect keep

    effect_few : (g : Effect) → Fine es g → Each (FineA es) (within g) →
        length (keep und (effect_reads g)) + length (strays (within g)) ≤ length (of_effect g)
    effect_few (Effect.set x v) f k = omega (arith, none_of)
    effect_few (toggle x) f k = omega (arith, none_of)
    effect_few (delay n) f k = omega (arith, none_of)
    effect_few (condition p) f k = omega (arith, none_of, ap length (predicate_known p f))
    effect_few (choose bs d) f k =
        let e = each_split (FineA es) (within_branches bs) (walk d) k in
        let z = flat_known (flat predicate_reads) (Each (FineP es))
        (λ l g. flat_known predicate_reads (FineP es) predicate_known l g) (conditions_of bs) f in
        omega (
          arith,
          ap length z,
          strays_append (within_branches bs) (walk d),
          branches_few bs e.0,
          actions_few d e.1,
          length-append (of_branches bs) (of_actions d),
        )
    effect_few (wait t n c) f k = omega (arith, none_of, wait_few t f)
    effect_few (Effect.unknown r) f k = omega (arith, none_of)

    actions_few : (a : Actions) → Each (FineA es) (walk a) → length (strays (walk a)) ≤ length (of_actions a)
    actions_few done k = omega (arith, none_of)
    actions_few (act s g rest) k =
        let e = each_split (FineA es) (within g) (walk rest) k.1 in
        omega (
          arith,
          strays_cons (record { source = s; effect = g }) (within g ++ walk rest),
          strays_append (within g) (walk rest),
          effect_few g k.0 e.0,
          actions_few rest e.1,
          length-append (of_effect g) (of_actions rest),
        )

    branches_few : (b : Branches) → Each (FineA es) (within_branches b) →
        length (strays (within_branches b)) ≤ length (of_branches b)
    branches_few no_branch k = omega (arith, none_of)
    branches_few (branch ps a b) k =
        let e = each_split (FineA es) (walk a) (within_branches b) k in
        omega (
          arith,
          strays_append (walk a) (within_branches b),
          actions_few a e.0,
          branches_few b e.1,
          length-append (flat of_predicate ps ++ of_actions a) (of_branches b),
          length-append (flat of_predicate ps) (of_actions a),
        )

  rule_few : (r : Automation) → Legal es r → length (undeclared names_of (reads_of r)) ≤ length (of_rule r)
  unfolding undeclared reads_of touches.actions_of of_rule
  rule_few r legal =
      let l₁ = each (λ t. t.entity) (keep (λ t. absent t.note) r.triggers) in
      let l₂ = flat (λ a. effect_reads a.effect) (walk r.actions) in
      let l₃ = flat predicate_reads r.conditions in
      let sorted : keep und (sorted_t (l₁ ++ l₂ ++ l₃)) ≡ sorted_t (keep und (l₁ ++ l₂ ++ l₃)) =
      unique (keep und (sorted_t (l₁ ++ l₂ ++ l₃))) (sorted_t (keep und (l₁ ++ l₂ ++ l₃)))
      (rising_keep und (rising_sorted (l₁ ++ l₂ ++ l₃))) (rising_sorted (keep und (l₁ ++ l₂ ++ l₃)))
      (λ t. mem_keep und t (sorted_t (l₁ ++ l₂ ++ l₃)) ∙ ap (λ (b : Bool). und t && b) (mem_sorted t (l₁ ++ l₂ ++ l₃))
      ∙ sym (mem_sorted t (keep und (l₁ ++ l₂ ++ l₃)) ∙ mem_keep und t (l₁ ++ l₂ ++ l₃))) in
      omega (
        arith,
        ap length sorted,
        sorted_many (keep und (l₁ ++ l₂ ++ l₃)),
        ap length (keep_append und (l₁ ++ l₂) l₃ ∙ ap (λ (y : List Text). y ++ keep und l₃) (keep_append und l₁ l₂)),
        length-append (keep und l₁ ++ keep und l₂) (keep und l₃),
        length-append (keep und l₁) (keep und l₂),
        ap length (triggers_known r.triggers legal.triggers),
        ap length (flat_known predicate_reads (FineP es) predicate_known r.conditions legal.conditions),
        actions_few r.actions legal.actions,
        length-append (r.notes ++ flat of_trigger r.triggers ++ flat of_predicate r.conditions)
            (of_actions r.actions),
      )

  pub rules_few : (l : List Automation) → Each (Legal es) l →
      length (flat (λ r. undeclared names_of (reads_of r)) l) ≤ length (flat of_rule l)
  unfolding flat
  rules_few [] f = omega arith
  rules_few (r ∷ l) f = omega (
    arith,
    rule_few r f.0,
    rules_few l f.1,
    length-append (undeclared names_of (reads_of r)) (flat (λ r. undeclared names_of (reads_of r)) l),
    length-append (of_rule r) (flat of_rule l),
  )

-- ---- the places of the answer

-- so many places, and then zeros
unfoldable pub packed : (names readers : List ℕ) → Undeclared
packed l k = record { count = length l; names = padded 64 l; readers = padded 64 k }

pub set_padded : (l : List ℕ) (x : ℕ) → length l < 64 → set (padded 64 l) (length l) x ≡ padded 64 (l ++ x ∷ [])
unfolding padded
set_padded l x h =
    let n = 64 - (length l + 1) in
    let z : 64 - length l ≡ suc n = omega arith in
    let y : 64 - length (l ++ x ∷ []) ≡ n = omega (arith, length-append l (x ∷ [])) in
    ap (λ (k : ℕ). set (l ++ replicate k 0) (length l) x) z
    ∙ set-append_seam l 0 (replicate n 0) x
    ∙ sym (ap (λ (k : ℕ). (l ++ x ∷ []) ++ replicate k 0) y ∙ append_assoc l (x ∷ []) (replicate n 0))

with_packed : (l k : List ℕ) (i t : ℕ) → length k ≡ length l → length l < 64 →
    with_m (packed l k) i t ≡ packed (l ++ t ∷ []) (k ++ i ∷ [])
unfolding with_m packed
with_packed l k i t e h =
    let n : length l + 1 ≡ length (l ++ t ∷ []) = sym (length-append l (t ∷ [])) in
    let y : set (padded 64 k) (length l) i ≡ padded 64 (k ++ i ∷ []) =
    ap (λ (j : ℕ). set (padded 64 k) j i) (sym e) ∙ set_padded k i (omega arith) in
    rw (lt-ltb (length l) 64 h) (rw (n, set_padded l t h, y))

module _ (s : List ℕ) (x : Section) where
  names_packed : (w : Rattle.lint_walk.specs.declared.Walk.Walk) (i n t : ℕ) (l k : List ℕ) → length k ≡ length l →
      length l + length (keep (strange_m s x w) (places n t)) ≤ 64 →
      names_m s x w i n t (packed l k) ≡ packed (l ++ keep (strange_m s x w) (places n t))
      (k ++ each (λ y. i) (keep (strange_m s x w) (places n t)))
  unfolding names_m name_m keep places each
  names_packed w i zero t l k e h = sym (ap (λ (y : List ℕ). packed y (k ++ [])) (append-nil l)
      ∙ ap (packed l) (append-nil k))
  names_packed w i (suc n) t l k e h = cases (strange_m s x w t) h (λ l k e h. names_packed w i n (t + 1) l k e h)
    where
      rest : List ℕ
      rest = keep (strange_m s x w) (places n (t + 1))

      cases : (b : Bool) → length l + length (if b then t ∷ rest else rest) ≤ 64 →
          ((l k : List ℕ) → length k ≡ length l → length l + length rest ≤ 64 →
          names_m s x w i n (t + 1) (packed l k) ≡ packed (l ++ rest) (k ++ each (λ y. i) rest)) →
          names_m s x w i n (t + 1) (if b then with_m (packed l k) i t else packed l k)
          ≡ packed (l ++ (if b then t ∷ rest else rest)) (k ++ each (λ y. i) (if b then t ∷ rest else rest))
      cases true h ih =
          let a = length-append l (t ∷ []) in
          let b = length-append k (i ∷ []) in
          ap (names_m s x w i n (t + 1)) (with_packed l k i t e (omega arith))
          ∙ ih (l ++ t ∷ []) (k ++ i ∷ []) (omega arith) (omega arith)
          ∙ ap (λ (y : List ℕ). packed y ((k ++ i ∷ []) ++ each (λ y. i) rest)) (append_assoc l (t ∷ []) rest)
          ∙ ap (packed (l ++ t ∷ rest)) (append_assoc k (i ∷ []) (each (λ y. i) rest))
      cases false h ih = ih l k e h

each_const : {A B : Type 0} (f : A → B) (i : ℕ) (l : List A) → each (λ x. i) (each f l) ≡ each (λ x. i) l
unfolding each
each_const f i [] = refl
each_const f i (x ∷ l) = ap (λ (y : List ℕ). i ∷ y) (each_const f i l)

module _ {s : List ℕ} {d : Names} {rs : Section} {ts : List Text} {m : Model} (st : Stage s d rs ts m) (ascends : Rising ts)
    (once : Once ts) (few : length (notes_of m) ≤ 64) where
  abbrev pub strangers : Automation → List Text
  strangers r = undeclared (names st) (reads_of r)

  abbrev pub P : Automation → List ℕ
  P r = each (λ t. place_of t ts) (undeclared (names st) (reads_of r))

  abbrev pub Q : Automation → List ℕ
  Q r = each (λ t. place_of r.id (ids st)) (undeclared (names st) (reads_of r))

  rule_packed : (i : ℕ) → i < length m.rules → (r : Automation) → r ≡ get_or m.rules i no_rule → (l k : List ℕ) →
      length k ≡ length l → length l + length (P r) ≤ 64 →
      rule_m s d.entities rs (length ts) i (packed l k) ≡ packed (l ++ P r) (k ++ Q r)
  unfolding rule_m found_places
  rule_packed i h r z l k e b =
      let y : keep (strange_m s d.entities (walk_m s (get_or rs.starts i 0))) (places (length ts) 0) ≡ P r =
      strange_places st i h ascends once ∙ ap P (sym z) in
      let q : each (λ x. i) (P r) ≡ Q r = each_const (λ t. place_of t ts) i (strangers r)
      ∙ ap (λ (n : ℕ). each (λ t. n) (strangers r)) (sym
      (ap (λ (a : Automation). place_of a.id (ids st)) z ∙ id_number st i h)) in
      names_packed s d.entities (walk_m s (get_or rs.starts i 0)) i (length ts) 0 l k e (omega (arith, ap length y))
      ∙ ap (λ (x : List ℕ). packed (l ++ x) (k ++ each (λ x. i) x)) y
      ∙ ap (λ (x : List ℕ). packed (l ++ P r) (k ++ x)) q

  rules_packed : (rest : List Automation) (i : ℕ) → i + length rest ≡ length m.rules →
      ((j : ℕ) → j < length rest → get_or rest j no_rule ≡ get_or m.rules (i + j) no_rule) →
      (l k : List ℕ) → length k ≡ length l → length l + length (flat P rest) ≤ 64 →
      rules_m s d.entities rs (length ts) (length rest) i (packed l k) ≡ packed (l ++ flat P rest) (k ++ flat Q rest)
  unfolding rules_m flat
  rules_packed [] i n same l k e h = sym (ap (λ (y : List ℕ). packed y (k ++ [])) (append-nil l)
      ∙ ap (packed l) (append-nil k))
  rules_packed (r ∷ rest) i n same l k e h =
      let o : i + 0 ≡ i = omega arith in
      let z : r ≡ get_or m.rules i no_rule = same 0 (omega arith) ∙ ap (λ (j : ℕ). get_or m.rules j no_rule) o in
      let a = length-append (P r) (flat P rest) in
      let b = length-append l (P r) in
      let c = length-append k (Q r) in
      let p = length_each (λ t. place_of t ts) (strangers r) in
      let q = length_each (λ t. place_of r.id (ids st)) (strangers r) in
      ap (rules_m s d.entities rs (length ts) (length rest) (i + 1)) (rule_packed i (omega arith) r z l k e (omega arith))
      ∙ rules_packed rest (i + 1) (omega arith) (λ j x. let y : i + suc j ≡ i + 1 + j = omega arith in
      same (suc j) (omega arith) ∙ ap (λ (j : ℕ). get_or m.rules j no_rule) y) (l ++ P r) (k ++ Q r) (omega arith)
      (omega arith)
      ∙ ap (λ (y : List ℕ). packed y ((k ++ Q r) ++ flat Q rest)) (append_assoc l (P r) (flat P rest))
      ∙ ap (packed (l ++ (P r ++ flat P rest))) (append_assoc k (Q r) (flat Q rest))

  pub flat_long : (l : List Automation) → length (flat P l) ≡ length (flat strangers l)
  unfolding flat
  flat_long [] = refl
  flat_long (r ∷ l) = omega (
    arith,
    length-append (P r) (flat P l),
    length-append (strangers r) (flat strangers l),
    length_each (λ t. place_of t ts) (strangers r),
    flat_long l,
  )

  pub few_strangers : length (flat P m.rules) ≤ 64
  unfolding notes_of
  few_strangers = omega (
    arith,
    flat_long m.rules,
    rules_few (es st) m.rules st.lawful.rules,
    length-append (flat of_invariant m.scenario.invariants) (flat of_rule m.rules),
    few,
  )

  pub undeclared_packed : undeclared_m s d.entities rs (length ts) ≡ packed (flat P m.rules) (flat Q m.rules)
  unfolding undeclared_m
  undeclared_packed =
      ap (λ (n : ℕ). rules_m s d.entities rs (length ts) n 0 nothing) st.rules.counts
      ∙ ap (rules_m s d.entities rs (length ts) (length m.rules) 0) none_packed
      ∙ rules_packed m.rules 0 (omega arith) (λ j h. let z : 0 + j ≡ j = omega arith in rw z) [] [] refl
      (omega (arith, few_strangers))
    where
      nothing : Undeclared
      nothing = record { count = 0; names = replicate 64 0; readers = replicate 64 0 }

      none_packed : record { count = 0; names = replicate 64 0; readers = replicate 64 0 } ≡ packed [] []
      none_packed = unfold packed padded in refl
