-- What an accepted file gives to lint: few parts, identifiers that differ, and entities that are declared wherever an
-- accepted part names one; a trigger with a note isn't checked.
use Rattle.std.specs.Prelude.{if◌then◌else◌}
use mathlib.Core.Path.{◌≡◌, sym, ap, ◌∙◌}
use mathlib.Core.Bool.{Bool, true, false}
use mathlib.Core.List.{List, [], ◌∷◌, ◌++◌}
use mathlib.Core.Option.{none}
use Prim.Native.Nat.{ℕ, ◌+◌, ◌≤◌, ◌<◌}
use native.Mathlib.Omega.{arith}
use lib.ListN.{length, length-append}
use borrow.Author.Tests.{ltb-false}
use Rattle.texts.specs.Lists.{absent, find, listed}
use Rattle.texts.specs.Texts.{Text, text}
use Rattle.model_spec.specs.Answer.{answer, refused, Verdict, accept, ◌and◌, ◌when◌, each_accepted}
use Rattle.model_spec.specs.Model.{
  Predicate,
  state,
  window,
  Trigger,
  Effect,
  toggle,
  delay,
  condition,
  choose,
  wait,
  Actions,
  done,
  act,
  Branches,
  no_branch,
  branch,
  Automation,
  Entity,
  Model,
  named,
}
use Rattle.model_spec.specs.Validate.{
  counting,
  check_value,
  check_predicate,
  check_trigger,
  check_effect,
  check_actions,
  check_branches,
  check_rule,
  check_rules,
  accepted,
}
use Rattle.engine_spec.proofs.Lists.{Each}
use Rattle.engine_spec.proofs.Validated.{
  answer_eq,
  refused_answer,
  bind_inv,
  and_first,
  and_inv,
  when_inv,
  accepted_passed,
  few_parts,
}
use Rattle.lint_spec.specs.Touches.{Action, within, walk, within_branches, conditions_of}
use Rattle.lint_spec.specs.Touches as touches
use Rattle.lint_access.specs.Names.{name_at}
use Rattle.lint_refinement.proofs.Tiers.{Looked, looked_at, nowhere, look}

-- ---- verdicts

pub each_verdict : {A : Type 0} (g : A → Verdict) (P : A → Type 0) → ((a : A) → g a ≡ accept → P a) → (l : List A) →
    each_accepted g l ≡ accept → Each P l
unfolding each_accepted
each_verdict g P h [] e = tt
each_verdict g P h (a ∷ l) e = (
  h a (and_first (g a) (each_accepted g l) tt e),
  each_verdict g P h l (and_inv (g a) (each_accepted g l) tt e),
)

pub each_join : {A : Type 0} (P : A → Type 0) (l m : List A) → Each P l → Each P m → Each P (l ++ m)
each_join P [] m f g = g
each_join P (x ∷ l) m f g = (f.0, each_join P l m f.1 g)

-- ---- entities that are declared

abbrev pub Declared : List Entity → Text → Type 0
Declared es x = (i : ℕ) × ((i < length es) × (name_at es i ≡ x))

module _ (es : List Entity) where
  abbrev pub FineP : Predicate → Type 0
  FineP (state x v) = Declared es x
  FineP (Predicate.unknown r) = Unit {0}
  FineP (window d b e) = Unit {0}

  abbrev pub FineT : Trigger → Type 0
  FineT t = t.note ≡ none → Declared es t.entity

  abbrev pub Fine : Effect → Type 0
  Fine (Effect.set x v) = Declared es x
  Fine (toggle x) = Declared es x
  Fine (delay n) = Unit {0}
  Fine (condition p) = FineP p
  Fine (choose bs d) = Each (Each FineP) (conditions_of bs)
  Fine (wait t n c) = FineT t
  Fine (Effect.unknown r) = Unit {0}

  abbrev pub FineA : Action → Type 0
  FineA a = Fine a.effect

  pub value_fine : (x v : Text) → check_value es x v ≡ accept → Declared es x
  unfolding check_value
  value_fine x v e = cases (look es x)
    where
      cases : Looked es x → Declared es x
      cases (looked_at i b n f) = (i, (b, n))
      cases (nowhere n f) = absurd (refused_answer (rw (f, check_value) at e))

  pub predicate_fine : (p : Predicate) → check_predicate es p ≡ accept → FineP p
  unfolding check_predicate
  predicate_fine (state x v) e = value_fine x v e
  predicate_fine (Predicate.unknown r) e = tt
  predicate_fine (window d b f) e = tt

  trigger_fine : (t : Trigger) → check_trigger es t ≡ accept → FineT t
  unfolding check_trigger absent
  trigger_fine t e z = cases (look es t.entity) (rw (z, check_trigger) at e)
    where
      cases : Looked es t.entity →
          (15 when absent (find (named t.entity) es) and each_accepted (check_value es t.entity)
          (listed t.from ++ listed t.to)) ≡ accept → Declared es t.entity
      cases (looked_at i b n f) h = (i, (b, n))
      cases (nowhere n f) h =
          let y : absent (find (named t.entity) es) ≡ true = ap absent f in
          let w : absent (find (named t.entity) es) ≡ false = when_inv _ _ _ _ h in
          let q : true ≡ false = sym y ∙ w in
          absurd (refused_answer {A = Unit {0}} {n = 0} {a = tt} (ap (λ (b : Bool). if b then refused 0 else accept) q))

  -- ---- actions

  -- the count after n actions and as many more, none of them past 512
  record Counts (n k many : ℕ) : Type 0 where
    pub many_is : k ≡ n + many
    pub few : n ≤ 512 → k ≤ 512

  counted_one : (n k : ℕ) → counting n ≡ answer k → (k ≡ n) × (n ≤ 512)
  unfolding counting
  counted_one n k e = (sym (answer_eq (and_inv _ _ _ e)), ltb-false 512 n (when_inv _ _ _ _ e))

  mutual
    unfolding check_effect within conditions_of

    effect_fine : (g : Effect) (d n k : ℕ) → check_effect es g d n ≡ answer k →
        (Fine g × Each FineA (within g)) × Counts n k (length (within g))
    effect_fine (Effect.set x v) d n k e = (
      (value_fine x v (and_first _ _ _ e), tt),
      record {
        many_is = let z = answer_eq (and_inv _ _ _ e) in omega arith;
        few = let z = answer_eq (and_inv _ _ _ e) in
            λ h. omega arith;
      },
    )
    effect_fine (toggle x) d n k e = (
      (value_fine x (text "on") (and_first _ _ _ e), tt),
      record {
        many_is = let z = answer_eq (and_inv _ _ _ (and_inv _ _ _ e)) in omega arith;
        few = let z =
            answer_eq (and_inv _ _ _ (and_inv _ _ _ e)) in λ h. omega arith;
      },
    )
    effect_fine (delay t) d n k e = (
      (tt, tt),
      record {
        many_is = let z = answer_eq (and_inv _ _ _ e) in omega arith;
        few = let z =
            answer_eq (and_inv _ _ _ e) in λ h. omega arith;
      },
    )
    effect_fine (condition p) d n k e = (
      (predicate_fine p (and_first _ _ _ e), tt),
      record {
        many_is = let z = answer_eq (and_inv _ _ _ e) in omega arith;
        few = let z = answer_eq (and_inv _ _ _ e) in
            λ h. omega arith;
      },
    )
    effect_fine (choose bs a) d n k e =
        let b = bind_inv (check_branches es bs d n) _ _ e in
        let f = branches_fine bs d n b.0 b.1.0 in
        let g = actions_fine a (d + 1) b.0 k b.1.1 in
        let m = length-append (within_branches bs) (walk a) in (
          (f.0.0, each_join FineA (within_branches bs) (walk a) f.0.1 g.0),
          record { many_is = omega (arith, f.1.many_is, g.1.many_is, m); few = λ h. g.1.few (f.1.few h) },
        )
    effect_fine (wait t i c) d n k e = (
      (trigger_fine t (and_first _ _ _ e), tt),
      record {
        many_is = let z = answer_eq (and_inv _ _ _ (and_inv _ _ _ e)) in omega arith;
        few = let z =
            answer_eq (and_inv _ _ _ (and_inv _ _ _ e)) in λ h. omega arith;
      },
    )
    effect_fine (Effect.unknown r) d n k e = (
      (tt, tt),
      record { many_is = let z = answer_eq e in omega arith; few = let z = answer_eq e in λ h. omega arith },
    )

    actions_fine : (a : Actions) (d n k : ℕ) → check_actions es a d n ≡ answer k →
        Each FineA (walk a) × Counts n k (length (walk a))
    actions_fine done d n k e = (
      tt,
      record {
        many_is = let z = answer_eq (and_inv _ _ _ e) in omega arith;
        few = let z =
            answer_eq (and_inv _ _ _ e) in λ h. omega arith;
      },
    )
    actions_fine (act s g r) d n k e =
        let c = bind_inv (counting (n + 1)) _ _ (and_inv _ _ _ e) in
        let o = counted_one (n + 1) c.0 c.1.0 in
        let b = bind_inv (check_effect es g d c.0) _ _ c.1.1 in
        let f = effect_fine g d c.0 b.0 b.1.0 in
        let h = actions_fine r d b.0 k b.1.1 in
        let m = length-append (within g) (walk r) in (
          (f.0.0, each_join FineA (within g) (walk r) f.0.1 h.0),
          record {
            many_is = omega (arith, f.1.many_is, h.1.many_is, m, o.0);
            few =
                λ z. h.1.few (f.1.few (omega (arith, o.0, o.1)));
          },
        )

    branches_fine : (bs : Branches) (d n k : ℕ) → check_branches es bs d n ≡ answer k →
        (Each (Each FineP) (conditions_of bs) × Each FineA (within_branches bs)) × Counts n k (length (within_branches bs))
    branches_fine no_branch d n k e =
        ((tt, tt), record { many_is = let z = answer_eq e in omega arith; few = let z = answer_eq e in λ h. omega arith })
    branches_fine (branch ps a bs) d n k e =
        let p = each_verdict (check_predicate es) FineP predicate_fine ps (and_first _ _ _ e) in
        let b = bind_inv (check_actions es a (d + 1) n) _ _ (and_inv _ _ _ e) in
        let f = actions_fine a (d + 1) n b.0 b.1.0 in
        let g = branches_fine bs d b.0 k b.1.1 in
        let m = length-append (walk a) (within_branches bs) in (
          ((p, g.0.0), each_join FineA (walk a) (within_branches bs) f.0 g.0.1),
          record { many_is = omega (arith, f.1.many_is, g.1.many_is, m); few = λ h. g.1.few (f.1.few h) },
        )

  -- ---- automations

  pub record Legal (r : Automation) : Type 0 where
    pub triggers : Each FineT r.triggers
    pub conditions : Each FineP r.conditions
    pub actions : Each FineA (touches.actions_of r)
    pub few : length (touches.actions_of r) ≤ 512

  rules_legal : (ids : List Text) (rs : List Automation) (n k : ℕ) → n ≤ 512 → check_rules es ids rs n ≡ answer k →
      Each Legal rs
  unfolding check_rules check_rule touches.actions_of
  rules_legal ids [] n k h e = tt
  rules_legal ids (r ∷ rs) n k h e =
      let b = bind_inv (check_rule es ids r n) (check_rules es (r.id ∷ ids) rs) k e in
      let e₃ = and_inv _ _ _ (and_inv _ _ _ b.1.0) in
      let e₄ = and_inv _ _ _ e₃ in
      let f = actions_fine r.actions 0 n b.0 (and_inv _ _ _ e₄) in (
        record {
          triggers = each_verdict (check_trigger es) FineT trigger_fine r.triggers (and_first _ _ _ e₃);
          conditions = each_verdict (check_predicate es) FineP predicate_fine r.conditions (and_first _ _ _ e₄);
          actions = f.0;
          few = omega (arith, f.1.many_is, f.1.few h);
        },
        rules_legal (r.id ∷ ids) rs b.0 k (f.1.few h) b.1.1,
      )

-- ---- of an accepted file

pub record Lawful (m : Model) : Type 0 where
  pub few_entities : length m.scenario.entities ≤ 32
  pub few_rules : length m.rules ≤ 32
  pub few_invariants : length m.scenario.invariants ≤ 32
  pub rules : Each (Legal m.scenario.entities) m.rules

pub accepted_lawful : (file : List ℕ) (m : Model) → accepted file ≡ answer m → Lawful m
accepted_lawful file m e =
    let p = accepted_passed file m e in
    let few = few_parts m p.size in
    record {
      few_entities = few.entities;
      few_rules = few.rules;
      few_invariants = few.invariants;
      rules = rules_legal m.scenario.entities [] m.rules 0 p.actions (omega arith) p.rules;
    }
