-- What an accepted file gives for `Tabled`: few parts, short times, checked actions, identifiers that differ, room for
-- reasons. These are the facts about the model alone; the others are about the table's words.
use mathlib.Core.Path.{◌≡◌, refl, ◌∙◌}
use mathlib.Core.List.{List, [], ◌∷◌, ◌++◌}
use mathlib.Core.Bool.{Bool, false, ◌||◌}
use Prim.Native.Nat.{ℕ, ◌+◌, ◌*◌, ◌≤◌}
use native.Mathlib.Omega.{arith}
use lib.ListN.{length, length-append}
use lib.Dec.{ltb, eqb}
use borrow.Author.Tests.{ltb-false}
use Rattle.layout.specs.Sizes.{simulation_reasons}
use Rattle.engine_spec.proofs.Bounds.{length_each}
use Rattle.texts.specs.Lists.{each, flat}
use Rattle.texts.specs.Texts.{Text, text, sorted_t}
use Rattle.model_spec.specs.Answer.{answer, Verdict, accept, each_accepted}
use Rattle.model_spec.specs.Model.{
  Source,
  Effect,
  toggle,
  delay,
  condition,
  choose,
  wait,
  Actions,
  done,
  act,
  Branches,
  no_branch,
  branch,
  Automation,
  Entity,
  Event,
  Input,
  Model,
}
use Rattle.model_spec.specs.Notes.{
  of_predicate,
  of_trigger,
  of_effect,
  of_actions,
  of_branches,
  of_invariant,
  of_rule,
  notes_of,
}
use Rattle.model_spec.specs.Validate.{
  day,
  bad_limits,
  check_entity,
  check_input,
  check_actions,
  check_rule,
  check_rules,
  accepted,
}
use Rattle.engine_spec.specs.Reasons.{unsupported_wait}
use Rattle.engine_spec.specs.Unsupported.{effect_reasons, action_reasons, branch_reasons, rule_reasons, unsupported}
use Rattle.engine_spec.proofs.Lists.{Each, or_no, sorted_many}
use Rattle.engine_spec.proofs.Validated.{bind_inv, and_first, and_inv, or_no', accepted_passed, few_parts, accepted_few}
use Rattle.engine_refinement.specs.Meaning.{rule_pool, pool_of}

-- ---- how many reasons

-- an action's static reasons are as many as its notes
mutual
  unfolding effect_reasons of_effect

  effect_many : (g : Effect) (s : Source) → length (effect_reasons g s) ≡ length (of_effect g)
  effect_many (Effect.set x v) s = refl
  effect_many (toggle x) s = refl
  effect_many (delay n) s = refl
  effect_many (condition p) s = refl
  effect_many (choose bs d) s =
      length-append (branch_reasons bs) (action_reasons d)
      ∙ omega (arith, branch_many bs, action_many d, length-append (of_branches bs) (of_actions d))
  effect_many (wait t n c) s = refl
  effect_many (Effect.unknown r) s = refl

  action_many : (a : Actions) → length (action_reasons a) ≡ length (of_actions a)
  action_many done = refl
  action_many (act s g r) =
      length-append (effect_reasons g s) (action_reasons r)
      ∙ omega (arith, effect_many g s, action_many r, length-append (of_effect g) (of_actions r))

  branch_many : (b : Branches) → length (branch_reasons b) ≡ length (of_branches b)
  branch_many no_branch = refl
  branch_many (branch ps l bs) =
      length-append (flat of_predicate ps ++ action_reasons l) (branch_reasons bs)
      ∙ omega (
        arith,
        length-append (flat of_predicate ps) (action_reasons l),
        action_many l,
        branch_many bs,
        length-append (flat of_predicate ps ++ of_actions l) (of_branches bs),
        length-append (flat of_predicate ps) (of_actions l),
      )

rule_many : (r : Automation) → length (rule_reasons r) ≡ length (of_rule r)
unfolding rule_reasons of_rule
rule_many r =
    let a = r.notes ++ flat of_trigger r.triggers ++ flat of_predicate r.conditions in
    length-append (each (λ t. r.id ++ text ": " ++ t) a) (action_reasons r.actions)
    ∙ omega (
      arith,
      length_each (λ t. r.id ++ text ": " ++ t) a,
      action_many r.actions,
      length-append a (of_actions r.actions),
    )

rules_many : (l : List Automation) → length (flat rule_reasons l) ≡ length (flat of_rule l)
unfolding flat
rules_many [] = refl
rules_many (r ∷ l) =
    length-append (rule_reasons r) (flat rule_reasons l)
    ∙ omega (arith, rule_many r, rules_many l, length-append (of_rule r) (flat of_rule l))

pool_rule : (r : Automation) → length (rule_pool r) ≤ 4 + length (of_rule r)
unfolding rule_pool of_rule
pool_rule r =
    omega (
      arith,
      length-append (r.notes ++ flat of_trigger r.triggers ++ flat of_predicate r.conditions)
          (of_actions r.actions),
    )

pool_rules : (l : List Automation) → length (flat rule_pool l) ≤ 4 * length l + length (flat of_rule l)
unfolding flat
pool_rules [] = omega arith
pool_rules (r ∷ l) =
    omega (
      arith,
      length-append (rule_pool r) (flat rule_pool l),
      pool_rule r,
      pool_rules l,
      length-append (of_rule r) (flat of_rule l),
    )

-- at most 64 notes and 32 automations: 257 reasons
pub few_reasons : (m : Model) → length (notes_of m) ≤ 64 → length m.rules ≤ 32 → length (pool_of m) ≤ 257
unfolding pool_of notes_of unsupported
few_reasons m h k =
    let a = length-append (flat of_invariant m.scenario.invariants) (flat of_rule m.rules) in
    let b = length-append (sorted_t (flat rule_reasons m.rules)) (unsupported_wait ∷ flat rule_pool m.rules) in
    omega (arith, h, k, a, b, sorted_many (flat rule_reasons m.rules), rules_many m.rules, pool_rules m.rules)

-- ---- what validation says

-- each of a list was accepted
each_verdict : {A : Type 0} (g : A → Verdict) (l : List A) → each_accepted g l ≡ accept → Each (λ (a : A). g a ≡ accept) l
unfolding each_accepted
each_verdict g [] e = tt
each_verdict g (a ∷ l) e =
    (and_first (g a) (each_accepted g l) tt e, each_verdict g l (and_inv (g a) (each_accepted g l) tt e))

-- the actions of the i-th automation were checked, after some number of others
pub record CheckedAt (es : List Entity) (a : Actions) : Type 0 where
  pub before : ℕ
  pub after : ℕ
  pub is : check_actions es a 0 before ≡ answer after

rules_checked : (es : List Entity) (ids : List Text) (rs : List Automation) (n k : ℕ) →
    check_rules es ids rs n ≡ answer k → Each (λ (r : Automation). CheckedAt es r.actions) rs
unfolding check_rules check_rule
rules_checked es ids [] n k e = tt
rules_checked es ids (r ∷ rs) n k e =
    let b = bind_inv (check_rule es ids r n) (check_rules es (r.id ∷ ids) rs) k e in (
      record { before = n; after = b.0; is = and_inv _ _ _ (and_inv _ _ _ (and_inv _ _ _ (and_inv _ _ _ b.1.0))) },
      rules_checked es (r.id ∷ ids) rs b.0 k b.1.1,
    )

pub record Lawful (m : Model) : Type 0 where
  pub few_entities : length m.scenario.entities ≤ 32
  pub few_automations : length m.rules ≤ 32
  pub few_events : length m.scenario.events ≤ 100
  pub few_invariants : length m.scenario.invariants ≤ 32
  pub day_long : m.scenario.limits.horizon ≤ 86400
  pub few_steps : m.scenario.limits.max_steps ≤ 10000
  pub entities : Each (λ (e : Entity). check_entity m.scenario.entities e ≡ accept) m.scenario.entities
  pub inputs : Each (λ (i : Input). check_input m.scenario.entities i ≡ accept)
      (each (λ (e : Event). e.input) m.scenario.events ++ m.scenario.alphabet)
  pub checked : Each (λ (r : Automation). CheckedAt m.scenario.entities r.actions) m.rules

first_third : (a b c d e g : Bool) → (a || b || c || d || e || g) ≡ false → (a ≡ false) × (c ≡ false)
first_third a b c d e g h =
    let i = or_no (a || b || c) d (or_no (a || b || c || d) e (or_no (a || b || c || d || e) g h)) in
    (or_no a b (or_no (a || b) c i), or_no' (a || b) c i)

-- ---- of an accepted file

pub accepted_lawful : (file : List ℕ) (m : Model) → accepted file ≡ answer m → Lawful m
unfolding bad_limits
accepted_lawful file m e =
    let p = accepted_passed file m e in
    let few = few_parts m p.size in
    let li = m.scenario.limits in
    let limits = first_third (ltb day li.horizon) (eqb li.max_steps 0) (ltb 10000 li.max_steps)
    (ltb 5 li.search_depth) (eqb li.max_cases 0) (ltb 2000 li.max_cases) p.limits in
    record {
      few_entities = few.entities;
      few_automations = few.rules;
      few_events = few.events;
      few_invariants = few.invariants;
      day_long = ltb-false day li.horizon limits.0;
      few_steps = ltb-false 10000 li.max_steps limits.1;
      entities = each_verdict (check_entity m.scenario.entities) m.scenario.entities p.entities;
      inputs = each_verdict (check_input m.scenario.entities) _ p.inputs;
      checked = rules_checked m.scenario.entities [] m.rules 0 p.actions p.rules;
    }

pub accepted_notes : (file : List ℕ) (m : Model) → accepted file ≡ answer m → length (notes_of m) ≤ 64
accepted_notes file m e = (accepted_few file m e).1

pub accepted_small : (file : List ℕ) (m : Model) → accepted file ≡ answer m →
    (length file ≤ 32768) × (length (pool_of m) ≤ simulation_reasons)
accepted_small file m e = (
  (accepted_few file m e).0,
  omega (arith, few_reasons m (accepted_notes file m e) (accepted_lawful file m e).few_automations),
)
