-- lint.rs: the findings and interactions, in the order in which Rust adds them.
use Rattle.std.specs.Prelude.{ℕ, zero, suc, Bool, false, ◌&&◌, ◌||◌, not, List, [], ◌∷◌, ◌++◌, ltb, length, get_or, if◌then◌else◌}
use Rattle.std.proofs.Math.Option.{Option, none, some}
use Rattle.texts.specs.Lists.{
  absent,
  present_and,
  absent_or,
  listed,
  is_empty,
  any,
  all,
  keep,
  find,
  each,
  flat,
  through,
}
use Rattle.texts.specs.Texts.{Text, text, eq_t}
use Rattle.model_spec.specs.Model.{
  Source,
  Tier,
  observational,
  comfort,
  property,
  access_safety,
  Predicate,
  state,
  window,
  Trigger,
  Automation,
  Invariant,
  never,
  guard,
  transition,
  response,
  Scenario,
  named,
}
use Rattle.engine_spec.specs.Unsupported.{unsupported}
use Rattle.lint_spec.specs.Touches.{
  Action,
  actions_of,
  branch_conditions,
  is_delay,
  Write,
  written_by,
  reads_of,
  writes_of,
}
use Rattle.lint_spec.specs.Reach.{Square, closure, components}

-- what was found
pub data Problem : Type 0 where
  unreachable_conditions trigger_condition_mismatch delayed_write unreachable_branch high_fanout trigger_cycle : Problem
  freshness_assumption missing_safety_guard opposing_writes : (entity : Text) → Problem
  unsupported_note : (reason : Text) → Problem

pub record Finding : Type 0 where
  pub problem : Problem
  pub automations : List Text
  pub sources : List Source
  pub tier : Text

pub record Interaction : Type 0 where
  pub from : Text
  pub to : Text
  pub entity : Text

pub data Entry : Type 0 where
  finding : Finding → Entry
  interaction : Interaction → Entry

-- ---- tiers

unfoldable pub rank : Tier → ℕ
rank observational = 0
rank comfort = 1
rank property = 2
rank access_safety = 3

unfoldable pub rank_name : ℕ → Text
rank_name n = get_or (text "observational" ∷ text "comfort" ∷ text "property" ∷ text "access_safety" ∷ []) n []

-- Rust's `{:?}` in small letters
unfoldable pub spelled : Tier → Text
spelled observational = text "observational"
spelled comfort = text "comfort"
spelled property = text "property"
spelled access_safety = text "accesssafety"

unfoldable pub greater : ℕ → ℕ → ℕ
greater a b = if ltb a b then b else a

-- ---- tests

-- two predicates want different values of one entity; a window is passed over
unfoldable pub clash : Predicate → Predicate → Bool
clash (state x v) (state y w) = eq_t x y && not (eq_t v w)
clash (state x v) (Predicate.unknown r) = false
clash (state x v) (window d b e) = false
clash (Predicate.unknown r) q = false
clash (window d b e) q = false

unfoldable pub contradictory : List Predicate → Bool
contradictory [] = false
contradictory (p ∷ ps) = any (clash p) ps || contradictory ps

-- the trigger's target is another than a condition wants
unfoldable pub mismatched : List Predicate → Trigger → Bool
mismatched ps t = absent t.note && present_and (λ to. any (clash (state t.entity to)) ps) t.to

unfoldable pub is_star : Text → Bool
is_star v = eq_t v (text "*")

-- the values that a write may give
unfoldable pub values_of : Write → List Text
values_of w = if is_star w.value then text "on" ∷ text "off" ∷ [] else w.value ∷ []

unfoldable pub guards : (entity value : Text) → Invariant → Bool
guards x v (never i ps) = false
guards x v (guard i y w ps) = eq_t y x && eq_t w v
guards x v (transition i y f t) = false
guards x v (response i p q n) = false

-- the write can set the trigger off
unfoldable pub sets_off : Write → Trigger → Bool
sets_off w t =
    absent t.note && eq_t t.entity w.entity && (is_star w.value || absent_or (λ v. eq_t v w.value) t.to)

-- the two writes go against each other
unfoldable pub opposed : Write → Write → Bool
opposed a b = eq_t a.entity b.entity && (not (eq_t a.value b.value) || is_star a.value)

-- ---- entries
module _ (s : Scenario) where
  unfoldable pub tier_of : (entity : Text) → Option Tier
  tier_of x = elim (find (named x) s.entities) [ none ↦ none | some e ↦ some e.tier ]

  -- the highest tier among entities, as a rank
  unfoldable pub highest : List Text → ℕ
  highest l = through (λ t n. greater n (rank t)) (flat (λ x. listed (tier_of x)) l) 0

  -- a finding about one automation; its tier is the highest that it writes
  unfoldable pub about : Automation → Problem → Source → List Entry
  about r p src = finding (record {
    problem = p;
    automations = r.id ∷ [];
    sources = src ∷ [];
    tier = rank_name (highest (writes_of r));
  }) ∷ []

  unfoldable pub about_if : Bool → Automation → Problem → Source → List Entry
  about_if b r p src = if b then about r p src else []

  unfoldable pub expires : (entity : Text) → Bool
  expires x = present_and (λ e. not (absent e.stale_after)) (find (named x) s.entities)

  -- a write to a property or access_safety entity, with a value that no guard is about
  unfoldable pub unguarded : Write → Bool
  unguarded w =
      present_and (λ t. ltb 1 (rank t)) (tier_of w.entity)
      && any (λ v. not (any (guards w.entity v) s.invariants)) (values_of w)

  -- a branch that is never taken
  unfoldable pub branch_entries : Automation → Action → List Entry
  branch_entries r a = flat (λ ps. about_if (contradictory ps) r unreachable_branch a.source)
      (branch_conditions a.effect)

  -- what a write of the automation r adds, among all automations
  unfoldable pub write_entries : List Automation → Automation → Write → List Entry
  write_entries rules r w =
      about_if (unguarded w) r (missing_safety_guard w.entity) w.source
      ++ each (λ target. interaction (record { from = r.id; to = target.id; entity = w.entity }))
      (keep (λ target. any (sets_off w) target.triggers) rules)

  unfoldable pub rule_entries : List Automation → Automation → List Entry
  rule_entries rules r =
      about_if (contradictory r.conditions) r unreachable_conditions r.source
      ++ about_if (all (mismatched r.conditions) r.triggers) r trigger_condition_mismatch r.source
      ++ about_if (any (λ a. is_delay a.effect) (actions_of r) && not (is_empty (writes_of r))) r delayed_write
      r.source
      ++ flat (branch_entries r) (actions_of r)
      ++ about_if (ltb 8 (length (writes_of r))) r high_fanout r.source
      ++ flat (λ x. about_if (expires x) r (freshness_assumption x) r.source) (reads_of r)
      ++ flat (write_entries rules r) (written_by r)

  -- ---- pairs of automations

  unfoldable pub opposing : Automation → Automation → Write → Write → List Entry
  opposing r q a b =
      if opposed a b
      then finding (record {
        problem = opposing_writes a.entity;
        automations = r.id ∷ q.id ∷ [];
        sources = a.source ∷ b.source ∷ [];
        tier = elim (tier_of a.entity) [ none ↦ [] | some t ↦ spelled t ];
      }) ∷ []
      else []

  unfoldable pub pair_entries : Automation → Automation → List Entry
  pair_entries r q = flat (λ a. flat (opposing r q a) (written_by q)) (written_by r)

  -- each automation with each later one
  unfoldable pub opposing_entries : List Automation → List Entry
  opposing_entries [] = []
  opposing_entries (r ∷ rs) = flat (pair_entries r) rs ++ opposing_entries rs

  -- ---- cycles

  unfoldable pub cycle_entry : List Automation → Entry
  cycle_entry members = finding (record {
    problem = trigger_cycle;
    automations = each (λ r. r.id) members;
    sources = each (λ r. r.source) members;
    tier = rank_name (highest (flat writes_of members));
  })

-- a write of the first automation can set off the second
unfoldable pub leads_to : Automation → Automation → Bool
leads_to r q = any (λ w. any (sets_off w) q.triggers) (written_by r)

-- which automations lead to which, closed
unfoldable pub reach : List Automation → Square
reach rules = closure (each (λ r. each (leads_to r) rules) rules)

-- the automation at a place
unfoldable pub at_place : List Automation → ℕ → List Automation
at_place [] i = []
at_place (r ∷ rs) zero = r ∷ []
at_place (r ∷ rs) (suc i) = at_place rs i

unfoldable pub cycles : List Automation → List (List Automation)
cycles rules = each (flat (at_place rules)) (components (reach rules))

unfoldable pub unsupported_entry : Automation → (reason : Text) → Entry
unsupported_entry r t = finding (record {
  problem = unsupported_note t;
  automations = r.id ∷ [];
  sources = r.source ∷ [];
  tier = text "unknown";
})

unfoldable pub unsupported_entries : Automation → List Entry
unsupported_entries r = each (unsupported_entry r) (unsupported (r ∷ []))

-- all findings and interactions, in Rust's order of insertions
unfoldable pub entries : Scenario → List Automation → List Entry
entries s rules =
    flat (rule_entries s rules) rules
    ++ opposing_entries s rules
    ++ each (cycle_entry s) (cycles rules)
    ++ flat unsupported_entries rules

-- ---- as Rust writes them

unfoldable pub code_name : Problem → Text
code_name unreachable_conditions = text "unreachable_conditions"
code_name trigger_condition_mismatch = text "trigger_condition_mismatch"
code_name delayed_write = text "delayed_write"
code_name unreachable_branch = text "unreachable_branch"
code_name high_fanout = text "high_fanout"
code_name trigger_cycle = text "trigger_cycle"
code_name (freshness_assumption x) = text "freshness_assumption"
code_name (missing_safety_guard x) = text "missing_safety_guard"
code_name (opposing_writes x) = text "opposing_writes"
code_name (unsupported_note r) = text "unsupported"

unfoldable pub certainty : Problem → Text
certainty unreachable_conditions = text "static"
certainty trigger_condition_mismatch = text "potential"
certainty delayed_write = text "potential"
certainty unreachable_branch = text "static"
certainty high_fanout = text "potential"
certainty trigger_cycle = text "potential"
certainty (freshness_assumption x) = text "potential"
certainty (missing_safety_guard x) = text "potential"
certainty (opposing_writes x) = text "potential"
certainty (unsupported_note r) = text "unknown"

unfoldable pub message : Problem → Text
message unreachable_conditions = text "Admission conditions require contradictory states"
message trigger_condition_mismatch =
    text "Trigger target differs from admission conditions; same-time event ordering can matter"
message delayed_write = text "Delayed writes may outlive trigger-time safety conditions; replay with changed state"
message unreachable_branch = text "Choose branch has contradictory state predicates"
message high_fanout = text "More than eight literal entity targets"
message trigger_cycle = text "Cyclic trigger/write interaction; simulate to distinguish stable states from repeated toggling"
message (freshness_assumption x) = x ++ text " has modeled freshness expiry"
message (missing_safety_guard x) = x ++ text " write has no matching action-guard invariant"
message (opposing_writes x) = text "Opposing or toggling intents for " ++ x ++ text
    "; conditions may make them mutually exclusive"
message (unsupported_note r) = r
