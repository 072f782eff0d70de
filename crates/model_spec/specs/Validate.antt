-- model.rs: which models are accepted, and for each other the number of its first refusal, 1 to 19; 50 or 51 for a window.
use Rattle.std.specs.Prelude.{ℕ, ◌+◌, Bool, true, false, ◌&&◌, ◌||◌, not, List, [], ◌∷◌, ◌++◌, ltb, leb, eqb, length}
use Rattle.std.proofs.Math.Option.{none, some}
use Rattle.texts.specs.Lists.{absent, present_and, listed, is_empty, any, find, each, all_lists}
use Rattle.texts.specs.Texts.{Text, text, eq_t, mem_t, all_texts}
use Rattle.model_spec.specs.Answer.{
  Answer,
  answer,
  refused,
  Verdict,
  accept,
  ◌>>=◌,
  ◌and◌,
  ◌when◌,
  each_accepted,
  all_answers,
}
use Rattle.model_spec.specs.File.{decode, all_readers}
use Rattle.model_spec.specs.Model.{
  Entity,
  Moment,
  Predicate,
  state,
  window,
  Trigger,
  Effect,
  toggle,
  delay,
  condition,
  choose,
  wait,
  Actions,
  done,
  act,
  Branches,
  no_branch,
  branch,
  Automation,
  Input,
  reload,
  Event,
  Invariant,
  never,
  guard,
  transition,
  response,
  id_of,
  Limits,
  Scenario,
  Model,
  named,
  is_window,
  all_model,
}

-- a day, in seconds: the most that a time may be
abbrev pub day : ℕ
day = 86400

-- `unknown` and `unavailable` are legal values of every entity
unfoldable pub undecided : Text → Bool
undecided v = eq_t v (text "unknown") || eq_t v (text "unavailable")

-- an identifier or a value is empty or too long
unfoldable pub bad_length : Text → Bool
bad_length t = is_empty t || ltb 100 (length t)

-- a text stands twice in the list
unfoldable pub doubles : List Text → Bool
doubles [] = false
doubles (t ∷ l) = mem_t t l || doubles l

-- seconds never fall
unfoldable pub ordered : List Event → Bool
ordered [] = true
ordered (a ∷ []) = true
ordered (a ∷ b ∷ l) = leb a.at b.at && ordered (b ∷ l)

-- ---- Rust's tests, by what they refuse

-- 1
unfoldable pub bad_title : Scenario → Bool
bad_title s = not (eqb s.version 1) || ltb 200 (length s.title)

-- 2
unfoldable pub bad_size : Model → Bool
bad_size m =
    is_empty m.scenario.entities
    || ltb 32 (length m.scenario.entities)
    || ltb 32 (length m.rules)
    || ltb 100 (length m.scenario.events)
    || ltb 32 (length m.scenario.invariants)

-- 3
unfoldable pub bad_limits : Limits → Bool
bad_limits l =
    ltb day l.horizon
    || eqb l.max_steps 0
    || ltb 10000 l.max_steps
    || ltb 5 l.search_depth
    || eqb l.max_cases 0
    || ltb 2000 l.max_cases

-- 3 too
unfoldable pub bad_start : Moment → Bool
bad_start m = ltb 6 m.weekday || leb day m.second

-- 4
unfoldable pub bad_alphabet : Scenario → Bool
bad_alphabet s = ltb 12 (length s.alphabet) || is_empty s.gaps || ltb 4 (length s.gaps) || any (ltb day) s.gaps

-- 6
unfoldable pub bad_entity : Entity → Bool
bad_entity e =
    bad_length e.name
    || is_empty e.domain
    || ltb 16 (length e.domain)
    || any bad_length e.domain
    || doubles e.domain

-- 9
unfoldable pub bad_events : (horizon : ℕ) → List Event → Bool
bad_events h l = any (λ e. ltb h e.at) l || not (ordered l)

-- 14
unfoldable pub bad_bounds : Automation → Bool
bad_bounds r =
    eqb r.max 0
    || ltb 16 r.max
    || is_empty r.triggers
    || ltb 16 (length r.triggers)
    || ltb 32 (length r.conditions)

-- 50: the start is the end, a second is past the day's last, no weekday is marked, or one above 6
unfoldable pub bad_window : (days start end : ℕ) → Bool
bad_window d b e = eqb b e || leb day b || leb day e || eqb d 0 || ltb 127 d

-- the next action is the n-th of all automations' actions: `*count += 1`
unfoldable pub counting : (n : ℕ) → Answer ℕ
counting n = 17 when ltb 512 n and answer n

-- ---- the parts, against the entities that the model declares
module _ (declared : List Entity) where
  -- 7: the entity isn't declared; 8: the value isn't in its domain
  unfoldable pub check_value : Text → Text → Verdict
  check_value x v = elim (find (named x) declared) [
    | none ↦ refused 7
    | some e ↦ 8 when not (undecided v || mem_t v e.domain)
  ]

  unfoldable pub check_predicate : Predicate → Verdict
  check_predicate (state x v) = check_value x v
  check_predicate (Predicate.unknown r) = accept
  check_predicate (window d b e) = 50 when bad_window d b e

  -- a predicate of an invariant; 51: it is a window
  unfoldable pub check_stated : Predicate → Verdict
  check_stated p = 51 when is_window p and check_predicate p

  -- a trigger with a note isn't checked
  unfoldable pub check_trigger : Trigger → Verdict
  check_trigger t = elim t.note [
    | some n ↦ accept
    | none ↦
        15 when absent (find (named t.entity) declared)
        and each_accepted (check_value t.entity) (listed t.from ++ listed t.to)
  ]

  unfoldable pub check_input : Input → Verdict
  check_input (Input.set x v) = check_value x v
  check_input Input.restart = accept
  check_input reload = accept

  unfoldable pub check_entity : Entity → Verdict
  check_entity e =
      5 when present_and (ltb day) e.stale_after
      and 6 when bad_entity e
      and check_value e.name e.initial

  -- ---- invariants

  -- 11: no predicate, or too many
  unfoldable pub check_conditions : List Predicate → Verdict
  check_conditions ps = 11 when (is_empty ps || ltb 32 (length ps)) and each_accepted check_stated ps

  unfoldable pub check_invariant : Invariant → Verdict
  check_invariant (never i ps) = check_conditions ps
  check_invariant (guard i x v ps) = check_conditions ps and check_value x v
  check_invariant (transition i x f t) = check_value x f and check_value x t
  check_invariant (response i p q n) = check_stated p and check_stated q and 12 when ltb day n

  -- with the identifiers before
  unfoldable pub check_invariants : List Text → List Invariant → Verdict
  check_invariants ids [] = accept
  check_invariants ids (i ∷ is) =
      10 when (bad_length (id_of i) || mem_t (id_of i) ids) and check_invariant i and check_invariants (id_of i ∷ ids) is

  -- ---- automations

  -- in a list at depth d, after n actions; the answer is the count after it
  unfoldable mutual
    pub check_effect : Effect → (d n : ℕ) → Answer ℕ
    check_effect (Effect.set x v) d n = check_value x v and answer n
    check_effect (toggle x) d n = check_value x (text "on") and check_value x (text "off") and answer n
    check_effect (delay t) d n = 18 when ltb day t and answer n
    check_effect (condition p) d n = check_predicate p and answer n
    check_effect (choose bs as') d n = do
      m ← check_branches bs d n
      check_actions as' (d + 1) m
    check_effect (wait t k c) d n = check_trigger t and 19 when ltb day k and answer n
    check_effect (Effect.unknown r) d n = answer n

    pub check_actions : Actions → (d n : ℕ) → Answer ℕ
    check_actions done d n = 16 when ltb 16 d and answer n
    check_actions (act src f rest) d n = 16 when ltb 16 d and (do
      m ← counting (n + 1)
      k ← check_effect f d m
      check_actions rest d k)

    pub check_branches : Branches → (d n : ℕ) → Answer ℕ
    check_branches no_branch d n = answer n
    check_branches (branch ps as' bs) d n = each_accepted check_predicate ps and (do
      m ← check_actions as' (d + 1) n
      check_branches bs d m)

  -- with the identifiers before; actions are counted over all automations
  unfoldable pub check_rule : List Text → Automation → (n : ℕ) → Answer ℕ
  check_rule ids r n =
      13 when (bad_length r.id || mem_t r.id ids)
      and 14 when bad_bounds r
      and each_accepted check_trigger r.triggers
      and each_accepted check_predicate r.conditions
      and check_actions r.actions 0 n

  unfoldable pub check_rules : List Text → List Automation → (n : ℕ) → Answer ℕ
  check_rules ids [] n = answer n
  check_rules ids (r ∷ rs) n = do
    m ← check_rule ids r n
    check_rules (r.id ∷ ids) rs m

unfoldable pub validate : Model → Answer Model
validate m =
    let s = m.scenario in
    1 when bad_title s
    and 2 when bad_size m
    and 3 when (bad_limits s.limits || bad_start m.start)
    and 4 when bad_alphabet s
    and each_accepted (check_entity s.entities) s.entities
    and each_accepted (check_input s.entities) (each (λ e. e.input) s.events ++ s.alphabet)
    and 9 when bad_events s.limits.horizon s.events
    and check_invariants s.entities [] s.invariants
    and (check_rules s.entities [] m.rules 0 >>= λ n. answer m)

-- a file's model, if it is accepted: none of 30, 31, 1 to 19, 50, 51
unfoldable pub accepted : List ℕ → Answer Model
accepted file = decode file >>= validate

-- opens the file, for proofs by computation
unfoldable pub all_checks : Unit {0}
unfolding all_lists all_texts all_answers all_readers all_model undecided bad_length doubles ordered bad_title bad_size
    bad_limits bad_start bad_alphabet bad_entity bad_events bad_bounds bad_window counting check_value check_predicate
    check_stated check_trigger check_input check_entity check_conditions check_invariant check_invariants check_effect
    check_rule check_rules validate accepted
all_checks = tt
