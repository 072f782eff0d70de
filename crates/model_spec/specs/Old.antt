-- The reader and the checks as they were before windows and the model's start: a predicate has the kinds 0 and 1 only,
-- nothing stands behind the automations, and invariants are checked like conditions. What isn't here is as it was.
use Rattle.std.specs.Prelude.{ℕ, zero, suc, ◌||◌, List, [], ◌∷◌, ◌++◌, ltb, length, if◌then◌else◌}
use Rattle.texts.specs.Lists.{is_empty, each}
use Rattle.texts.specs.Texts.{Text, mem_t}
use Rattle.model_spec.specs.Answer as answers
use Rattle.model_spec.specs.Answer.{Answer, answer, refused, Verdict, accept, ◌and◌, ◌when◌, each_accepted}
use Rattle.model_spec.specs.Model.{
  Entity,
  Predicate,
  state,
  Effect,
  toggle,
  delay,
  condition,
  choose,
  wait,
  Actions,
  done,
  act,
  Branches,
  no_branch,
  branch,
  Automation,
  Invariant,
  never,
  guard,
  transition,
  response,
  id_of,
  Model,
  midnight,
}
use Rattle.model_spec.specs.File.{
  Reader,
  ◌>>=◌,
  give,
  refuse,
  u16,
  u32,
  counted,
  kinds,
  flag,
  source,
  mode,
  limits,
  place,
  trigger,
  input,
  head,
  events,
  made,
  decoded,
}
use Rattle.model_spec.specs.Validate.{
  day,
  bad_length,
  bad_title,
  bad_size,
  bad_limits,
  bad_alphabet,
  bad_events,
  check_value,
  check_predicate,
  check_entity,
  check_input,
  check_rules,
}

module _ (ts : List Text) where
  abbrev pub predicate_kinds : List (Reader Predicate)
  predicate_kinds =
      (do
        e ← place ts
        v ← place ts
        give (state e v))
      ∷ (do
        r ← place ts
        give (Predicate.unknown r))
      ∷ []

  unfoldable pub predicate : Reader Predicate
  predicate = kinds predicate_kinds

  abbrev pub invariant_kinds : List (Reader Invariant)
  invariant_kinds =
      (do
        id ← place ts
        ps ← counted predicate
        give (never id ps))
      ∷ (do
        id ← place ts
        e ← place ts
        v ← place ts
        ps ← counted predicate
        give (guard id e v ps))
      ∷ (do
        id ← place ts
        e ← place ts
        f ← place ts
        t ← place ts
        give (transition id e f t))
      ∷ (do
        id ← place ts
        p ← predicate
        q ← predicate
        n ← u32
        give (response id p q n))
      ∷ []

  unfoldable pub invariant : Reader Invariant
  invariant = kinds invariant_kinds

  unfoldable pub branches : Reader Actions → ℕ → Reader Branches
  branches inner zero = give no_branch
  branches inner (suc n) = do
    ps ← counted predicate
    as' ← inner
    bs ← branches inner n
    give (branch ps as' bs)

  abbrev pub effect_kinds : Reader Actions → List (Reader Effect)
  effect_kinds inner =
      (do
        e ← place ts
        v ← place ts
        give (Effect.set e v))
      ∷ (do
        e ← place ts
        give (toggle e))
      ∷ (do
        n ← u32
        give (delay n))
      ∷ (do
        p ← predicate
        give (condition p))
      ∷ (do
        n ← u16
        bs ← branches inner n
        d ← inner
        give (choose bs d))
      ∷ (do
        t ← trigger ts
        n ← u32
        c ← flag
        give (wait t n c))
      ∷ (do
        r ← place ts
        give (Effect.unknown r))
      ∷ []

  unfoldable pub effect : Reader Actions → Reader Effect
  effect inner = kinds (effect_kinds inner)

  unfoldable pub actions_of : Reader Actions → ℕ → Reader Actions
  actions_of inner zero = give done
  actions_of inner (suc n) = do
    s ← source
    e ← effect inner
    r ← actions_of inner n
    give (act s e r)

  unfoldable pub actions : (left : ℕ) → Reader Actions
  actions zero = refuse
  actions (suc left) = do
    n ← u16
    actions_of (actions left) n

  unfoldable pub automation : Reader Automation
  automation = do
    i ← place ts
    m ← mode
    x ← u32
    us ← counted (trigger ts)
    ps ← counted predicate
    as' ← actions 18
    s ← source
    ns ← counted (place ts)
    give (record { id = i; mode = m; max = x; triggers = us; conditions = ps; actions = as'; source = s; notes = ns })

-- the model's parts; its start is the zeros that the file doesn't hold
unfoldable pub model : Reader Model
model = do
  h ← head
  evs ← events h
  is ← counted (invariant h.texts)
  al ← counted (input h.texts)
  gs ← counted u32
  ls ← limits
  rs ← counted (automation h.texts)
  give (made h evs is al gs ls rs midnight)

unfoldable pub decode : List ℕ → Answer Model
decode s = if ltb 32768 (length s) then refused 30 else decoded (model s 0) (length s)

-- ---- the checks of invariants

module _ (declared : List Entity) where
  unfoldable pub check_conditions : List Predicate → Verdict
  check_conditions ps = 11 when (is_empty ps || ltb 32 (length ps))
      and each_accepted (check_predicate declared) ps

  unfoldable pub check_invariant : Invariant → Verdict
  check_invariant (never i ps) = check_conditions ps
  check_invariant (guard i x v ps) = check_conditions ps and check_value declared x v
  check_invariant (transition i x f t) = check_value declared x f and check_value declared x t
  check_invariant (response i p q n) = check_predicate declared p and check_predicate declared q and 12 when ltb day n

  unfoldable pub check_invariants : List Text → List Invariant → Verdict
  check_invariants ids [] = accept
  check_invariants ids (i ∷ is) =
      10 when (bad_length (id_of i) || mem_t (id_of i) ids)
      and check_invariant i and check_invariants (id_of i ∷ ids) is

unfoldable pub validate : Model → Answer Model
validate m =
    let s = m.scenario in
    1 when bad_title s
    and 2 when bad_size m
    and 3 when bad_limits s.limits
    and 4 when bad_alphabet s
    and each_accepted (check_entity s.entities) s.entities
    and each_accepted (check_input s.entities) (each (λ e. e.input) s.events ++ s.alphabet)
    and 9 when bad_events s.limits.horizon s.events
    and check_invariants s.entities [] s.invariants
    and (answers.◌>>=◌ (check_rules s.entities [] m.rules 0) (λ n. answer m))

unfoldable pub accepted : List ℕ → Answer Model
accepted file = answers.◌>>=◌ (decode file) validate
