-- Which numbers refuse a model: 30 and 31 by the file rules, 1 to 19, 50 and 51 by `validate`.
use Rattle.std.specs.Prelude.{if◌then◌else◌}
use Prim.Native.Nat.{ℕ, ◌+◌, ◌≤◌}
use mathlib.Core.Bool.{Bool, true, false, ◌||◌, not}
use mathlib.Core.List.{List, [], ◌∷◌, ◌++◌}
use mathlib.Core.Option.{Option, none, some}
use mathlib.Core.Logic.{◌⊎◌, inl, inr}
use native.Mathlib.Omega.{arith}
use lib.ListN.{length}
use lib.Dec.{ltb}
use Rattle.texts.specs.Lists.{absent, listed, find}
use Rattle.texts.specs.Texts.{Text, text, mem_t}
use Rattle.model_spec.specs.Answer.{Answer, answer, refused, Verdict, accept, ◌>>=◌, ◌and◌, ◌when◌, each_accepted}
use Rattle.model_spec.specs.Model.{
  Entity,
  Predicate,
  state,
  window,
  Trigger,
  Effect,
  toggle,
  delay,
  condition,
  choose,
  wait,
  Actions,
  done,
  act,
  Branches,
  no_branch,
  branch,
  Automation,
  Input,
  reload,
  Invariant,
  never,
  guard,
  transition,
  response,
  id_of,
  Model,
  named,
}
use Rattle.model_spec.specs.Notes.{notes_of}
use Rattle.model_spec.specs.File.{Got, got, broken, model, decoded, decode}
use Rattle.model_spec.specs.Validate.{
  undecided,
  counting,
  check_value,
  check_predicate,
  check_stated,
  check_trigger,
  check_input,
  check_entity,
  check_conditions,
  check_invariant,
  check_invariants,
  check_effect,
  check_actions,
  check_branches,
  check_rule,
  check_rules,
  validate,
  accepted,
}

-- an answer, or one of the numbers that P allows
abbrev pub Refuses : (P : ℕ → Type 0) → {A : Type 0} → Answer A → Type 0
Refuses P (answer a) = Unit {0}
Refuses P (refused n) = P n

-- the numbers of `validate`
abbrev pub Listed : ℕ → Type 0
Listed n = ((1 ≤ n) × (n ≤ 19)) ⊎ ((50 ≤ n) × (n ≤ 51))

abbrev L : {A : Type 0} → Answer A → Type 0
L a = Refuses Listed a

and_l : {A : Type 0} (v : Verdict) (a : Answer A) → L v → L a → L (v and a)
unfolding ◌and◌
and_l (answer u) a h k = k
and_l (refused n) a h k = h

bind_l : {A B : Type 0} (a : Answer A) (k : A → Answer B) → L a → ((x : A) → L (k x)) → L (a >>= k)
unfolding ◌>>=◌
bind_l (answer a) k h g = g a
bind_l (refused n) k h g = h

when_l : (n : ℕ) (b : Bool) → Listed n → L (n when b)
unfolding ◌when◌
when_l n true h = h
when_l n false h = tt

each_l : {A : Type 0} (g : A → Verdict) → ((a : A) → L (g a)) → (l : List A) → L (each_accepted g l)
unfolding each_accepted
each_l g h [] = tt
each_l g h (a ∷ l) = and_l (g a) (each_accepted g l) (h a) (each_l g h l)

counting_l : (n : ℕ) → L (counting n)
unfolding counting
counting_l n = and_l _ _ (when_l 17 _ (inl (omega arith, omega arith))) tt

module _ (es : List Entity) where
  value_l : (x v : Text) → L (check_value es x v)
  unfolding check_value
  value_l x v = by (find (named x) es)
    where
      by : (o : Option Entity) →
          L {A = Unit {0}} (elim o [ none ↦ refused 7 | some e ↦ 8 when not (undecided v || mem_t v e.domain) ])
      by none = inl (omega arith, omega arith)
      by (some e) = when_l 8 _ (inl (omega arith, omega arith))

  predicate_l : (p : Predicate) → L (check_predicate es p)
  unfolding check_predicate
  predicate_l (state x v) = value_l x v
  predicate_l (Predicate.unknown r) = tt
  predicate_l (window d b e) = when_l 50 _ (inr (omega arith, omega arith))

  stated_l : (p : Predicate) → L (check_stated es p)
  unfolding check_stated
  stated_l p = and_l _ _ (when_l 51 _ (inr (omega arith, omega arith))) (predicate_l p)

  trigger_l : (t : Trigger) → L (check_trigger es t)
  unfolding check_trigger
  trigger_l t = by t.note
    where
      by : (o : Option Text) →
          L {A = Unit {0}} (elim o [
            | some n ↦ accept
            | none ↦
                15 when absent (find (named t.entity) es)
                and each_accepted (check_value es t.entity) (listed t.from ++ listed t.to)
          ])
      by (some n) = tt
      by none = and_l _ _ (when_l 15 _ (inl (omega arith, omega arith))) (each_l _ (value_l t.entity) _)

  input_l : (i : Input) → L (check_input es i)
  unfolding check_input
  input_l (Input.set x v) = value_l x v
  input_l Input.restart = tt
  input_l reload = tt

  entity_l : (e : Entity) → L (check_entity es e)
  unfolding check_entity
  entity_l e =
      and_l _ _ (when_l 5 _ (inl (omega arith, omega arith)))
      (and_l _ _ (when_l 6 _ (inl (omega arith, omega arith))) (value_l e.name e.initial))

  conditions_l : (ps : List Predicate) → L (check_conditions es ps)
  unfolding check_conditions
  conditions_l ps = and_l _ _ (when_l 11 _ (inl (omega arith, omega arith))) (each_l _ stated_l ps)

  invariant_l : (i : Invariant) → L (check_invariant es i)
  unfolding check_invariant
  invariant_l (never i ps) = conditions_l ps
  invariant_l (guard i x v ps) = and_l _ _ (conditions_l ps) (value_l x v)
  invariant_l (transition i x f t) = and_l _ _ (value_l x f) (value_l x t)
  invariant_l (response i p q n) =
      and_l _ _ (stated_l p) (and_l _ _ (stated_l q) (when_l 12 _ (inl (omega arith, omega arith))))

  invariants_l : (ids : List Text) (l : List Invariant) → L (check_invariants es ids l)
  unfolding check_invariants
  invariants_l ids [] = tt
  invariants_l ids (i ∷ l) =
      and_l _ _ (when_l 10 _ (inl (omega arith, omega arith)))
      (and_l _ _ (invariant_l i) (invariants_l (id_of i ∷ ids) l))

  mutual
    unfolding check_effect

    effect_l : (g : Effect) (d n : ℕ) → L (check_effect es g d n)
    effect_l (Effect.set x v) d n = and_l _ _ (value_l x v) tt
    effect_l (toggle x) d n = and_l _ _ (value_l x (text "on")) (and_l _ _ (value_l x (text "off")) tt)
    effect_l (delay t) d n = and_l _ _ (when_l 18 _ (inl (omega arith, omega arith))) tt
    effect_l (condition p) d n = and_l _ _ (predicate_l p) tt
    effect_l (choose bs a) d n = bind_l _ _ (branches_l bs d n) (λ m. actions_l a (d + 1) m)
    effect_l (wait t k c) d n = and_l _ _ (trigger_l t) (and_l _ _ (when_l 19 _ (inl (omega arith, omega arith))) tt)
    effect_l (Effect.unknown r) d n = tt

    actions_l : (a : Actions) (d n : ℕ) → L (check_actions es a d n)
    actions_l done d n = and_l _ _ (when_l 16 _ (inl (omega arith, omega arith))) tt
    actions_l (act s g r) d n =
        and_l _ _ (when_l 16 _ (inl (omega arith, omega arith)))
        (bind_l _ _ (counting_l (n + 1)) (λ m. bind_l _ _ (effect_l g d m) (λ k. actions_l r d k)))

    branches_l : (b : Branches) (d n : ℕ) → L (check_branches es b d n)
    branches_l no_branch d n = tt
    branches_l (branch ps a b) d n =
        and_l _ _ (each_l _ predicate_l ps) (bind_l _ _ (actions_l a (d + 1) n) (λ m. branches_l b d m))

  rules_l : (ids : List Text) (rs : List Automation) (n : ℕ) → L (check_rules es ids rs n)
  unfolding check_rules check_rule
  rules_l ids [] n = tt
  rules_l ids (r ∷ rs) n =
      bind_l _ _
      (and_l _ _ (when_l 13 _ (inl (omega arith, omega arith)))
      (and_l _ _ (when_l 14 _ (inl (omega arith, omega arith)))
      (and_l _ _ (each_l _ trigger_l r.triggers)
      (and_l _ _ (each_l _ predicate_l r.conditions) (actions_l r.actions 0 n)))))
      (λ m. rules_l (r.id ∷ ids) rs m)

validate_l : (m : Model) → L (validate m)
unfolding validate
validate_l m =
    let es = m.scenario.entities in
    and_l _ _ (when_l 1 _ (inl (omega arith, omega arith)))
    (and_l _ _ (when_l 2 _ (inl (omega arith, omega arith)))
    (and_l _ _ (when_l 3 _ (inl (omega arith, omega arith)))
    (and_l _ _ (when_l 4 _ (inl (omega arith, omega arith)))
    (and_l _ _ (each_l _ (entity_l es) _)
    (and_l _ _ (each_l _ (input_l es) _)
    (and_l _ _ (when_l 9 _ (inl (omega arith, omega arith)))
    (and_l _ _ (invariants_l es [] m.scenario.invariants)
    (bind_l _ _ (rules_l es [] m.rules 0) (λ n. tt)))))))))

-- ---- a file's refusal

-- the numbers that refuse a model: those of the file rules, and those of `validate`
abbrev pub Refusal : ℕ → Type 0
Refusal n = ((30 ≤ n) × (n ≤ 31)) ⊎ Listed n

thirty : Refusal 30
thirty = inl (omega arith, omega arith)

thirty_one : Refusal 31
thirty_one = inl (omega arith, omega arith)

decode_r : (s : List ℕ) → Refuses Refusal (decode s)
unfolding decode decoded
decode_r s = by (ltb 32768 (length s)) (model s 0)
  where
    whole : (a b : Bool) (m : Model) →
        Refuses Refusal (if a then refused 30 else if b then refused 31 else answer m)
    whole true b m = thirty
    whole false true m = thirty_one
    whole false false m = tt

    by : (b : Bool) (g : Got Model) → Refuses Refusal (if b then refused 30 else decoded g (length s))
    by true g = thirty
    by false (got m q) = whole (ltb 64 (length (notes_of m))) (ltb q (length s)) m
    by false broken = thirty

-- 30 and 31, or 1 to 19, 50 and 51
pub refusal_numbers : (file : List ℕ) → Refuses Refusal (accepted file)
unfolding accepted ◌>>=◌
refusal_numbers file = by (decode file) (decode_r file)
  where
    late : (a : Answer Model) → L a → Refuses Refusal a
    late (answer m) h = tt
    late (refused n) h = let r : Refusal n = inr h in r

    by : (a : Answer Model) → Refuses Refusal a → Refuses Refusal (a >>= validate)
    by (answer m) h = late (validate m) (validate_l m)
    by (refused n) h = h
