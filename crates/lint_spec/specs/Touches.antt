-- lint.rs: what an automation reads, writes and toggles.
use Rattle.std.specs.Prelude.{Bool, true, false, List, [], ◌∷◌, ◌++◌}
use Rattle.std.proofs.Math.Option.{Option, none, some}
use Rattle.texts.specs.Lists.{absent, keep, listed, each, flat, all_lists}
use Rattle.texts.specs.Texts.{Text, text, sorted_t, all_texts}
use Rattle.model_spec.specs.Model.{
  Source,
  Predicate,
  state,
  window,
  Effect,
  toggle,
  delay,
  condition,
  choose,
  wait,
  Actions,
  done,
  act,
  Branches,
  no_branch,
  branch,
  Automation,
}

pub record Action : Type 0 where
  pub source : Source
  pub effect : Effect

-- all actions, those of a choice right behind it
unfoldable mutual
  pub within : Effect → List Action
  within (Effect.set x v) = []
  within (toggle x) = []
  within (delay n) = []
  within (condition p) = []
  within (choose bs d) = within_branches bs ++ walk d
  within (wait t n c) = []
  within (Effect.unknown r) = []

  pub walk : Actions → List Action
  walk done = []
  walk (act s f rest) = record { source = s; effect = f } ∷ within f ++ walk rest

  pub within_branches : Branches → List Action
  within_branches no_branch = []
  within_branches (branch ps as' bs) = walk as' ++ within_branches bs

-- an automation's actions
unfoldable pub actions_of : Automation → List Action
actions_of r = walk r.actions

-- the conditions of a choice's branches, list by list
unfoldable pub conditions_of : Branches → List (List Predicate)
conditions_of no_branch = []
conditions_of (branch ps as' bs) = ps ∷ conditions_of bs

unfoldable pub branch_conditions : Effect → List (List Predicate)
branch_conditions (Effect.set x v) = []
branch_conditions (toggle x) = []
branch_conditions (delay n) = []
branch_conditions (condition p) = []
branch_conditions (choose bs d) = conditions_of bs
branch_conditions (wait t n c) = []
branch_conditions (Effect.unknown r) = []

unfoldable pub is_delay : Effect → Bool
is_delay (Effect.set x v) = false
is_delay (toggle x) = false
is_delay (delay n) = true
is_delay (condition p) = false
is_delay (choose bs d) = false
is_delay (wait t n c) = false
is_delay (Effect.unknown r) = false

-- an action that writes: its source, the entity, and the value; `*` stands for a toggle
pub record Write : Type 0 where
  pub source : Source
  pub entity : Text
  pub value : Text

unfoldable pub write : Source → Effect → Option Write
write s (Effect.set x v) = some (record { source = s; entity = x; value = v })
write s (toggle x) = some (record { source = s; entity = x; value = text "*" })
write s (delay n) = none
write s (condition p) = none
write s (choose bs d) = none
write s (wait t n c) = none
write s (Effect.unknown r) = none

-- an automation's writes, in the order of its actions
unfoldable pub written_by : Automation → List Write
written_by r = flat (λ a. listed (write a.source a.effect)) (actions_of r)

unfoldable pub toggles : Effect → List Text
toggles (Effect.set x v) = []
toggles (toggle x) = x ∷ []
toggles (delay n) = []
toggles (condition p) = []
toggles (choose bs d) = []
toggles (wait t n c) = []
toggles (Effect.unknown r) = []

unfoldable pub predicate_reads : Predicate → List Text
predicate_reads (state x v) = x ∷ []
predicate_reads (Predicate.unknown r) = []
predicate_reads (window d b e) = []

-- a wait's entity is read even if its trigger has a note
unfoldable pub effect_reads : Effect → List Text
effect_reads (Effect.set x v) = []
effect_reads (toggle x) = []
effect_reads (delay n) = []
effect_reads (condition p) = predicate_reads p
effect_reads (choose bs d) = flat (flat predicate_reads) (conditions_of bs)
effect_reads (wait t n c) = t.entity ∷ []
effect_reads (Effect.unknown r) = []

-- the sets, ascending

unfoldable pub reads_of : Automation → List Text
reads_of r = sorted_t (
    each (λ t. t.entity) (keep (λ t. absent t.note) r.triggers)
    ++ flat (λ a. effect_reads a.effect) (actions_of r)
    ++ flat predicate_reads r.conditions)

unfoldable pub writes_of : Automation → List Text
writes_of r = sorted_t (each (λ w. w.entity) (written_by r))

unfoldable pub toggles_of : Automation → List Text
toggles_of r = sorted_t (flat (λ a. toggles a.effect) (actions_of r))

-- opens the file, for proofs by computation
unfoldable pub all_touches : Unit {0}
unfolding all_lists all_texts within actions_of conditions_of branch_conditions is_delay write written_by toggles
    predicate_reads effect_reads reads_of writes_of toggles_of
all_touches = tt
