-- Models without windows, and a model that starts at another moment.
use Rattle.std.specs.Prelude.{Bool, true, ◌&&◌, not}
use Rattle.texts.specs.Lists.{all}
use Rattle.model_spec.specs.Model.{
  Moment,
  Predicate,
  Effect,
  toggle,
  delay,
  condition,
  choose,
  wait,
  Actions,
  done,
  act,
  Branches,
  no_branch,
  branch,
  Automation,
  Invariant,
  never,
  guard,
  transition,
  response,
  Model,
  is_window,
}

unfoldable pub no_window : Predicate → Bool
no_window p = not (is_window p)

unfoldable mutual
  pub windowless_effect : Effect → Bool
  windowless_effect (Effect.set x v) = true
  windowless_effect (toggle x) = true
  windowless_effect (delay n) = true
  windowless_effect (condition p) = no_window p
  windowless_effect (choose bs d) = windowless_branches bs && windowless_actions d
  windowless_effect (wait t n c) = true
  windowless_effect (Effect.unknown r) = true

  pub windowless_actions : Actions → Bool
  windowless_actions done = true
  windowless_actions (act s f rest) = windowless_effect f && windowless_actions rest

  pub windowless_branches : Branches → Bool
  windowless_branches no_branch = true
  windowless_branches (branch ps as' bs) = all no_window ps && (windowless_actions as' && windowless_branches bs)

unfoldable pub windowless_rule : Automation → Bool
windowless_rule r = all no_window r.conditions && windowless_actions r.actions

unfoldable pub windowless_invariant : Invariant → Bool
windowless_invariant (never i ps) = all no_window ps
windowless_invariant (guard i x v ps) = all no_window ps
windowless_invariant (transition i x f t) = true
windowless_invariant (response i p q n) = no_window p && no_window q

unfoldable pub windowless : Model → Bool
windowless m = all windowless_invariant m.scenario.invariants && all windowless_rule m.rules

-- the model with another start
abbrev pub with_start : Moment → Model → Model
with_start o m = record { scenario = m.scenario; rules = m.rules; start = o }
