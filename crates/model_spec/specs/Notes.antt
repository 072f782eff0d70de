-- The notes of a model: unknown marks in triggers, predicates, effects and automations. A file holds at most 64.
use Rattle.std.specs.Prelude.{List, [], ◌∷◌, ◌++◌}
use Rattle.texts.specs.Texts.{Text}
use Rattle.texts.specs.Lists.{listed, flat}
use Rattle.model_spec.specs.Model.{
  Predicate,
  state,
  window,
  Trigger,
  Effect,
  toggle,
  delay,
  condition,
  choose,
  wait,
  Actions,
  done,
  act,
  Branches,
  no_branch,
  branch,
  Automation,
  Invariant,
  never,
  guard,
  transition,
  response,
  Model,
}

unfoldable pub of_predicate : Predicate → List Text
of_predicate (state x v) = []
of_predicate (Predicate.unknown r) = r ∷ []
of_predicate (window d b e) = []

unfoldable pub of_trigger : Trigger → List Text
of_trigger t = listed t.note

unfoldable mutual
  pub of_effect : Effect → List Text
  of_effect (Effect.set x v) = []
  of_effect (toggle x) = []
  of_effect (delay n) = []
  of_effect (condition p) = of_predicate p
  of_effect (choose bs d) = of_branches bs ++ of_actions d
  of_effect (wait t n c) = of_trigger t
  of_effect (Effect.unknown r) = r ∷ []

  pub of_actions : Actions → List Text
  of_actions done = []
  of_actions (act s f rest) = of_effect f ++ of_actions rest

  pub of_branches : Branches → List Text
  of_branches no_branch = []
  of_branches (branch ps as' bs) = flat of_predicate ps ++ of_actions as' ++ of_branches bs

unfoldable pub of_invariant : Invariant → List Text
of_invariant (never i ps) = flat of_predicate ps
of_invariant (guard i x v ps) = flat of_predicate ps
of_invariant (transition i x f t) = []
of_invariant (response i p q n) = of_predicate p ++ of_predicate q

unfoldable pub of_rule : Automation → List Text
of_rule r = r.notes ++ flat of_trigger r.triggers ++ flat of_predicate r.conditions ++ of_actions r.actions

-- all notes of a model, each mark once
unfoldable pub notes_of : Model → List Text
notes_of m = flat of_invariant m.scenario.invariants ++ flat of_rule m.rules

-- opens the file, for proofs by computation
unfoldable pub all_notes : Unit {0}
unfolding listed flat of_predicate of_trigger of_effect of_invariant of_rule notes_of
all_notes = tt
