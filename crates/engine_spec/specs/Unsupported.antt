-- engine.rs: the notes of a model's automations as reasons, sorted, each once.
use Rattle.std.specs.Prelude.{List, [], ◌∷◌, ◌++◌}
use Rattle.texts.specs.Lists.{each, flat, all_lists}
use Rattle.texts.specs.Texts.{Text, text, sorted_t, decimal, all_texts}
use Rattle.model_spec.specs.Notes.{of_predicate, of_trigger, all_notes}
use Rattle.model_spec.specs.Model.{
  Source,
  Effect,
  toggle,
  delay,
  condition,
  choose,
  wait,
  Actions,
  done,
  act,
  Branches,
  no_branch,
  branch,
  Automation,
}

-- LINE:COLUMN
unfoldable pub placed : Source → Text
placed s = decimal s.line ++ text ":" ++ decimal s.column

unfoldable mutual
  pub effect_reasons : Effect → Source → List Text
  effect_reasons (Effect.set x v) s = []
  effect_reasons (toggle x) s = []
  effect_reasons (delay n) s = []
  effect_reasons (condition p) s = of_predicate p
  effect_reasons (choose bs d) s = branch_reasons bs ++ action_reasons d
  effect_reasons (wait t n c) s = of_trigger t
  effect_reasons (Effect.unknown r) s = (placed s ++ text ": " ++ r) ∷ []

  pub action_reasons : Actions → List Text
  action_reasons done = []
  action_reasons (act s f rest) = effect_reasons f s ++ action_reasons rest

  pub branch_reasons : Branches → List Text
  branch_reasons no_branch = []
  branch_reasons (branch ps as' bs) = flat of_predicate ps ++ action_reasons as' ++ branch_reasons bs

-- an automation's own notes and those of its triggers and conditions stand behind its identifier
unfoldable pub rule_reasons : Automation → List Text
rule_reasons r =
    each (λ t. r.id ++ text ": " ++ t) (r.notes ++ flat of_trigger r.triggers ++ flat of_predicate r.conditions)
    ++ action_reasons r.actions

unfoldable pub unsupported : List Automation → List Text
unsupported rules = sorted_t (flat rule_reasons rules)

-- opens the file, for proofs by computation
unfoldable pub all_unsupported : Unit {0}
unfolding all_lists all_texts all_notes placed effect_reasons rule_reasons unsupported
all_unsupported = tt
