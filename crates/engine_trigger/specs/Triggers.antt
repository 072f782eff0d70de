-- What a change sets off.
use Rattle.std.specs.Prelude.{ℕ, zero, suc, ◌+◌, Some, None, List, eqb, if◌then◌else◌}
use Rattle.layout.specs.Table.{conditions_word, notes_word, source_word, triggers_word}
use Rattle.records.specs.Kinds.{trigger_kind}
use Rattle.engine_fields.specs.Fields.{two, four, word, rules, about_rule}
use Rattle.engine_evaluate.specs.Evaluate.{number_m, any_m, all_m}
use Rattle.engine_evaluate.specs.declared.Truth.{Truth}
use Rattle.engine_evaluate.specs.declared.Truth.TheVariants.{Yes, No, Unknown}
use Rattle.engine_state.specs.declared.Move.{Move}
use Rattle.engine_state.specs.Machine.{Machine}
use Rattle.engine_state.specs.Changes.{saying, log_m, uncertain_m}
use Rattle.engine_modes.specs.Modes.{carry_out_m}
use Rattle.engine_trigger.specs.Runs.{wake_m}
use Rattle.reasons.specs.Kinds as kinds

-- an automation with notes doesn't run
unfoldable pub admit_m : (f x : List ℕ) → (i : ℕ) → Truth → Machine → Machine
admit_m f x i Yes m = if eqb (two f (word x i notes_word)) 0 then carry_out_m f x i m else m
admit_m f x i No m = m
admit_m f x i Unknown m = uncertain_m f (about_rule f x i kinds.trigger_condition) m

unfoldable pub log_trigger_m : (f x : List ℕ) → (i : ℕ) → Truth → Machine → Machine
log_trigger_m f x i t m = log_m (saying trigger_kind (number_m t)) (Some i)
    (Some (record { line = four f (word x i source_word); column = four f (word x i source_word + 4) })) None m

unfoldable pub offer_as_m : (f x : List ℕ) → (i : ℕ) → Truth → Machine → Machine
offer_as_m f x i t m = admit_m f x i t (log_trigger_m f x i t m)

unfoldable pub offer_m : (f x : List ℕ) → Move → (i : ℕ) → Machine → Machine
offer_m f x v i m = if any_m f v (word x i triggers_word)
    then offer_as_m f x i (all_m f x m.values m.now (word x i conditions_word)).truth m else m

-- the first n automations
unfoldable pub offer_first_m : (f x : List ℕ) → Move → (n : ℕ) → Machine → Machine
offer_first_m f x v zero m = m
offer_first_m f x v (suc i) m = offer_m f x v i (offer_first_m f x v i m)

unfoldable pub trigger_m : (f x : List ℕ) → Move → Machine → Machine
trigger_m f x v m = offer_first_m f x v (rules x) (wake_m f v m)
