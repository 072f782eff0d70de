-- The reasons that a check may tell.
use Rattle.std.specs.Prelude.{List, [], ◌∷◌, ◌++◌}
use Rattle.texts.specs.Lists.{flat}
use Rattle.texts.specs.Texts.{Text, text}
use Rattle.model_spec.specs.Model.{Invariant, never, guard, transition, response, Model}
use Rattle.engine_spec.specs.Reasons.{space_spent, steps_spent, runs_left}
use Rattle.engine_refinement.specs.Meaning.{pool_of}

-- what reading the records for an invariant may tell
unfoldable pub invariant_pool : Invariant → List Text
invariant_pool (never id ps) =
    (id ++ text ": unknown state predicate") ∷ (id ++ text ": response deadline beyond horizon") ∷ []
invariant_pool (guard id x v ps) =
    (id ++ text ": unknown action guard") ∷ (id ++ text ": response deadline beyond horizon") ∷ []
invariant_pool (transition id x from to) = (id ++ text ": response deadline beyond horizon") ∷ []
invariant_pool (response id p q n) =
    (id ++ text ": unknown response at deadline")
    ∷ (id ++ text ": unknown temporal predicate")
    ∷ (id ++ text ": response deadline beyond horizon")
    ∷ []

-- what a check of the model may tell
unfoldable pub check_pool : Model → List Text
check_pool m = pool_of m ++ (space_spent ∷ steps_spent ∷ runs_left ∷ flat invariant_pool m.scenario.invariants)
