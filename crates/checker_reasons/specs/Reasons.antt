-- The reasons that the reading of the invariant at a position of the file f gives, by what it kept.
use Rattle.std.specs.Prelude.{ℕ, ◌+◌, Bool, List, [], ◌∷◌, map, eqb, get_or, if◌then◌else◌}
use Rattle.texts.specs.Texts.{Text}
use Rattle.reasons.specs.Kinds as kinds
use Rattle.reasons.specs.Reasons.{render}
use Rattle.reasons.specs.declared.Reason.{Reason}
use Rattle.engine_fields.specs.Fields.{two, text_position}
use Rattle.checker_response.specs.declared.Memory.{Memory}
use Rattle.checker_reasons.specs.declared.Told.{Told}
use Rattle.checker_reasons.specs.declared.Told.TheVariants.{Nothing, One, Two}

abbrev pub list_of : Told → List Reason
list_of Nothing = []
list_of (One r) = r ∷ []
list_of (Two r s) = r ∷ s ∷ []

unfoldable pub renderings : List ℕ → Told → List Text
renderings f t = map (render f) (list_of t)

-- the invariant's identifier and the words of a kind
unfoldable pub about_m : List ℕ → (at kind : ℕ) → Reason
about_m f at k = record { kind = k; first = text_position f (two f (at + 1)); second = 4294967295; line = 0; column = 0 }

unfoldable pub if_m : Bool → Reason → Told
if_m b r = if b then One r else Nothing

unfoldable pub temporal_m : Memory → (late predicate : Reason) → Told
temporal_m m late predicate = if m.unclear then (if m.unknown then Two late predicate else One late)
    else if_m m.unknown predicate

-- state predicate, action guard; response at deadline and temporal predicate
unfoldable pub unknown_m : List ℕ → (at : ℕ) → Memory → Told
unknown_m f at m =
    if eqb (get_or f at 0) 0 then if_m m.unknown (about_m f at kinds.state_predicate)
    else if eqb (get_or f at 0) 1 then if_m m.unknown (about_m f at kinds.action_guard)
    else if eqb (get_or f at 0) 2 then Nothing
    else temporal_m m (about_m f at kinds.response_at_deadline) (about_m f at kinds.temporal_predicate)

-- response deadline beyond horizon
unfoldable pub incomplete_m : List ℕ → (at : ℕ) → Memory → Told
incomplete_m f at m = if_m m.beyond (about_m f at kinds.beyond_horizon)
