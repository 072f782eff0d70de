-- Predicates, triggers and branches at positions of the file f, with the table x and the entities' values vs, at a second.
use Rattle.std.specs.Prelude.{Some, None, ℕ, zero, suc, ◌+◌, Bool, true, false, List, ltb, eqb, get_or, if◌then◌else◌}
use Rattle.layout.specs.Table.{text_count_word, unavailable_word, unknown_word}
use Rattle.model_walk.specs.Walk.{Walked, predicate_size, actions_m}
use Rattle.engine_fields.specs.Fields.{two, cap, entity_of}
use Rattle.engine_window.specs.Window.{open_m}
use Rattle.engine_state.specs.Machine.{later}
use Rattle.engine_state.specs.declared.Move.{Move}
use Rattle.engine_evaluate.specs.declared.Truth.{Truth}
use Rattle.engine_evaluate.specs.declared.Truth.TheVariants.{Yes, No, Unknown}
use Rattle.engine_evaluate.specs.declared.Judged.{Judged}
use Rattle.engine_evaluate.specs.declared.Branch.{Branch}
use Rattle.engine_evaluate.specs.declared.Branch.TheVariants.{Take, Unclear, Skip}

abbrev pub number_m : Truth → ℕ
number_m Yes = 0
number_m No = 1
number_m Unknown = 2

-- Kleene's strong conjunction
unfoldable pub both_m : Truth → Truth → Truth
both_m Yes b = b
both_m No b = No
both_m Unknown Yes = Unknown
both_m Unknown No = No
both_m Unknown Unknown = Unknown

unfoldable pub undecided_m : List ℕ → ℕ → Bool
undecided_m x v = if eqb v (get_or x unknown_word 0) then true else eqb v (get_or x unavailable_word 0)

unfoldable pub against_m : List ℕ → (present v : ℕ) → Truth
against_m x p v = if eqb p v then Yes else if undecided_m x p then Unknown else No

-- the e-th entity has the value v
unfoldable pub value_m : (x vs : List ℕ) → (e v : ℕ) → Truth
value_m x vs e v = if ltb e 32 then against_m x (get_or vs e 0) v else Unknown

-- the predicate at a position
unfoldable pub evaluate_m : (f x vs : List ℕ) → (second at : ℕ) → Truth
evaluate_m f x vs second at =
    if eqb (get_or f at 0) 1 then Unknown else
    if eqb (get_or f at 0) 2 then (if open_m f x second at then Yes else No) else
    value_m x vs (entity_of x (two f (at + 1))) (two f (at + 3))

-- how many bytes it has
unfoldable pub size_m : List ℕ → (at : ℕ) → ℕ
size_m f at = predicate_size (get_or f at 0)

-- `left` predicates from p on, after the verdict t
unfoldable pub all_from : (f x vs : List ℕ) → (second left p : ℕ) → Truth → Judged
all_from f x vs second zero p t = record { truth = t; next = p }
all_from f x vs second (suc left) p t = all_from f x vs second left (later p (size_m f p)) (both_m t (evaluate_m f x vs second p))

unfoldable pub all_m : (f x vs : List ℕ) → (second at : ℕ) → Judged
all_m f x vs second at = all_from f x vs second (two f at) (later at 2) Yes

-- ---- triggers

unfoldable pub admits_m : (p v : ℕ) → Bool
admits_m p v = if eqb p 65535 then true else eqb p v

-- the trigger at a position is set off; one with a note never is
unfoldable pub matches_m : List ℕ → Move → (at : ℕ) → Bool
matches_m f m at =
    if eqb (two f (at + 14)) 65535 then
    (if eqb (two f at) m.entity then
    (if eqb m.from m.to then false else
    (if admits_m (two f (at + 2)) m.from then admits_m (two f (at + 4)) m.to else false))
    else false)
    else false

unfoldable pub any_from : List ℕ → Move → (left p : ℕ) → Bool
any_from f m zero p = false
any_from f m (suc left) p = elim (matches_m f m p) [ true ↦ true | false ↦ any_from f m left (later p 16) ]

unfoldable pub any_m : List ℕ → Move → (at : ℕ) → Bool
any_m f m at = any_from f m (two f at) (later at 2)

-- ---- branches

unfoldable pub end_m : Walked → (at : ℕ) → ℕ
end_m (Some (p, n)) at = cap p
end_m None at = at

-- what is done with a branch whose predicates have this verdict
unfoldable pub judged_m : (f x : List ℕ) → Judged → Branch
judged_m f x j = elim j.truth [
  | Yes ↦ Take j.next
  | No ↦ Skip (end_m (actions_m (get_or x text_count_word 0) 17 f j.next 0) j.next)
  | Unknown ↦ Unclear
]

unfoldable pub branch_m : (f x vs : List ℕ) → (second at : ℕ) → Branch
branch_m f x vs second at = judged_m f x (all_m f x vs second at)

unfoldable pub select_from : (f x vs : List ℕ) → (second left p : ℕ) → Branch
select_from f x vs second zero p = Take p
select_from f x vs second (suc left) p = elim (branch_m f x vs second p) [
  | Take q ↦ Take q
  | Unclear ↦ Unclear
  | Skip q ↦ select_from f x vs second left q
]

unfoldable pub select_m : (f x vs : List ℕ) → (second at : ℕ) → Branch
select_m f x vs second at = select_from f x vs second (two f at) (later at 2)
