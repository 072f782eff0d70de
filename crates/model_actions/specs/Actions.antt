-- Checks of actions over a file: what `validate` tests of each, on places, as model_check's Checks has it of their parts.
-- `proofs/Refines` has that they say what `Validate` says of the list that the reader of `File` finds there.
use Rattle.std.specs.Prelude.{ℕ, zero, suc, ◌+◌, ltb, eqb, if◌then◌else◌}
use Rattle.model_spec.specs.File.{u8, u16}
use Rattle.model_check.specs.declared.Checked.TheVariants as checked
use Rattle.model_check.specs.Checks.{
  Check,
  ◌⨾◌,
  by,
  refuse,
  skip_m,
  times_m,
  day_m,
  Declaration,
  value_m,
  pair_m,
  predicate_m,
  predicates_m,
  trigger_m,
}

-- one action more; 17: more than 512
unfoldable pub count_m : Check
count_m s p n = if ltb n 512 then checked.To p (n + 1) else checked.Refused 17

-- ---- against the entities that the model declares
module _ (d : Declaration) where
  unfoldable pub toggle_m : Check
  toggle_m = by u16 (λ x. value_m d x d.on ⨾ value_m d x d.off)

  unfoldable pub wait_m : Check
  wait_m = trigger_m d ⨾ day_m 19 ⨾ skip_m 1

  -- what follows the kind k of an effect that holds no list
  unfoldable pub simple_m : ℕ → Check
  simple_m k =
      if eqb k 0 then pair_m d
      else if eqb k 1 then toggle_m
      else if eqb k 2 then day_m 18
      else if eqb k 3 then predicate_m d 0
      else if eqb k 5 then wait_m
      else skip_m 2

  abbrev pub branch_m : Check → Check
  branch_m inner = predicates_m d 0 ⨾ inner

  abbrev pub choice_m : Check → Check
  choice_m inner = by u16 (λ c. times_m c (branch_m inner) ⨾ inner)

  abbrev pub action_m : Check → Check
  action_m inner = (count_m ⨾ skip_m 8) ⨾ by u8 (λ k. if eqb k 4 then choice_m inner else simple_m k)

  -- a list of actions below which lists may stand `left` deep; 16: none may stand here
  unfoldable pub actions_m : (left : ℕ) → Check
  actions_m zero = refuse 16
  actions_m (suc left) = by u16 (λ c. times_m c (action_m (actions_m left)))
