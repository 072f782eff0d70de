-- The undeclared names in the cone, on places.
use Rattle.std.specs.Prelude.{ℕ, zero, suc, ◌+◌, Bool, true, false, eqb, leb, ltb, get_or, set, replicate, if◌then◌else◌}
use Rattle.lint_reach.specs.Sets.{holds}
use Rattle.lint_undeclared.specs.declared.Undeclared.{Undeclared}
use Rattle.cone_names.specs.declared.ConeNames.{ConeNames}

-- with one name more, if there is place
unfoldable pub with_m : ConeNames → (place : ℕ) → ConeNames
with_m n t = if ltb n.count 64 then record { count = n.count + 1; list = set n.list n.count t } else n

abbrev pub no_names : ConeNames
no_names = record { count = 0; list = replicate 64 0 }

module _ (u : Undeclared) (automations : ℕ) where
  -- the j-th name is the one at the place, and its reader is among the automations
  unfoldable pub read_m : (place j : ℕ) → Bool
  read_m t j =
      if eqb (get_or u.names j 0) t
      then (if leb 32 (get_or u.readers j 0) then false else holds automations (get_or u.readers j 0))
      else false

  -- one of `left` names from the j-th on
  unfoldable pub some_m : (place left j : ℕ) → Bool
  some_m t zero j = false
  some_m t (suc left) j = if leb u.count j then false else if read_m t j then true else some_m t left (j + 1)

  unfoldable pub wanted_m : (place : ℕ) → Bool
  wanted_m t = some_m t 64 0

  unfoldable pub name_m : (place : ℕ) → ConeNames → ConeNames
  name_m t n = if wanted_m t then with_m n t else n

  -- of `left` texts from the place t on
  unfoldable pub from_m : (left t : ℕ) → ConeNames → ConeNames
  from_m zero t n = n
  from_m (suc left) t n = from_m left (t + 1) (name_m t n)

  unfoldable pub names_m : (texts : ℕ) → ConeNames
  names_m k = from_m k 0 no_names
