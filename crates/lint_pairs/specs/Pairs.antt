-- The entries of each pair of automations, opposing_writes, on places.
use Rattle.std.specs.Prelude.{ℕ, Bool, false, List, [], ◌∷◌, ltb, leb, eqb, get_or, if◌then◌else◌}
use Rattle.model_parts.specs.declared.Section.{Section}
use Rattle.model_check.specs.Checks.{number_of}
use Rattle.lint_walk.specs.declared.Walk.{Walk}
use Rattle.lint_walk.specs.Raw.{place_m, number_m, past, kind_m}
use Rattle.lint_areas.specs.Areas.{Item, finding, only_if}
use Rattle.lint_conditions.specs.declared.Names.{Names}
use Rattle.lint_conditions.specs.Conditions.{tier_m, opposed_m}
use Rattle.lint_findings.specs.Entries.{items_numbers_m, value_m}

-- a tier's word where Rust spells `accesssafety`
unfoldable pub spelled_m : ℕ → ℕ
spelled_m t = if eqb t 3 then 4 else t

module _ (s : List ℕ) where
  unfoldable pub pair_m : Section → (set e p q : ℕ) → List ℕ
  pair_m es set e p q =
      8 ∷ 1 ∷ spelled_m (tier_m s (get_or es.starts e 0)) ∷ e ∷ set ∷ number_m s p ∷ number_m s
      (past s p 4) ∷ number_m s q ∷ number_m s (past s q 4) ∷ 0 ∷ 0 ∷ 0 ∷ 0 ∷ 0 ∷ []

  unfoldable pub oppose_items : Names → (set p q : ℕ) → List Item
  oppose_items d set p q =
      let x = place_m s (past s p 9) in
      let e = number_of d.entities x s in
      if ltb 1 (kind_m s p) then []
      else if ltb 1 (kind_m s q) then []
      else if leb d.entities.count e then []
      else only_if (opposed_m d.star x (value_m s d.star p) (place_m s (past s q 9)) (value_m s d.star q))
      (finding (pair_m d.entities set e p q))

  -- whether the action at q writes against a write of v to x
  unfoldable pub opposing_m : (star x v q : ℕ) → Bool
  opposing_m star x v q = if ltb 1 (kind_m s q) then false else opposed_m star x v (place_m s (past s q 9)) (value_m s star q)

  -- the finding of two such writes, the first of them to x
  unfoldable pub found_items : Section → (set x p q : ℕ) → List Item
  found_items es set x p q =
      let e = number_of es x s in
      if leb es.count e then [] else finding (pair_m es set e p q) ∷ []

  unfoldable pub row_items : Names → (set : ℕ) → Walk → (p : ℕ) → List Item
  row_items d set w p = items_numbers_m (λ k. oppose_items d set p (get_or w.list k 0)) w.count 0

  unfoldable pub pair_items : Names → (set : ℕ) → Walk → Walk → List Item
  pair_items d set v w = items_numbers_m (λ k. row_items d set w (get_or v.list k 0)) v.count 0
