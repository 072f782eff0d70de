-- The entries of each automation, on places: 14 words for a finding, 3 for an interaction.
use Rattle.std.specs.Prelude.{ℕ, zero, suc, ◌+◌, Bool, false, List, [], ◌∷◌, ◌++◌, ltb, leb, eqb, get_or, if◌then◌else◌}
use Rattle.std.specs.Int.Count.{ones}
use Rattle.model_parts.specs.declared.Section.{Section}
use Rattle.model_check.specs.Checks.{number_of}
use Rattle.lint_reach.specs.Sets.{holds}
use Rattle.lint_walk.specs.declared.Walk.{Walk}
use Rattle.lint_walk.specs.Raw.{place_m, number_m, past, predicates_end, kind_m, conditions_m}
use Rattle.lint_walk.specs.Walks.{list_end}
use Rattle.lint_areas.specs.Areas.{Item, finding, interaction, only_if}
use Rattle.lint_conditions.specs.declared.Names.{Names}
use Rattle.lint_conditions.specs.Conditions.{contradictory_m, mismatched_m, delays_m, stale_m, tier_m, unguarded_m, leads_m}
use Rattle.lint_findings.specs.declared.About.{About}

-- the entries of n numbers from k on
unfoldable pub items_numbers_m : (ℕ → List Item) → (n k : ℕ) → List Item
items_numbers_m f zero k = []
items_numbers_m f (suc n) k = f k ++ items_numbers_m f n (k + 1)

-- the entries of n parts from p on
unfoldable pub items_parts_m : (ℕ → List Item) → (end : ℕ → ℕ) → (n p : ℕ) → List Item
items_parts_m f end zero p = []
items_parts_m f end (suc n) p = f p ++ items_parts_m f end n (end p)

unfoldable pub about_m : About → (code certainty entity line column : ℕ) → List ℕ
about_m a code certainty entity line column =
    code ∷ certainty ∷ a.tier ∷ entity ∷ a.set ∷ line ∷ column ∷ 0 ∷ 0 ∷ 0 ∷ 0 ∷ 0 ∷ 0 ∷ 0 ∷ []

module _ (s : List ℕ) where
  unfoldable pub action_m : About → (code certainty entity p : ℕ) → List ℕ
  action_m a code certainty entity p = about_m a code certainty entity (number_m s p) (number_m s (past s p 4))

  unfoldable pub delayed_m : Walk → (writes : ℕ) → Bool
  delayed_m w writes = if eqb writes 0 then false else delays_m s w

  -- unreachable_conditions, trigger_condition_mismatch, delayed_write
  unfoldable pub own_items : About → (p : ℕ) → Walk → (writes : ℕ) → List Item
  own_items a p w writes =
      only_if (contradictory_m s (conditions_m s p)) (finding (about_m a 0 0 0 a.line a.column))
      ++ only_if (mismatched_m s p) (finding (about_m a 1 1 0 a.line a.column))
      ++ only_if (delayed_m w writes) (finding (about_m a 2 1 0 a.line a.column))

  -- unreachable_branch: of the choice at a position
  unfoldable pub branch_items : About → (p : ℕ) → List Item
  branch_items a p = items_parts_m (λ q. only_if (contradictory_m s q) (finding (action_m a 3 0 0 p)))
      (λ q. list_end s (predicates_end s q)) (place_m s (past s p 9)) (past s (past s p 9) 2)

  -- of the k-th action
  unfoldable pub branches_at : About → Walk → (k : ℕ) → List Item
  branches_at a w k = if eqb (kind_m s (get_or w.list k 0)) 4 then branch_items a (get_or w.list k 0) else []

  unfoldable pub branches_items : About → Walk → List Item
  branches_items a w = items_numbers_m (branches_at a w) w.count 0

  -- high_fanout
  unfoldable pub fanout_items : About → (writes : ℕ) → List Item
  fanout_items a writes = only_if (ltb 8 (ones writes)) (finding (about_m a 4 1 0 a.line a.column))

  -- freshness_assumption
  unfoldable pub stale_here_m : Section → (reads k : ℕ) → Bool
  stale_here_m e reads k = if holds reads k then stale_m s (get_or e.starts k 0) else false

  unfoldable pub fresh_items : About → Section → (reads : ℕ) → List Item
  fresh_items a e reads = items_numbers_m (λ k. only_if (stale_here_m e reads k) (finding (about_m a 6 1 k a.line a.column)))
      e.count 0

  -- ---- writes

  -- a toggle's value is `*`
  unfoldable pub value_m : (star p : ℕ) → ℕ
  value_m star p = if eqb (kind_m s p) 1 then star else place_m s (past s p 11)

  unfoldable pub risky_m : Names → (x v e : ℕ) → Bool
  risky_m d x v e = if ltb (tier_m s (get_or d.entities.starts e 0)) 2 then false else unguarded_m s d x v

  unfoldable pub interact_items : (from : ℕ) → Section → (star x v e : ℕ) → List Item
  interact_items from rules star x v e = items_numbers_m
      (λ k. only_if (leads_m s star x v (get_or rules.starts k 0)) (interaction (from ∷ k ∷ e ∷ []))) rules.count 0

  -- missing_safety_guard, and the interactions, of the action at a position
  unfoldable pub write_items : Names → (rules : Section) → About → (p : ℕ) → List Item
  write_items d rules a p =
      let x = place_m s (past s p 9) in
      let e = number_of d.entities x s in
      let v = value_m d.star p in
      if ltb 1 (kind_m s p) then []
      else if leb d.entities.count e then []
      else only_if (risky_m d x v e) (finding (action_m a 7 1 e p)) ++ interact_items a.number rules d.star x v e

  unfoldable pub writes_items : Names → (rules : Section) → About → Walk → List Item
  writes_items d rules a w = items_numbers_m (λ k. write_items d rules a (get_or w.list k 0)) w.count 0

  unfoldable pub first_items : About → (p : ℕ) → Walk → (writes : ℕ) → List Item
  first_items a p w writes = own_items a p w writes ++ branches_items a w ++ fanout_items a writes

  -- all entries of the automation at a position
  unfoldable pub rule_items : Names → (rules : Section) → About → (p : ℕ) → Walk → (reads writes : ℕ) → List Item
  rule_items d rules a p w reads writes = first_items a p w writes ++ fresh_items a d.entities
      reads ++ writes_items d rules a w
