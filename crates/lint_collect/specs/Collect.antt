-- The entries of all automations, on places, in the order in which Rust adds them.
use Rattle.std.specs.Prelude.{ℕ, zero, suc, ◌+◌, ◌-◌, ◌^◌, Bool, false, List, [], ◌∷◌, ◌++◌, ◌≡◌, ltb, get_or, set, replicate, if◌then◌else◌}
use Rattle.std.specs.Int.Bits.{bit_or}
use Rattle.model_parts.specs.declared.Section.{Section}
use Rattle.lint_walk.specs.declared.Walk.{Walk}
use Rattle.lint_walk.specs.Raw.{place_m, number_m, past, kind_m}
use Rattle.lint_walk.specs.Walks.{walk_m}
use Rattle.lint_access.specs.Sets.{reads_m, writes_m}
use Rattle.lint_areas.specs.Areas.{Item, finding, Board, pushes}
use Rattle.lint_reach.specs.Cycles.{Cycles}
use Rattle.lint_collect.specs.declared.Linted.{Linted}
use Rattle.lint_reach.specs.declared.Components.{Components}
use Rattle.lint_reach.specs.Sets.{holds}
use Rattle.lint_conditions.specs.declared.Names.{Names}
use Rattle.lint_conditions.specs.Conditions.{any_list_m, highest_m, leads_m}
use Rattle.lint_findings.specs.declared.About.{About}
use Rattle.lint_findings.specs.Entries.{items_numbers_m, value_m, rule_items}
use Rattle.lint_pairs.specs.Pairs.{pair_items}

-- n elements from the k-th on, each by its number
unfoldable pub fill_m : {A : Type 0} → (ℕ → A) → (n k : ℕ) → List A → List A
fill_m f zero k l = l
fill_m f (suc n) k l = fill_m f n (k + 1) (set l k (f k))

module _ (s : List ℕ) where
  unfoldable pub about_at : Section → (i source writes : ℕ) → About
  about_at e i source writes = record {
    number = i;
    set = bit_or 0 (2 ^ i);
    tier = highest_m s e writes;
    line =
        number_m s source;
    column = number_m s (past s source 4);
  }

  -- the i-th automation
  unfoldable pub rule_at : Names → (rules : Section) → (i : ℕ) → List Item
  rule_at d rules i =
      let p = get_or rules.starts i 0 in
      let w = walk_m s p in
      rule_items s d rules (about_at d.entities i w.next (writes_m s d.entities w)) p w (reads_m s d.entities p w)
      (writes_m s d.entities w)

  unfoldable pub rules_items : Names → (rules : Section) → List Item
  rules_items d rules = items_numbers_m (rule_at d rules) rules.count 0

  -- the i-th automation against the j-th
  unfoldable pub pair_at : Names → (rules : Section) → (i : ℕ) → Walk → (j : ℕ) → List Item
  pair_at d rules i v j = pair_items s d (bit_or (bit_or 0 (2 ^ i)) (2 ^ j)) v (walk_m s (get_or rules.starts j 0))

  -- against each later one
  unfoldable pub later_items : Names → (rules : Section) → (i : ℕ) → List Item
  later_items d rules i = items_numbers_m (pair_at d rules i (walk_m s (get_or rules.starts i 0))) (rules.count - (i + 1))
      (i + 1)

  unfoldable pub opposing_items : Names → (rules : Section) → List Item
  opposing_items d rules = items_numbers_m (later_items d rules) rules.count 0

  -- ---- reach

  unfoldable pub action_leads_m : (star p action : ℕ) → Bool
  action_leads_m star p a = if ltb 1 (kind_m s a) then false else leads_m s star (place_m s (past s a 9)) (value_m s star a) p

  unfoldable pub leads_to_m : (star : ℕ) → Walk → (p : ℕ) → Bool
  leads_to_m star w p = any_list_m (action_leads_m star p) w.list w.count 0

  unfoldable pub row_m : (star : ℕ) → (rules : Section) → Walk → List Bool
  row_m star rules w = fill_m (λ j. leads_to_m star w (get_or rules.starts j 0)) rules.count 0 (replicate 32 false)

  -- which automations lead to which
  unfoldable pub edges_m : (star : ℕ) → (rules : Section) → List (List Bool)
  edges_m star rules = fill_m (λ i. row_m star rules (walk_m s (get_or rules.starts i 0))) rules.count 0
      (replicate 32 (replicate 32 false))

  -- ---- cycles

  -- what the automations of a set write, of n automations from the i-th on
  unfoldable pub cycle_writes_from : Section → (rules : Section) → (set n i : ℕ) → ℕ → ℕ
  cycle_writes_from e rules set zero i x = x
  cycle_writes_from e rules set (suc n) i x = cycle_writes_from e rules set n (i + 1)
      (if holds set i then bit_or x (writes_m s e (walk_m s (get_or rules.starts i 0))) else x)

  unfoldable pub cycle_writes_m : Section → (rules : Section) → (set : ℕ) → ℕ
  cycle_writes_m e rules set = cycle_writes_from e rules set rules.count 0 0

  unfoldable pub cycle_m : Section → (rules : Section) → (set : ℕ) → List ℕ
  cycle_m e rules set = 5 ∷ 1 ∷ highest_m s e (cycle_writes_m e rules set) ∷ 0 ∷ set ∷ 0 ∷ 0 ∷ 0 ∷ 0 ∷ 0 ∷ 0 ∷ 0 ∷ 0 ∷ 0 ∷ []

  unfoldable pub cycles_items : Section → (rules : Section) → Components → List Item
  cycles_items e rules c = items_numbers_m (λ k. finding (cycle_m e rules (get_or c.sets k 0)) ∷ []) c.count 0

-- what the entries of all automations, pairs and cycles make of a board, and the components
pub record Lints (s : List ℕ) (d : Names) (rules : Section) (b : Board) (r : Linted) (c : Board) : Type 0 where
  pub components : Cycles (edges_m s d.star rules) rules.count r.found
  pub inserted : c ≡ pushes (rules_items s d rules ++ opposing_items s d rules ++ cycles_items s d.entities rules r.found)
      b
