-- The array of edges is a full square, and a copy of any square with the same cells.
use mathlib.Core.Path.{◌≡◌, refl, ap, ◌∙◌}
use mathlib.Core.Bool.{Bool, true, false}
use mathlib.Core.Logic.{◌⊎◌, inl, inr, ⊎_elim}
use mathlib.Core.List.{List, []}
use Prim.Native.Nat.{ℕ, zero, suc, ◌+◌, ◌-◌, ◌≤◌, ◌<◌}
use native.Mathlib.Omega.{arith}
use native.Mathlib.Decide.{dec_lt}
use lib.ListN.{length, get_or, set, replicate, length-set, length-replicate, get_or-replicate, get_or-eq_default}
use lib.Seq.{get_or-set_same, get_or-set_other}
use Rattle.texts.proofs.Bool.{never}
use Rattle.model_parts.specs.declared.Section.{Section}
use Rattle.lint_reach.specs.Steps.{Square, cell}
use Rattle.lint_reach.specs.Paths.{Full}
use Rattle.lint_reach.specs.Cycles.{Copies}
use Rattle.lint_walk.specs.declared.Walk.{Walk}
use Rattle.lint_walk.specs.Walks.{walk_m}
use Rattle.lint_collect.specs.Collect.{leads_to_m, fill_m, row_m, edges_m}

module _ {A : Type 0} (f : ℕ → A) (d : A) where
  fill_length : (n k : ℕ) (l : List A) → length (fill_m f n k l) ≡ length l
  unfolding fill_m
  fill_length zero k l = refl
  fill_length (suc n) k l = fill_length n (k + 1) (set l k (f k)) ∙ length-set l k (f k)

  fill_out : (n k : ℕ) (l : List A) (j : ℕ) → (j < k) ⊎ (k + n ≤ j) → get_or (fill_m f n k l) j d ≡ get_or l j d
  unfolding fill_m
  fill_out zero k l j h = refl
  fill_out (suc n) k l j h =
      fill_out n (k + 1) (set l k (f k)) j (⊎_elim (λ w. inl (omega arith)) (λ w. inr (omega arith)) h)
      ∙ get_or-set_other l k j (f k) d (λ e. ⊎_elim (λ w. omega arith) (λ w. omega arith) h)

  fill_in : (n k : ℕ) (l : List A) (j : ℕ) → k ≤ j → j < k + n → j < length l → get_or (fill_m f n k l) j d ≡ f j
  unfolding fill_m
  fill_in zero k l j a b c = absurd (omega arith)
  fill_in (suc n) k l j a b c = elim (dec_lt k j) [
    | yes h ↦ fill_in n (k + 1) (set l k (f k)) j (omega arith) (omega arith) (rw (length-set l k (f k)) c)
    | no h ↦
        let e : j ≡ k = omega arith in
        fill_out n (k + 1) (set l k (f k)) j (inl (omega arith)) ∙ rw e (get_or-set_same l k (f k) d (rw e at c))
  ]

blank_cell : (j : ℕ) → get_or (replicate 32 false) j false ≡ false
blank_cell j = elim (dec_lt j 32) [
  | yes h ↦ get_or-replicate 32 j false false h
  | no h ↦ let k : length (replicate 32 false) ≤ j = rw (length-replicate 32 false) (omega arith) in
      get_or-eq_default (replicate 32 false) false k
]

module _ (s : List ℕ) (star : ℕ) (rules : Section) (few : rules.count ≤ 32) where
  abbrev n : ℕ
  n = rules.count

  row_length : (w : Walk) → length (row_m s star rules w) ≡ 32
  unfolding row_m
  row_length w = fill_length (λ j. leads_to_m s star w (get_or rules.starts j 0)) false n 0 (replicate 32 false)
      ∙ length-replicate 32 false

  row_of : (i : ℕ) → i < n → get_or (edges_m s star rules) i [] ≡ row_m s star rules (walk_m s (get_or rules.starts i 0))
  unfolding edges_m
  row_of i h =
      fill_in (λ i. row_m s star rules (walk_m s (get_or rules.starts i 0))) [] rules.count 0
      (replicate 32 (replicate 32 false)) i (omega arith) (omega arith)
      (rw (length-replicate 32 (replicate 32 false)) (omega arith))

  row_past : (i : ℕ) → n ≤ i → i < 32 → get_or (edges_m s star rules) i [] ≡ replicate 32 false
  unfolding edges_m
  row_past i h k =
      fill_out (λ i. row_m s star rules (walk_m s (get_or rules.starts i 0))) [] rules.count 0
      (replicate 32 (replicate 32 false)) i (inr (omega arith))
      ∙ get_or-replicate 32 i (replicate 32 false) [] k

  edges_rows : length (edges_m s star rules) ≡ 32
  unfolding edges_m
  edges_rows = fill_length (λ i. row_m s star rules (walk_m s (get_or rules.starts i 0))) [] rules.count 0
      (replicate 32 (replicate 32 false)) ∙ length-replicate 32 (replicate 32 false)

  pub edges_full : Full (edges_m s star rules)
  edges_full = record {
    rows = edges_rows;
    cells = λ i h. elim (dec_lt i n) [
      | yes k ↦ ap length (row_of i k) ∙ row_length (walk_m s (get_or rules.starts i 0))
      | no k ↦ ap length (row_past i (omega arith) h) ∙ length-replicate 32 false
    ];
  }

  pub edge_is : (i j : ℕ) → i < n → j < n → cell (edges_m s star rules) i j
      ≡ leads_to_m s star (walk_m s (get_or rules.starts i 0)) (get_or rules.starts j 0)
  unfolding row_m
  edge_is i j h k =
      ap (λ (l : List Bool). get_or l j false) (row_of i h)
      ∙ fill_in (λ j. leads_to_m s star (walk_m s (get_or rules.starts i 0)) (get_or rules.starts j 0)) false rules.count 0
      (replicate 32 false) j (omega arith) (omega arith)
      (rw (length-replicate 32 false) (omega arith))

  -- where an edge says yes, both places are automations
  in_rows : (i j : ℕ) → cell (edges_m s star rules) i j ≡ true → i < n
  in_rows i j e = elim (dec_lt i n) [
    | yes h ↦ h
    | no h ↦ elim (dec_lt i 32) [
      | yes k ↦ never e (ap (λ (l : List Bool). get_or l j false) (row_past i (omega arith) k) ∙ blank_cell j)
      | no k ↦ never e (ap (λ (l : List Bool). get_or l j false)
          (get_or-eq_default (edges_m s star rules) [] (omega (arith, edges_rows))))
    ]
  ]

  in_columns : (i j : ℕ) → cell (edges_m s star rules) i j ≡ true → j < n
  unfolding row_m
  in_columns i j e = elim (dec_lt j n) [
    | yes h ↦ h
    | no h ↦
        never e (ap (λ (l : List Bool). get_or l j false) (row_of i (in_rows i j e))
        ∙ fill_out (λ j. leads_to_m s star (walk_m s (get_or rules.starts i 0)) (get_or rules.starts j 0)) false
        rules.count 0 (replicate 32 false) j (inr (omega arith))
        ∙ blank_cell j)
  ]

  -- any square with the same cells is copied
  pub edges_copy : (sq : Square) → length sq ≡ n → ((i : ℕ) → i < n → length (get_or sq i []) ≡ n) →
      ((i j : ℕ) → i < n → j < n → leads_to_m s star (walk_m s (get_or rules.starts i 0)) (get_or rules.starts j 0)
      ≡ cell sq i j) → Copies (edges_m s star rules) n sq
  edges_copy sq a b c = record {
    rows = a;
    columns = b;
    same = λ i j h k. edge_is i j h k ∙ c i j h k;
    row = in_rows;
    column = in_columns;
  }
