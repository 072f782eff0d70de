-- The definition's `closure` is reach by one or more steps too, so that it has the cells of the array that the code closes;
-- and the sets of places are the definition's components.
use Rattle.std.specs.Prelude.{if◌then◌else◌}
use mathlib.Core.Path.{◌≡◌, refl, sym, ap, ◌∙◌}
use mathlib.Core.Bool.{Bool, true, false, ◌||◌, ◌&&◌, not, or_assoc}
use mathlib.Core.Logic.{◌⊎◌, inl, inr, ⊎_elim}
use mathlib.Core.List.{List, [], ◌∷◌, ◌++◌}
use Prim.Native.Nat.{ℕ, zero, suc, ◌+◌, ◌-◌, ◌≤◌, ◌<◌}
use native.Mathlib.Omega.{arith}
use native.Mathlib.Nat.{zero-add}
use native.Mathlib.Decide.{dec_lt}
use lib.Bits.{bit_or}
use lib.Dec.{eqb}
use lib.ListN.{length, get_or, take, get_or-eq_default}
use borrow.Author.Tests.{eq-eqb, ne_eqb}
use Rattle.texts.proofs.Bool.{never}
use Rattle.texts.specs.Lists.{any, keep, each, through}
use Rattle.lint_spec.specs.Reach.{places, square, by_way_of, closure, component, components_among}
use Rattle.lint_spec.specs.Reach as lint
use Rattle.lint_reach.specs.declared.Components.{Components}
use Rattle.lint_reach.specs.Steps.{Square, cell}
use Rattle.lint_reach.specs.Paths.{Reaches, edge, joined, Closes}
use Rattle.lint_reach.specs.Sets.{holds, members}
use Rattle.lint_reach.specs.Cycles.{both_m, component_m, starts_m, components_from, components_m, Copies}
use Rattle.lint_reach.proofs.Closure.{below}
use Rattle.lint_reach.proofs.Bits.{
  Three,
  less,
  same,
  more,
  three,
  holds_or,
  holds_none,
  keep_same,
  collect_inside,
  collect_members,
}

cell_is : (sq : Square) (i j : ℕ) → lint.cell sq i j ≡ cell sq i j
unfolding lint.cell
cell_is sq i j = refl

-- ---- a square of places

module _ {A : Type 0} (f : ℕ → A) (d : A) where
  each_place : (n i k : ℕ) → k < n → get_or (each f (places n i)) k d ≡ f (i + k)
  unfolding each places
  each_place zero i k h = absurd (omega arith)
  each_place (suc n) i zero h =
      let e : i + 0 ≡ i = omega arith in
      rw e
  each_place (suc n) i (suc k) h =
      let e : i + suc k ≡ i + 1 + k = omega arith in
      each_place n (i + 1) k (omega arith) ∙ ap f (sym e)

  each_length : (n i : ℕ) → length (each f (places n i)) ≡ n
  unfolding each places
  each_length zero i = refl
  each_length (suc n) i = ap suc (each_length n (i + 1))

module _ (n : ℕ) (f : ℕ → ℕ → Bool) where
  square_row : (i : ℕ) → i < n → get_or (square n f) i [] ≡ each (f i) (places n 0)
  unfolding square
  square_row i h = each_place (λ i. each (f i) (places n 0)) [] n 0 i h
      ∙ ap (λ (k : ℕ). each (f k) (places n 0)) (zero-add i)

  square_rows : length (square n f) ≡ n
  unfolding square
  square_rows = each_length (λ i. each (f i) (places n 0)) [] n 0

  square_columns : (i : ℕ) → i < n → length (get_or (square n f) i []) ≡ n
  square_columns i h = ap length (square_row i h) ∙ each_length (f i) false n 0

  square_cell : (i j : ℕ) → i < n → j < n → cell (square n f) i j ≡ f i j
  square_cell i j h k = ap (λ (l : List Bool). get_or l j false) (square_row i h) ∙ each_place (f i) false n 0 j k
      ∙ ap (f i) (zero-add j)

-- ---- tests over a list

any_append : {A : Type 0} (f : A → Bool) (l m : List A) → any f (l ++ m) ≡ (any f l || any f m)
unfolding any
any_append f [] m = refl
any_append f (x ∷ l) m = ap (λ (b : Bool). f x || b) (any_append f l m) ∙ sym (or_assoc (f x) (any f l) (any f m))

-- a place below the first isn't there
any_below : (f : ℕ → Bool) (n i j : ℕ) → j < i → any (eqb j) (keep f (places n i)) ≡ false
unfolding any keep places
any_below f zero i j h = refl
any_below f (suc n) i j h = cases (f i) (any_below f n (i + 1) j (omega arith))
  where
    cases : (b : Bool) → any (eqb j) (keep f (places n (i + 1))) ≡ false →
        any (eqb j) (if b then i ∷ keep f (places n (i + 1)) else keep f (places n (i + 1))) ≡ false
    cases true e = rw (ne_eqb j i (λ z. omega arith)) e
    cases false e = e

-- a place among them is there if it passes the test
any_inside : (f : ℕ → Bool) (n i j : ℕ) → i ≤ j → j < i + n → any (eqb j) (keep f (places n i)) ≡ f j
unfolding any keep places
any_inside f zero i j h k = absurd (omega arith)
any_inside f (suc n) i j h k = cases (three i j) (λ a b. any_inside f n (i + 1) j a b)
  where
    later : i < j → (b : Bool) → any (eqb j) (if b then i ∷ keep f (places n (i + 1)) else keep f (places n (i + 1)))
        ≡ any (eqb j) (keep f (places n (i + 1)))
    later z true = rw (ne_eqb j i (λ w. omega arith))
    later z false = refl

    here : (b : Bool) → f i ≡ b → i ≡ j → any (eqb j)
        (if f i then i ∷ keep f (places n (i + 1)) else keep f (places n (i + 1))) ≡ f j
    here true e z = rw e (rw (eq-eqb j i (sym z)) (sym (ap f (sym z) ∙ e)))
    here false e z = rw e (any_below f n (i + 1) j (omega arith) ∙ sym (ap f (sym z) ∙ e))

    cases : Three i j → (i + 1 ≤ j → j < i + 1 + n → any (eqb j) (keep f (places n (i + 1))) ≡ f j) →
        any (eqb j) (if f i then i ∷ keep f (places n (i + 1)) else keep f (places n (i + 1))) ≡ f j
    cases (less z) ih = later z (f i) ∙ ih (omega arith) (omega arith)
    cases (same z) ih = here (f i) refl z
    cases (more z) ih = absurd (omega arith)

-- a square with n rows of n cells
pub record Sized (n : ℕ) (sq : Square) : Type 0 where
  pub rows : length sq ≡ n
  pub columns : (i : ℕ) → i < n → length (get_or sq i []) ≡ n

module _ (n : ℕ) (sq : Square) (z : Sized n sq) where
  in_row : (i j : ℕ) → cell sq i j ≡ true → i < n
  in_row i j e = elim (dec_lt i n) [
    | yes h ↦ h
    | no h ↦
        let g : get_or sq i [] ≡ [] = get_or-eq_default sq [] (omega (arith, z.rows)) in
        never e (ap (λ (l : List Bool). get_or l j false) g)
  ]

  in_column : (i j : ℕ) → cell sq i j ≡ true → j < n
  in_column i j e = elim (dec_lt j n) [
    | yes h ↦ h
    | no h ↦ never e (get_or-eq_default (get_or sq i []) false (omega (arith, z.columns i (in_row i j e))))
  ]

-- ---- one stage

or_cases : (a b c : Bool) → (a || b && c) ≡ true → (a ≡ true) ⊎ ((b ≡ true) × (c ≡ true))
or_cases true b c e = inl refl
or_cases false true true e = inr (refl, refl)
or_cases false true false e = never e refl
or_cases false false c e = never e refl

or_left : (a b c : Bool) → a ≡ true → (a || b && c) ≡ true
or_left true b c e = refl
or_left false b c e = never e refl

or_right : (a b c : Bool) → b ≡ true → c ≡ true → (a || b && c) ≡ true
or_right true b c e f = refl
or_right false true true e f = refl
or_right false true false e f = never f refl
or_right false false c e f = never e refl

module _ (n k : ℕ) (sq : Square) (z : Sized n sq) where
  via : ℕ → ℕ → Bool
  via i j = cell sq i j || cell sq i k && cell sq k j

  way_is : by_way_of k sq ≡ square n via
  unfolding by_way_of lint.cell via
  way_is = ap (λ (m : ℕ). square m (λ i j. cell sq i j || cell sq i k && cell sq k j)) z.rows

  way_sized : Sized n (by_way_of k sq)
  way_sized = rw way_is (record { rows = square_rows n via; columns = square_columns n via })

  way_cell : (i j : ℕ) → i < n → j < n → cell (by_way_of k sq) i j ≡ via i j
  way_cell i j h g = ap (λ (x : Square). cell x i j) way_is ∙ square_cell n via i j h g

  way_only : (i j : ℕ) → cell (by_way_of k sq) i j ≡ true →
      (cell sq i j ≡ true) ⊎ ((cell sq i k ≡ true) × (cell sq k j ≡ true))
  unfolding via
  way_only i j e =
      let h = in_row n (by_way_of k sq) way_sized i j e in
      let g = in_column n (by_way_of k sq) way_sized i j e in
      or_cases (cell sq i j) (cell sq i k) (cell sq k j) (sym (way_cell i j h g) ∙ e)

  way_keeps : (i j : ℕ) → cell sq i j ≡ true → cell (by_way_of k sq) i j ≡ true
  unfolding via
  way_keeps i j e = way_cell i j (in_row n sq z i j e) (in_column n sq z i j e)
      ∙ or_left (cell sq i j) (cell sq i k) (cell sq k j) e

  way_via : (i j : ℕ) → cell sq i k ≡ true → cell sq k j ≡ true → cell (by_way_of k sq) i j ≡ true
  unfolding via
  way_via i j e f = way_cell i j (in_row n sq z i k e) (in_column n sq z k j f)
      ∙ or_right (cell sq i j) (cell sq i k) (cell sq k j) e f

-- ---- the whole, before stage k

record Closing (n : ℕ) (e : Square) (k : ℕ) (y : Square) : Type 0 where
  sized : Sized n y
  keeps : (a b : ℕ) → cell e a b ≡ true → cell y a b ≡ true
  sound : (a b : ℕ) → cell y a b ≡ true → Reaches e a b
  joins : (m a b : ℕ) → m < k → cell y a m ≡ true → cell y m b ≡ true → cell y a b ≡ true

stage : (n : ℕ) (e : Square) (k : ℕ) (x : Square) → Closing n e k x → Closing n e (k + 1) (by_way_of k x)
stage n e k x p =
    let z = p.sized in
    let only = way_only n k x z in
    let keep = way_keeps n k x z in
    let via = way_via n k x z in
    record {
      sized = way_sized n k x z;
      keeps = λ a b u. keep a b (p.keeps a b u);
      sound = λ a b u. ⊎_elim (λ v. p.sound a b v) (λ v. joined (p.sound a k v.0) (p.sound k b v.1)) (only a b u);
      joins = λ m a b l u v.
          below m k l
          (λ h. ⊎_elim
          (λ u₁. ⊎_elim (λ v₁. keep a b (p.joins m a b h u₁ v₁)) (λ v₁. via a b (p.joins m a k h u₁ v₁.0) v₁.1)
          (only m b v))
          (λ u₁. ⊎_elim (λ v₁. via a b u₁.0 (p.joins m k b h u₁.1 v₁)) (λ v₁. via a b u₁.0 v₁.1) (only m b v))
          (only a m u))
          (λ h.
          let u₁ : cell x a k ≡ true = ⊎_elim (λ w. w) (λ w. w.0) (only a k (rw h at u)) in
          let v₁ : cell x k b ≡ true = ⊎_elim (λ w. w) (λ w. w.1) (only k b (rw h at v)) in
          via a b u₁ v₁);
    }

stages : (n : ℕ) (e : Square) (left k : ℕ) (x : Square) → Closing n e k x →
    Closing n e (k + left) (through by_way_of (places left k) x)
unfolding through places
stages n e zero k x p =
    let z : k + 0 ≡ k = omega arith in
    rw z p
stages n e (suc left) k x p =
    let z : k + suc left ≡ k + 1 + left = omega arith in
    rw z (stages n e left (k + 1) (by_way_of k x) (stage n e k x p))

module _ (n : ℕ) (e : Square) (z : Sized n e) where
  whole : Closing n e n (closure e)
  unfolding closure
  whole =
      let c = stages n e n 0 e (record {
        sized = z;
        keeps = λ a b u. u;
        sound = λ a b u. edge u;
        joins =
            λ m a b l u v. absurd (omega arith);
      }) in
      let o : 0 + n ≡ n = omega arith in
      rw z.rows (rw o at c)

  -- the definition's closure says yes exactly where there is a way of one or more steps
  pub closure_sound : (a b : ℕ) → cell (closure e) a b ≡ true → Reaches e a b
  closure_sound a b u = whole.sound a b u

  pub closure_complete : (a b : ℕ) → Reaches e a b → cell (closure e) a b ≡ true
  closure_complete a b (edge u) = whole.keeps a b u
  closure_complete a b (joined {k = k} p q) =
      whole.joins k a b (in_column n (closure e) whole.sized a k (closure_complete a k p)) (closure_complete a k p)
      (closure_complete k b q)

-- ---- the array and the square

both_ways : (a b : Bool) → (a ≡ true → b ≡ true) → (b ≡ true → a ≡ true) → a ≡ b
both_ways true true f g = refl
both_ways true false f g = sym (f refl)
both_ways false true f g = g refl
both_ways false false f g = refl

moved : (e f : Square) → ((i j : ℕ) → cell e i j ≡ true → cell f i j ≡ true) → {i j : ℕ} → Reaches e i j → Reaches f i j
moved e f h (edge {i} {j} u) = edge (h i j u)
moved e f h (joined p q) = joined (moved e f h p) (moved e f h q)

module _ (start r : Square) (n : ℕ) (sq : Square) (c : Copies start n sq) (closes : Closes start r) where
  z : Sized n sq
  z = record { rows = c.rows; columns = c.columns }

  there : (i j : ℕ) → cell start i j ≡ true → cell sq i j ≡ true
  there i j e = sym (c.same i j (c.row i j e) (c.column i j e)) ∙ e

  back : (i j : ℕ) → cell sq i j ≡ true → cell start i j ≡ true
  unfolding z
  back i j e = c.same i j (in_row n sq z i j e) (in_column n sq z i j e) ∙ e

  -- the array that the code closes has the cells of the definition's closure
  pub same_cell : (i j : ℕ) → cell r i j ≡ cell (closure sq) i j
  same_cell i j =
      both_ways (cell r i j) (cell (closure sq) i j)
      (λ u. closure_complete n sq z i j (moved start sq there (closes.sound i j u)))
      (λ u. closes.complete i j (moved sq start back (closure_sound n sq z i j u)))

  size : length (closure sq) ≡ n
  size = (whole n sq z).sized.rows

  -- ---- components

  both_is : (i j : ℕ) → both_m r i j ≡ (lint.cell (closure sq) i j && lint.cell (closure sq) j i)
  unfolding both_m
  both_is i j = rw (same_cell i j, same_cell j i, cell_is (closure sq) i j, cell_is (closure sq) j i)
      (if_and (cell (closure sq) i j) (cell (closure sq) j i))
    where
      if_and : (a b : Bool) → (if a then b else false) ≡ (a && b)
      if_and true b = refl
      if_and false b = refl

  component_is : n ≤ 32 → (i : ℕ) → members (component_m r n i) ≡ component (closure sq) i
  unfolding component_m component
  component_is h i =
      collect_members (both_m r i) n h
      ∙ keep_same (both_m r i) (λ j. lint.cell (closure sq) i j && lint.cell (closure sq) j i) n 0 (λ j a b. both_is i j)
      ∙ ap (λ (m : ℕ). keep (λ j. lint.cell (closure sq) i j && lint.cell (closure sq) j i) (places m 0)) (sym size)

  -- the assigned places, as a set and as a list
  Assigned : ℕ → List ℕ → Type 0
  Assigned a l = (j : ℕ) → j < n → holds a j ≡ any (eqb j) l

  assigned_more : (a i : ℕ) (l : List ℕ) → Assigned a l →
      Assigned (bit_or a (component_m r n i)) (l ++ component (closure sq) i)
  unfolding Assigned component_m component
  assigned_more a i l f j h =
      holds_or a (component_m r n i) j
      ∙ rw (f j h) (ap (λ (b : Bool). any (eqb j) l || b) (
      collect_inside (both_m r i) n 0 0 j (omega arith) (omega arith) (holds_none j)
      ∙ both_is i j
      ∙ sym (any_inside (λ k. lint.cell (closure sq) i k && lint.cell (closure sq) k i) n 0 j (omega arith) (omega arith))
      ∙ ap (λ (m : ℕ). any (eqb j) (keep (λ k. lint.cell (closure sq) i k && lint.cell (closure sq) k i) (places m 0)))
      (sym size)))
      ∙ sym (any_append (eqb j) l (component (closure sq) i))

  starts_is : (a i : ℕ) (l : List ℕ) → holds a i ≡ any (eqb i) l →
      starts_m r a i ≡ not (any (eqb i) l || not (lint.cell (closure sq) i i))
  unfolding starts_m
  starts_is a i l e = rw (e, same_cell i i, cell_is (closure sq) i i) (tests (any (eqb i) l) (cell (closure sq) i i))
    where
      tests : (x y : Bool) → (if x then false else y) ≡ not (x || not y)
      tests true y = refl
      tests false true = refl
      tests false false = refl

  -- one place more
  comps_step : (h : n ≤ 32) (left i a : ℕ) (l : List ℕ) → holds a i ≡ any (eqb i) l →
      ((b : ℕ) (m : List ℕ) → Assigned b m → each members (components_from r n left (i + 1) b)
      ≡ components_among (closure sq) m (places left (i + 1))) →
      Assigned a l → each members (components_from r n (suc left) i a)
      ≡ components_among (closure sq) l (i ∷ places left (i + 1))
  unfolding each components_from components_among
  comps_step h left i a l e ih f = cases (any (eqb i) l || not (lint.cell (closure sq) i i)) refl
    where
      x : ℕ
      x = component_m r n i

      cases : (b : Bool) → (any (eqb i) l || not (lint.cell (closure sq) i i)) ≡ b →
          each members (components_from r n (suc left) i a) ≡ components_among (closure sq) l (i ∷ places left (i + 1))
      cases true d =
          let s : starts_m r a i ≡ false = starts_is a i l e ∙ ap not d in
          rw (s, components_from) (rw (d, components_among) (ih a l f))
      cases false d =
          let s : starts_m r a i ≡ true = starts_is a i l e ∙ ap not d in
          rw (s, components_from) (rw (d, components_among) (
          ap (λ (y : List ℕ). y ∷ each members (components_from r n left (i + 1) (bit_or a x))) (component_is h i)
          ∙ ap (λ (ys : List (List ℕ)). component (closure sq) i ∷ ys)
          (ih (bit_or a x) (l ++ component (closure sq) i) (assigned_more a i l f))))

  comps_are : n ≤ 32 → (left i a : ℕ) (l : List ℕ) → i + left ≤ n → Assigned a l →
      each members (components_from r n left i a) ≡ components_among (closure sq) l (places left i)
  unfolding each components_from components_among places Assigned
  comps_are h zero i a l g f = refl
  comps_are h (suc left) i a l g f =
      comps_step h left i a l (f i (omega arith)) (λ b m d. comps_are h left (i + 1) b m (omega arith) d) f

  -- the sets that the code gathers are the definition's components
  pub cycles_are : (c : Components) → n ≤ 32 → take c.count c.sets ≡ components_m r n →
      each members (take c.count c.sets) ≡ lint.components (closure sq)
  unfolding components_m lint.components Assigned any
  cycles_are c h e =
      ap (each members) e
      ∙ comps_are h n 0 0 [] (omega arith) (λ j k. holds_none j)
      ∙ ap (λ (m : ℕ). components_among (closure sq) [] (places m 0)) (sym size)
