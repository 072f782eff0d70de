-- `closed` is reach by one or more steps.
use mathlib.Core.Path.{◌≡◌, refl, sym, ap, ◌∙◌}
use mathlib.Core.Bool.{Bool, true, false}
use mathlib.Core.Logic.{◌⊎◌, inl, inr, ⊎_elim}
use mathlib.Core.List.{List, []}
use Prim.Native.Nat.{ℕ, zero, suc, ◌+◌, ◌≤◌, ◌<◌}
use native.Mathlib.Nat.{add-zero}
use native.Mathlib.Omega.{arith}
use lib.ListN.{length, get_or, set, length-set, get_or-eq_default}
use lib.Dec.{eqb, ltb}
use lib.Seq.{get_or-set_same, get_or-set_other}
use borrow.Author.Tests.{eqb-true, eqb-false, ltb-true, ltb-false}
use Rattle.texts.proofs.Bool.{never}
use Rattle.lint_reach.specs.Steps.{Square, cell, put, steps, step_row_m, step_cell_m, step_pass_m, closed}
use Rattle.lint_reach.specs.Paths.{Full, Reaches, edge, joined}
use Rattle.lint_reach.proofs.Laws.{when_true, when_false}

either : {C : Type 0} (b : Bool) → (b ≡ true → C) → (b ≡ false → C) → C
either true f g = f refl
either false f g = g refl

same? : {C : Type 0} (a b : ℕ) → (a ≡ b → C) → ((a ≡ b → ⊥) → C) → C
same? a b f g = either (eqb a b) (λ e. f (eqb-true a b e)) (λ e. g (eqb-false a b e))

n_step : (P : ℕ → Square → Type 0) (f : ℕ → Square → Square) → ((i : ℕ) (r : Square) → i < 32 → P i r → P (i + 1) (f i r)) →
    (n i : ℕ) (r : Square) → i + n ≤ 32 → P i r → P (i + n) (steps f n i r)
unfolding steps
n_step P f h zero i r l p = rw add-zero p
n_step P f h (suc n) i r l p =
    let e : i + 1 + n ≡ i + suc n = omega arith in
    rw e at (n_step P f h n (i + 1) (f i r) (omega arith) (h i r (omega arith) p))

all_steps : (P : ℕ → Square → Type 0) (f : ℕ → Square → Square) →
    ((i : ℕ) (r : Square) → i < 32 → P i r → P (i + 1) (f i r)) → (r : Square) → P 0 r → P 32 (steps f 32 0 r)
all_steps P f h r p = n_step P f h 32 0 r (omega arith) p

module _ (x : Square) (s : Full x) where
  pub bound_row : (a b : ℕ) → cell x a b ≡ true → a < 32
  bound_row a b e =
      either (ltb a 32) (λ t. ltb-true a 32 t)
      (λ t. let h : length x ≤ a = omega (arith, s.rows, ltb-false a 32 t) in
      let z : get_or x a [] ≡ [] = get_or-eq_default x [] h in
      let q : false ≡ true = sym (ap (λ (l : List Bool). get_or l b false) z) ∙ e in
      let w : ◌≡◌ {A = ℕ} 0 1 = cc in absurd (omega arith))

  pub bound_col : (a b : ℕ) → cell x a b ≡ true → b < 32
  bound_col a b e =
      either (ltb b 32) (λ t. ltb-true b 32 t)
      (λ t. let h : length (get_or x a []) ≤ b = omega (arith, s.cells a (bound_row a b e), ltb-false b 32 t) in
      let q : false ≡ true = sym (get_or-eq_default (get_or x a []) false h) ∙ e in
      let w : ◌≡◌ {A = ℕ} 0 1 = cc in absurd (omega arith))

  module _ (i j : ℕ) (hi : i < 32) (hj : j < 32) where
    row_i : get_or (put x i j) i [] ≡ set (get_or x i []) j true
    row_i = get_or-set_same x i (set (get_or x i []) j true) [] (omega (arith, s.rows))

    row_other : (a : ℕ) → (a ≡ i → ⊥) → get_or (put x i j) a [] ≡ get_or x a []
    row_other a n = get_or-set_other x i a (set (get_or x i []) j true) [] n

    pub put_here : cell (put x i j) i j ≡ true
    put_here = ap (λ (l : List Bool). get_or l j false) row_i
        ∙ get_or-set_same (get_or x i []) j true false (omega (arith, s.cells i hi))

    pub put_only : (a b : ℕ) → cell (put x i j) a b ≡ true → (cell x a b ≡ true) ⊎ ((a ≡ i) × (b ≡ j))
    put_only a b e =
        same? a i
        (λ p. same? b j (λ q. inr (p, q))
        (λ q. inl (ap (λ (r : ℕ). cell x r b) p ∙ sym (get_or-set_other (get_or x i []) j b true false q)
        ∙ ap (λ (l : List Bool). get_or l b false) (sym row_i) ∙ ap (λ (r : ℕ). cell (put x i j) r b) (sym p) ∙ e)))
        (λ p. inl (ap (λ (l : List Bool). get_or l b false) (sym (row_other a p)) ∙ e))

    pub put_keeps : (a b : ℕ) → cell x a b ≡ true → cell (put x i j) a b ≡ true
    put_keeps a b e =
        same? a i
        (λ p. same? b j
        (λ q. rw (p, q) put_here)
        (λ q. rw p (ap (λ (l : List Bool). get_or l b false) row_i ∙ get_or-set_other (get_or x i []) j b true false q
        ∙ rw p at e)))
        (λ p. ap (λ (l : List Bool). get_or l b false) (row_other a p) ∙ e)

    pub put_full : Full (put x i j)
    put_full = record {
      rows = length-set x i (set (get_or x i []) j true) ∙ s.rows;
      cells = λ a h. same? a i
          (λ p. rw p (ap length row_i ∙ length-set (get_or x i []) j true ∙ s.cells i hi))
          (λ p. ap length (row_other a p) ∙ s.cells a h);
    }

-- what stage k has made of x so far
record Stage (x : Square) (k : ℕ) (y : Square) : Type 0 where
  full : Full y
  keeps : (a b : ℕ) → cell x a b ≡ true → cell y a b ≡ true
  only : (a b : ℕ) → cell y a b ≡ true → (cell x a b ≡ true) ⊎ ((cell x a k ≡ true) × (cell x k b ≡ true))

-- the rows below i are done
Rows : Square → ℕ → ℕ → Square → Type 0
Rows x k i y = (a b : ℕ) → a < i → cell x a k ≡ true → cell x k b ≡ true → cell y a b ≡ true

pub below : {C : Type 0} (a i : ℕ) → a < i + 1 → (a < i → C) → (a ≡ i → C) → C
below a i h f g = same? a i g (λ n. f (omega (arith, n)))

module _ (x : Square) (s : Full x) (k : ℕ) (hk : k < 32) where
  module _ (i : ℕ) (hi : i < 32) (e : cell x i k ≡ true) where
    -- the cells below j of row i are done too
    record Row (j : ℕ) (y : Square) : Type 0 where
      at : Stage x k y
      done : Rows x k i y
      row : (b : ℕ) → b < j → cell x k b ≡ true → cell y i b ≡ true

    row_step : (j : ℕ) (y : Square) → j < 32 → Row j y → Row (j + 1) (step_cell_m k i j y)
    unfolding Rows
    row_step j y hj p =
        let f = p.at.full in
        either (cell y k j)
        (λ t.
        let h : cell x k j ≡ true = ⊎_elim (λ u. u) (λ u. u.1) (p.at.only k j t) in
        rw (when_true (cell y k j) (put y i j) y t)
        record {
          at = record {
            full = put_full y f i j hi hj;
            keeps = λ a b u. put_keeps y f i j hi hj a b (p.at.keeps a b u);
            only = λ a b u. ⊎_elim (λ v. p.at.only a b v) (λ v. inr (rw v.0 e, rw v.1 h))
                (put_only y f i j hi hj a b u);
          };
          done = λ a b l u v. put_keeps y f i j hi hj a b (p.done a b l u v);
          row = λ b l u. below b j l (λ m. put_keeps y f i j hi hj i b (p.row b m u)) (λ m. rw m (put_here y f i j hi hj));
        })
        (λ t.
        rw (when_false (cell y k j) (put y i j) y t)
        record {
          at = p.at;
          done = p.done;
          row = λ b l u. below b j l (λ m. p.row b m u) (λ m. never (p.at.keeps k j (rw m at u)) t);
        })

  record Done (i : ℕ) (y : Square) : Type 0 where
    at : Stage x k y
    done : Rows x k i y

  rows_step : (i : ℕ) (y : Square) → i < 32 → Done i y → Done (i + 1) (step_row_m k i y)
  unfolding Rows
  rows_step i y hi p =
      either (cell y i k)
      (λ t.
      let h : cell x i k ≡ true = ⊎_elim (λ u. u) (λ u. u.0) (p.at.only i k t) in
      let r = all_steps (Row i hi h) (step_cell_m k i) (row_step i hi h) y
      (record { at = p.at; done = p.done; row = λ b l u. absurd (omega arith) }) in
      rw (when_true (cell y i k) (steps (step_cell_m k i) 32 0 y) y t)
      record {
        at = r.at;
        done = λ a b l u v. below a i l (λ m. r.done a b m u v) (λ m. rw m (r.row b (bound_col x s k b v) v));
      })
      (λ t.
      rw (when_false (cell y i k) (steps (step_cell_m k i) 32 0 y) y t)
      record {
        at = p.at;
        done = λ a b l u v. below a i l (λ m. p.done a b m u v) (λ m. never (p.at.keeps i k (rw m at u)) t);
      })

  stage : Done 32 (step_pass_m k x)
  unfolding Rows
  stage = all_steps Done (step_row_m k) rows_step x (record {
    at =
        record { full = s; keeps = λ a b u. u; only = λ a b u. inl u };
    done = λ a b l u v. absurd (omega arith);
  })

-- the whole, before stage k
record Closing (e : Square) (k : ℕ) (y : Square) : Type 0 where
  full : Full y
  keeps : (a b : ℕ) → cell e a b ≡ true → cell y a b ≡ true
  sound : (a b : ℕ) → cell y a b ≡ true → Reaches e a b
  joins : (m a b : ℕ) → m < k → cell y a m ≡ true → cell y m b ≡ true → cell y a b ≡ true

closing_step : (e : Square) (k : ℕ) (x : Square) → k < 32 → Closing e k x → Closing e (k + 1) (step_pass_m k x)
unfolding Rows
closing_step e k x hk p =
    let d = stage x p.full k hk in
    let t = d.at in
    let via : (a b : ℕ) → cell x a k ≡ true → cell x k b ≡ true → cell (step_pass_m k x) a b ≡ true =
    λ a b u v. d.done a b (bound_row x p.full a k u) u v in
    record {
      full = t.full;
      keeps = λ a b u. t.keeps a b (p.keeps a b u);
      sound = λ a b u. ⊎_elim (λ v. p.sound a b v) (λ v. joined (p.sound a k v.0) (p.sound k b v.1))
          (t.only a b u);
      joins = λ m a b l u v.
          below m k l
          (λ h. ⊎_elim
          (λ u₁. ⊎_elim (λ v₁. t.keeps a b (p.joins m a b h u₁ v₁)) (λ v₁. via a b (p.joins m a k h u₁ v₁.0) v₁.1)
          (t.only m b v))
          (λ u₁. ⊎_elim (λ v₁. via a b u₁.0 (p.joins m k b h u₁.1 v₁)) (λ v₁. via a b u₁.0 v₁.1)
          (t.only m b v))
          (t.only a m u))
          (λ h.
          let u₁ : cell x a k ≡ true = ⊎_elim (λ w. w) (λ w. w.0) (t.only a k (rw h at u)) in
          let v₁ : cell x k b ≡ true = ⊎_elim (λ w. w) (λ w. w.1) (t.only k b (rw h at v)) in
          via a b u₁ v₁);
    }

module _ (e : Square) (s : Full e) where
  whole : Closing e 32 (closed e)
  unfolding closed
  whole = all_steps (Closing e) step_pass_m (closing_step e) e
      (record { full = s; keeps = λ a b u. u; sound = λ a b u. edge u; joins = λ m a b l u v. absurd (omega arith) })

  pub closed_full : Full (closed e)
  closed_full = whole.full

  -- a cell of the closed square says yes exactly where there is a way of one or more steps
  pub closed_sound : (a b : ℕ) → cell (closed e) a b ≡ true → Reaches e a b
  closed_sound a b u = whole.sound a b u

  pub closed_complete : (a b : ℕ) → Reaches e a b → cell (closed e) a b ≡ true
  closed_complete a b (edge u) = whole.keeps a b u
  closed_complete a b (joined {k = k} p q) = whole.joins k a b
      (bound_col (closed e) whole.full a k (closed_complete a k p)) (closed_complete a k p) (closed_complete k b q)
