-- Lists of places gone through place by place.
use Rattle.std.specs.Prelude.{if◌then◌else◌}
use mathlib.Core.Path.{◌≡◌, refl, sym, ap, ◌∙◌}
use mathlib.Core.Bool.{Bool, true, false}
use mathlib.Core.Logic.{⊎_elim}
use mathlib.Core.List.{List, [], ◌∷◌, ◌++◌}
use Prim.Native.Nat.{ℕ, zero, suc, ◌+◌, ◌-◌, ◌≤◌, ◌<◌}
use native.Mathlib.Omega.{arith}
use borrow.Author.Tests.{lt-ltb, le-ltb, lt-leb, le-leb}
use lib.Dec.{ltb}
use lib.ListN.{length}
use Rattle.texts.specs.Lists.{each, flat, through}
use Rattle.texts.specs.Texts.{Text}
use Rattle.texts.proofs.Ordering.{lt_or_ge}
use Rattle.lint_spec.specs.Reach.{places}
use Rattle.lint_reach.specs.Sets.{holds, members}
use Rattle.lint_words.specs.Lines.{spaced}
use Rattle.lint_words.proofs.Loops.{from_on, from_turn, from_none, members_are}
use Rattle.lint_reads_lines.specs.Numbers.{behind, lesser, least_from, ascending}

-- ---- those of N places that pass a test, each taken into a value

module _ (N : ℕ) (p : ℕ → Bool) (g : ℕ → ℕ → ℕ) (h : ℕ → ℕ) where
  taken_more : (b : Bool) (i : ℕ) (l : List ℕ) (v : ℕ) →
      through g (each h (if b then i ∷ l else l)) v ≡ through g (each h l) (if b then g (h i) v else v)
  unfolding each through
  taken_more true i l v = refl
  taken_more false i l v = refl

  pub yes : (i v : ℕ) → i < N → p i ≡ true → through g (each h (from_on N p i)) v
      ≡ through g (each h (from_on N p (i + 1))) (g (h i) v)
  yes i v l e =
      ap (λ (k : List ℕ). through g (each h k) v) (from_turn N p i l)
      ∙ taken_more (p i) i (from_on N p (i + 1)) v
      ∙ ap (λ (b : Bool). through g (each h (from_on N p (i + 1))) (if b then g (h i) v else v)) e

  pub no : (i v : ℕ) → i < N → p i ≡ false → through g (each h (from_on N p i)) v
      ≡ through g (each h (from_on N p (i + 1))) v
  no i v l e =
      ap (λ (k : List ℕ). through g (each h k) v) (from_turn N p i l)
      ∙ taken_more (p i) i (from_on N p (i + 1)) v
      ∙ ap (λ (b : Bool). through g (each h (from_on N p (i + 1))) (if b then g (h i) v else v)) e

  through_none : (v : ℕ) → through g (each h []) v ≡ v
  unfolding each through
  through_none v = refl

  pub over : (i v : ℕ) → N ≤ i → through g (each h (from_on N p i)) v ≡ v
  over i v l = ap (λ (k : List ℕ). through g (each h k) v) (from_none N p i l) ∙ through_none v

pub least_begun : (from : ℕ) (h : ℕ → ℕ) (x : ℕ) →
    least_from from (each h (members x)) ≡ through (lesser from) (each h (from_on 32 (holds x) 0)) 65536
unfolding least_from
least_begun from h x = ap (λ (k : List ℕ). through (lesser from) (each h k) 65536) (members_are x)

-- ---- all places below N

module _ (g : ℕ → ℕ → ℕ) (N : ℕ) where
  place_turn : (n i v : ℕ) → through g (places (suc n) i) v ≡ through g (places n (i + 1)) (g i v)
  unfolding places through
  place_turn n i v = refl

  place_none : (i v : ℕ) → through g (places 0 i) v ≡ v
  unfolding places through
  place_none i v = refl

  pub each_turn : (i v : ℕ) → i < N → through g (places (N - i) i) v ≡ through g (places (N - (i + 1)) (i + 1)) (g i v)
  each_turn i v h =
      let e : N - i ≡ suc (N - (i + 1)) = omega arith in
      ap (λ (k : ℕ). through g (places k i) v) e ∙ place_turn (N - (i + 1)) i v

  pub each_over : (i v : ℕ) → N ≤ i → through g (places (N - i) i) v ≡ v
  each_over i v h =
      let e : N - i ≡ 0 = omega arith in
      ap (λ (k : ℕ). through g (places k i) v) e ∙ place_none i v

pub through_append : (g : ℕ → ℕ → ℕ) (k l : List ℕ) (v : ℕ) → through g (k ++ l) v ≡ through g l (through g k v)
unfolding through
through_append g [] l v = refl
through_append g (x ∷ k) l v = through_append g k l (g x v)

-- ---- places, ascending

lesser_none : (p : ℕ) → lesser 65536 p 65536 ≡ 65536
unfolding lesser
lesser_none p = ⊎_elim (λ h. rw (lt-leb 65536 p h)) (λ h. rw (le-leb 65536 p h, le-ltb p 65536 h)) (lt_or_ge p 65536)

through_last : (l : List ℕ) → through (lesser 65536) l 65536 ≡ 65536
unfolding through
through_last [] = refl
through_last (x ∷ l) = ap (through (lesser 65536) l) (lesser_none x) ∙ through_last l

ascending_some : (n from : ℕ) (l : List ℕ) → least_from from l ≤ 65535 →
    ascending (suc n) from l ≡ least_from from l ∷ ascending n (behind (least_from from l)) l
unfolding ascending
ascending_some n from l h = rw (le-ltb 65535 (least_from from l) h, ascending)

ascending_none : (n from : ℕ) (l : List ℕ) → 65535 < least_from from l → ascending (suc n) from l ≡ []
unfolding ascending
ascending_none n from l h = rw (lt-ltb 65535 (least_from from l) h, ascending)

last_is : (l : List ℕ) → 65535 < least_from 65536 l
unfolding least_from
last_is l = rw (through_last l) (omega arith)

ascending_zero : (from : ℕ) (l : List ℕ) → ascending 0 from l ≡ []
unfolding ascending
ascending_zero from l = refl

ascending_last : (n : ℕ) (l : List ℕ) → ascending n 65536 l ≡ []
ascending_last zero l = ascending_zero 65536 l
ascending_last (suc n) l = ascending_none n 65536 l (last_is l)

behind_none : (p : ℕ) → 65535 < p → behind p ≡ 65536
unfolding behind
behind_none p h = rw (lt-ltb 65535 p h)

-- one place is taken, or none is left
module _ (n from p q : ℕ) (l : List ℕ) (e : p ≡ least_from from l) (b : q ≡ behind p) where
  some_left : p ≤ 65535 → ascending (suc n) from l ≡ p ∷ ascending n q l
  some_left h = ascending_some n from l (rw e at h) ∙ rw (b, e)

  none_left : 65535 < p → ascending (suc n) from l ≡ []
  none_left h = ascending_none n from l (rw e at h)

  none_next : 65535 < p → ascending n q l ≡ []
  none_next h = ap (λ (k : ℕ). ascending n k l) (b ∙ behind_none p h) ∙ ascending_last n l

  module _ (h : ℕ → Text) where
    spaced_some : (k : List ℕ) → spaced (each h (p ∷ k)) ≡ (32 ∷ h p) ++ spaced (each h k)
    unfolding spaced each flat
    spaced_some k = refl

    spaced_none : spaced (each h []) ≡ []
    unfolding spaced each flat
    spaced_none = refl

    pub read_turn : spaced (each h (ascending (suc n) from l))
        ≡ (if ltb 65535 p then [] else 32 ∷ h p) ++ spaced (each h (ascending n q l))
    read_turn =
        ⊎_elim
        (λ k. rw (lt-ltb 65535 p k, none_left k, none_next k, spaced_none))
        (λ k. rw (le-ltb 65535 p k, some_left k) (spaced_some (ascending n q l)))
        (lt_or_ge 65535 p)

  pub count_turn : (many : ℕ) → many + length (ascending (suc n) from l)
      ≡ (if ltb 65535 p then many else many + 1) + length (ascending n q l)
  count_turn many =
      ⊎_elim
      (λ k. rw (lt-ltb 65535 p k, none_left k, none_next k))
      (λ k. rw (le-ltb 65535 p k, some_left k) (omega arith))
      (lt_or_ge 65535 p)

pub count_end : (from : ℕ) (l : List ℕ) (many n : ℕ) → n ≤ 0 → many ≡ many + length (ascending n from l)
count_end from l many n h =
    let e : n ≡ 0 = omega arith in
    rw (e, ascending_zero from l) (omega arith)

pub read_end : (h : ℕ → Text) (from : ℕ) (l : List ℕ) (n : ℕ) → n ≤ 0 → spaced (each h (ascending n from l)) ≡ []
unfolding spaced each flat
read_end h from l n k =
    let e : n ≡ 0 = omega arith in
    rw (e, ascending_zero from l)

counted_bound : (b : Bool) (many : ℕ) → (if b then many else many + 1) ≤ many + 1
counted_bound true many = omega arith
counted_bound false many = omega arith

-- a turn of the loop that counts
pub count_next : (l : List ℕ) (total many from left p next q : ℕ) →
    (total ≡ many + length (ascending left from l)) × (many + left ≤ 97) → 0 < left → p ≡ least_from from l →
    next ≡ (if ltb 65535 p then many else many + 1) → q ≡ behind p →
    (total ≡ next + length (ascending (left - 1) q l)) × (next + (left - 1) ≤ 97)
count_next l total many from left p next q inv h e g b =
    let z : left ≡ suc (left - 1) = omega arith in
    let bound : many + left ≤ 97 = inv.1 in (
      inv.0 ∙ ap (λ (k : ℕ). many + length (ascending k from l)) z ∙ count_turn (left - 1) from p q l e b many
          ∙ ap (λ (k : ℕ). k + length (ascending (left - 1) q l)) (sym g),
      omega (arith, g, counted_bound (ltb 65535 p) many),
    )

-- a turn of the loop that writes
pub read_next : (h : ℕ → Text) (l : List ℕ) (from left p q : ℕ) → 0 < left → p ≡ least_from from l → q ≡ behind p →
    spaced (each h (ascending left from l)) ≡ (if ltb 65535 p then [] else 32 ∷ h p) ++ spaced
    (each h (ascending (left - 1) q l))
read_next h l from left p q k e b =
    let z : left ≡ suc (left - 1) = omega arith in
    ap (λ (j : ℕ). spaced (each h (ascending j from l))) z ∙ read_turn (left - 1) from p q l e b h
