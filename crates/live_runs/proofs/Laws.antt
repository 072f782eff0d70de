-- The numbers beside the automations, kept up.
use Rattle.std.specs.Prelude.{if◌then◌else◌}
use Prim.Native.Nat.{ℕ, zero, suc, ◌+◌, ◌-◌, ◌≤◌, ◌<◌}
use mathlib.Core.Path.{◌≡◌, refl, sym, ◌∙◌, ap, subst}
use mathlib.Core.Bool.{Bool, true, false, true≢false, false≢true}
use mathlib.Core.List.{List, [], ◌∷◌, ◌++◌}
use lib.Dec.{ltb, eqb}
use lib.ListN.{length, get_or, take, drop, set, length-set}
use lib.Seq.{get_or-set_same, get_or-set_other, take-suc, take_all}
use borrow.Author.Tests.{eqb-true, eqb-false, eq-eqb, ne_eqb, lt-ltb, le-ltb}
use native.Mathlib.Numerals.{add-one}
use native.Mathlib.Omega.{arith}
use Rattle.bounds.specs.Bounds.{at_most}
use Rattle.bounds.proofs.Laws.{most_yes}
use Rattle.runs.specs.Lists.{tally, keep}
use Rattle.runs.specs.Runs.{run_at, run_of, other, Held, Pushed}
use Rattle.runs.specs.declared.Run.{Run}
use Rattle.runs.proofs.Laws as runs
use Rattle.live_runs.specs.Live.{Counts, Stored, Entered, Left, count_over, renumbered, raised, lowered}
use Rattle.live_runs.proofs.Tally.{
  one,
  tally_none,
  tally_more,
  tally_most,
  tally_out,
  tally_set,
  dropped_none,
  dropped_other,
}

-- ---- one number

module _ (a v : ℕ) (live : List ℕ) where
  past : 31 < a → live ≡ renumbered a v live
  unfolding renumbered
  past h = rw (lt-ltb 31 a h)

  inside : a ≤ 31 → set live a v ≡ renumbered a v live
  unfolding renumbered
  inside h = rw (le-ltb 31 a h)

  wide_is : length (renumbered a v live) ≡ length live
  unfolding renumbered
  wide_is = by (ltb 31 a)
    where
      by : (b : Bool) → length (if b then live else set live a v) ≡ length live
      by true = refl
      by false = length-set live a v

  here : a < length live → a ≤ 31 → get_or (renumbered a v live) a 0 ≡ v
  here h g = ap (λ z. get_or z a 0) (sym (inside g)) ∙ get_or-set_same live a v 0 h

  elsewhere : (i : ℕ) → (i ≡ a → ⊥) → get_or (renumbered a v live) i 0 ≡ get_or live i 0
  unfolding renumbered
  elsewhere i ne = by (ltb 31 a)
    where
      by : (b : Bool) → get_or (if b then live else set live a v) i 0 ≡ get_or live i 0
      by true = refl
      by false = get_or-set_other live a i v 0 ne

-- the numbers, of the automation a and of every other
numbers : (a : ℕ) (live : List ℕ) (l : List Run) → length live ≡ 32 →
    (a < 32 → get_or live a 0 ≡ tally (run_of a) l) →
    ((i : ℕ) → i < 32 → (i ≡ a → ⊥) → get_or live i 0 ≡ tally (run_of i) l) → Counts live l
numbers a live l w own other = record { wide = w; each = λ i h. by i h (eqb i a) refl }
  where
    by : (i : ℕ) → i < 32 → (b : Bool) → eqb i a ≡ b → get_or live i 0 ≡ tally (run_of i) l
    by i h true e =
        let s : i ≡ a = eqb-true i a e in
        subst (λ z. get_or live z 0 ≡ tally (run_of z) l) (sym s) (own (omega (arith, s)))
    by i h false e = other i h (eqb-false i a e)

yes : (x : Run) → run_of x.automation x ≡ true
unfolding run_of
yes x = eq-eqb x.automation x.automation refl

no : (x : Run) (i : ℕ) → (i ≡ x.automation → ⊥) → run_of i x ≡ false
unfolding run_of
no x i ne = ne_eqb x.automation i (λ e. ne (sym e))

-- ---- the numbers stay the counts

module _ (live : List ℕ) (l : List Run) (k : Counts live l) where
  -- a run more
  pub entered : (x : Run) (n : ℕ) → length l ≡ n → Counts (raised x.automation n live) (l ++ x ∷ [])
  unfolding raised
  entered x n e =
      let a = x.automation in
      let c = get_or live a 0 in
      let v = at_most c n + 1 in
      numbers a (renumbered a v live) (l ++ x ∷ []) (wide_is a v live ∙ k.wide)
      (λ h.
      let t : c ≤ n = omega (arith, k.each a h, tally_most (run_of a) l, e) in
      here a v live (omega (arith, k.wide)) (omega arith)
      ∙ omega (arith, most_yes c n t, k.each a h, tally_more (run_of a) l x, ap one (yes x)))
      (λ i h ne. elsewhere a v live i ne ∙ k.each i h ∙ omega (arith, tally_more (run_of i) l x, ap one (no x i ne)))

  -- a run less
  pub left : (j : ℕ) (d : Run) → j < length l → Counts (lowered (get_or l j d).automation live) (take j l ++ drop (j + 1) l)
  unfolding lowered
  left j d g =
      let x = get_or l j d in
      let a = x.automation in
      let v = get_or live a 0 - 1 in
      let m = take j l ++ drop (suc j) l in
      rw (add-one j) (numbers a (renumbered a v live) m (wide_is a v live ∙ k.wide)
      (λ h. here a v live (omega (arith, k.wide)) (omega arith)
      ∙ omega (arith, k.each a h, tally_out (run_of a) l j d g, ap one (yes x)))
      (λ i h ne. elsewhere a v live i ne ∙ k.each i h ∙ omega (arith, tally_out (run_of i) l j d g, ap one (no x i ne))))

  -- an automation's runs go
  pub emptied : (i : ℕ) → i < 32 → Counts (set live i 0) (keep (other i) l)
  emptied i g =
      numbers i (set live i 0) (keep (other i) l) (length-set live i 0 ∙ k.wide)
      (λ h. get_or-set_same live i 0 0 (omega (arith, k.wide)) ∙ sym (dropped_none i l))
      (λ j h ne. get_or-set_other live i j 0 0 ne ∙ k.each j h ∙ sym (dropped_other i j ne l))

  -- a run in the place of another of the same automation
  pub replaced : (j : ℕ) (d x : Run) → j < length l → x.automation ≡ (get_or l j d).automation → Counts live (set l j x)
  unfolding run_of
  replaced j d x g e = record {
    wide = k.wide;
    each = λ i h. k.each i h ∙ sym (tally_set (run_of i) l j d x g (ap (λ z. eqb z i) e));
  }

pub none_yet : (live : List ℕ) → length live ≡ 32 → ((i : ℕ) → i < 32 → get_or live i 0 ≡ 0) → Counts live []
none_yet live w h = record { wide = w; each = λ i g. h i g ∙ sym (tally_none (run_of i)) }

-- the run at k in an area that holds the list has the automation of the list's
pub automation_is : (a : List ℕ) (n : ℕ) (l : List Run) → Held a n l → (k : ℕ) (d : Run) → k < n →
    (run_at a k).automation ≡ (get_or l k d).automation
automation_is a n l held k d h = ap (λ z. (run_at z k).automation) held.1
    ∙ ap (λ z. z.automation) (runs.run_is (length a) l k d (omega (arith, held.0)))

-- ---- over the words of the area

module _ (a : List ℕ) (n : ℕ) (l : List Run) (held : Held a n l) (i : ℕ) where
  over_first : (d : Run) (k : ℕ) → k ≤ n → tally (run_of i) (take k l) ≡ count_over a k i
  unfolding count_over run_at run_of
  over_first d zero h = tally_none (run_of i)
  over_first d (suc k) h =
      rw (take-suc l k d (omega (arith, held.0)))
      (tally_more (run_of i) (take k l) (get_or l k d) ∙ ap (λ z. z + one (run_of i (get_or l k d))) (over_first d k (omega arith))
      ∙ ap (λ z. count_over a k i + one (eqb z i)) (sym (automation_is a n l held k d (omega arith))))

  pub over : (d : Run) → tally (run_of i) l ≡ count_over a n i
  over d = ap (tally (run_of i)) (sym (take_all n l (omega (arith, held.0)))) ∙ over_first d n (omega arith)

pub stored : (live a : List ℕ) (n : ℕ) (l : List Run) (d : Run) → Held a n l → Counts live l → Stored live a n
stored live a n l d held k = record { each = λ i h. k.each i h ∙ over a n l held i d }

-- ---- the code's cases

pub raise_past : (a n : ℕ) (live : List ℕ) → 31 < a → live ≡ raised a n live
unfolding raised
raise_past a n live h = past a (at_most (get_or live a 0) n + 1) live h

pub raise_is : (a n c : ℕ) (live : List ℕ) → a ≤ 31 → c ≡ at_most (get_or live a 0) n → set live a (c + 1) ≡ raised a n live
unfolding raised
raise_is a n c live h e = ap (λ z. set live a (z + 1)) e ∙ inside a (at_most (get_or live a 0) n + 1) live h

pub lower_past : (a : ℕ) (live : List ℕ) → 31 < a → live ≡ lowered a live
unfolding lowered
lower_past a live h = past a (get_or live a 0 - 1) live h

pub lower_is : (a v : ℕ) (live : List ℕ) → a ≤ 31 → v ≡ get_or live a 0 - 1 → set live a v ≡ lowered a live
unfolding lowered
lower_is a v live h e = ap (set live a) e ∙ inside a (get_or live a 0 - 1) live h

pub pushed_as : {a b : List ℕ} {n : ℕ} {x : Run} {r s : Bool} → r ≡ s → Pushed a n x b r → Pushed a n x b s
pushed_as {a} {b} {n} {x} e p = subst (λ z. Pushed a n x b z) e p

module _ (n : ℕ) (x : Run) (live live' : List ℕ) where
  pub went_in : live' ≡ raised x.automation n live → Entered n x live live' true
  went_in e = record {
    more = λ _ l g k. subst (λ z. Counts z (l ++ x ∷ [])) (sym e) (entered live l k x n g);
    same = λ f. absurd (true≢false f);
  }

  pub no_room : live' ≡ live → Entered n x live live' false
  no_room e = record { more = λ f. absurd (false≢true f); same = λ _. e }

pub went : (a : List ℕ) (n k i : ℕ) (live live' : List ℕ) → k < n → i ≡ (run_at a k).automation → live' ≡ lowered i live →
    Left a n k live live'
went a n k i live live' h ei e = record {
  is = λ l held c.
      let d = run_at a k in
      subst (λ z. Counts z (take k l ++ drop (k + 1) l))
      (sym (e ∙ ap (λ z. lowered z live) (ei ∙ automation_is a n l held k d h)))
      (left live l c k d (omega (arith, held.0)));
}

set_zero : (live : List ℕ) (i : ℕ) → get_or (set live i 0) i 0 ≡ 0
set_zero [] i = refl
set_zero (x ∷ l) zero = refl
set_zero (x ∷ l) (suc i) = set_zero l i

-- one number more is zero
pub zero_more : (live : List ℕ) (i : ℕ) → ((j : ℕ) → j < i → get_or live j 0 ≡ 0) →
    (j : ℕ) → j < i + 1 → get_or (set live i 0) j 0 ≡ 0
zero_more live i z j g = by (eqb j i) refl
  where
    by : (b : Bool) → eqb j i ≡ b → get_or (set live i 0) j 0 ≡ 0
    by true e =
        let s : j ≡ i = eqb-true j i e in
        subst (λ w. get_or (set live i 0) w 0 ≡ 0) (sym s) (set_zero live i)
    by false e =
        let ne = eqb-false j i e in
        get_or-set_other live i j 0 0 ne ∙ z j (omega (arith, ne))
