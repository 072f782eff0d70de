-- The queue: the item taken is the first of the earliest, and nothing left is due before it. A filter on the queue changes
-- nothing in that: an item inside is taken next of those inside too, one outside leaves them as they are.
use Rattle.std.specs.Prelude.{if◌then◌else◌}
use Prim.Native.Nat.{ℕ, ◌≤◌}
use mathlib.Core.Bool.{Bool, true, false}
use mathlib.Core.List.{List, [], ◌∷◌}
use mathlib.Core.Option.{Option, none, some}
use mathlib.Core.Path.{◌≡◌, refl, sym, ap, ◌∙◌, subst}
use native.Mathlib.Omega.{arith}
use lib.Dec.{leb}
use Rattle.texts.specs.Lists.{keep}
use Rattle.engine_spec.specs.Records.{Item}
use Rattle.engine_spec.specs.Engine.{sooner, pop}
use Rattle.cone_engine.proofs.Base.{
  keep_in,
  keep_out,
  cons_eq,
  Every,
  every_keep,
  Case,
  is_true,
  is_false,
  case,
  leb_le,
  le-leb,
  gt_leb,
  some_eq,
  none_some,
}

abbrev pub Taken : Type 0
Taken = Item × List Item

unfoldable pub late : ℕ → Item → Bool
late n i = leb n i.at

pub late_le : (m n : ℕ) → m ≤ n → (l : List Item) → Every (late n) l → Every (late m) l
unfolding late
late_le m n h [] e = tt
late_le m n h (x ∷ l) e = (le-leb m x.at (omega (arith, leb_le n x.at e.0)), late_le m n h l e.1)

sooner_some : (x : Item) (l : List Item) (n : Option Taken) → sooner x l n ≡ none → ⊥
unfolding sooner
sooner_some x l none e = none_some (sym e)
sooner_some x l (some (y, r)) e = go (leb x.at y.at) e
  where
    go : (b : Bool) → if◌then◌else◌ {A = Option Taken} b (some (x, l)) (some (y, x ∷ r)) ≡ none → ⊥
    go true p = none_some (sym p)
    go false p = none_some (sym p)

pub pop_empty : (l : List Item) → pop l ≡ none → l ≡ []
unfolding pop
pop_empty [] e = refl
pop_empty (x ∷ l) e = absurd (sooner_some x l (pop l) e)

item_eq : {x y : Item} {l r : List Item} → ◌≡◌ {A = Option Taken} (some (x, l)) (some (y, r)) → x ≡ y
item_eq e = ap (λ (p : Taken). p.0) (some_eq e)

rest_eq : {x y : Item} {l r : List Item} → ◌≡◌ {A = Option Taken} (some (x, l)) (some (y, r)) → l ≡ r
rest_eq e = ap (λ (p : Taken). p.1) (some_eq e)

-- the item taken, and what is left, by cases
pub data Took (x : Item) (l : List Item) (y : Item) (r : List Item) : Type 0 where
  alone : l ≡ [] → x ≡ y → l ≡ r → Took x l y r
  first : (z : Item) (t : List Item) → pop l ≡ some (z, t) → leb x.at z.at ≡ true → x ≡ y → l ≡ r → Took x l y r
  deeper : (t : List Item) → pop l ≡ some (y, t) → leb x.at y.at ≡ false → x ∷ t ≡ r → Took x l y r

pub took : (x : Item) (l : List Item) (y : Item) (r : List Item) → pop (x ∷ l) ≡ some (y, r) → Took x l y r
unfolding pop sooner
took x l y r e = go (pop l) refl e
  where
    go : (n : Option Taken) → pop l ≡ n → sooner x l n ≡ some (y, r) → Took x l y r
    go none q f = alone (pop_empty l q) (item_eq f) (rest_eq f)
    go (some (z, t)) q f = at_z (case (leb x.at z.at))
      where
        at_z : Case (leb x.at z.at) → Took x l y r
        at_z (is_true b) = let p : ◌≡◌ {A = Option Taken} (some (x, l)) (some (y, r)) = rw b at f in
            first z t q b (item_eq p) (rest_eq p)
        at_z (is_false b) =
            let p : ◌≡◌ {A = Option Taken} (some (z, x ∷ t)) (some (y, r)) = rw b at f in
            deeper t (q ∙ ap (λ (k : Item). some (k, t)) (item_eq p))
            (subst (λ (k : Item). leb x.at k.at ≡ false) (item_eq p) b) (rest_eq p)

pub pop_least : (l : List Item) (y : Item) (r : List Item) → pop l ≡ some (y, r) → Every (late y.at) l
unfolding pop late
pop_least [] y r e = absurd (none_some e)
pop_least (x ∷ l) y r e = go (took x l y r e) (pop_least l)
  where
    go : Took x l y r → ((y : Item) (r : List Item) → pop l ≡ some (y, r) → Every (late y.at) l)
        → Every (late y.at) (x ∷ l)
    go (alone h p q) ih = subst (λ (k : Item). Every (late k.at) (x ∷ l)) p
        (le-leb x.at x.at (omega arith), subst (Every (late x.at)) (sym h) tt)
    go (first z t h b p q) ih =
        subst (λ (k : Item). Every (late k.at) (x ∷ l)) p
        (le-leb x.at x.at (omega arith), late_le x.at z.at (leb_le x.at z.at b) l (ih z t h))
    go (deeper t h b q) ih = (le-leb y.at x.at (omega (arith, gt_leb x.at y.at b)), ih y t h)

pub pop_late : (n : ℕ) (l : List Item) (y : Item) (r : List Item) → Every (late n) l → pop l ≡ some (y, r) → late n y ≡ true
unfolding pop
pop_late n [] y r h e = absurd (none_some e)
pop_late n (x ∷ l) y r h e = go (took x l y r e) (pop_late n l)
  where
    go : Took x l y r → ((y : Item) (r : List Item) → Every (late n) l → pop l ≡ some (y, r) → late n y ≡ true)
        → late n y ≡ true
    go (alone a p q) ih = subst (λ (k : Item). late n k ≡ true) p h.0
    go (first z t a b p q) ih = subst (λ (k : Item). late n k ≡ true) p h.0
    go (deeper t a b q) ih = ih y t h.1 a

-- what is left of the queue
pub pop_rest : (g : Item → Bool) (l : List Item) (y : Item) (r : List Item) → Every g l → pop l ≡ some (y, r) → Every g r
unfolding pop
pop_rest g [] y r h e = absurd (none_some e)
pop_rest g (x ∷ l) y r h e = by (took x l y r e) (pop_rest g l)
  where
    by : Took x l y r → ((y : Item) (r : List Item) → Every g l → pop l ≡ some (y, r) → Every g r) → Every g r
    by (alone a b c) ih = subst (Every g) c h.1
    by (first z t a b c d) ih = subst (Every g) d h.1
    by (deeper t a b c) ih = subst (Every g) c (h.0, ih y t h.1 a)

-- the head goes first if none is earlier
pop_head : (x : Item) (l : List Item) → Every (late x.at) l → pop (x ∷ l) ≡ some (x, l)
unfolding pop sooner late
pop_head x l h = go (pop l) refl
  where
    go : (n : Option Taken) → pop l ≡ n → sooner x l n ≡ some (x, l)
    go none q = refl
    go (some (y, r)) q = rw (pop_late x.at l y r h q)

module _ (p : Item → Bool) where
  pub pop_in : (l : List Item) (y : Item) (r : List Item) → pop l ≡ some (y, r) → p y ≡ true
      → pop (keep p l) ≡ some (y, keep p r)
  unfolding pop
  pop_in [] y r e h = absurd (none_some e)
  pop_in (x ∷ l) y r e h = go (took x l y r e) (pop_in l)
    where
      head : Every (late x.at) l → x ≡ y → l ≡ r → pop (keep p (x ∷ l)) ≡ some (y, keep p r)
      head a b c = rw (keep_in p x l (ap p b ∙ h)) (pop_head x (keep p l) (every_keep (late x.at) p l a) ∙ rw (b, c))

      go : Took x l y r → ((y : Item) (r : List Item) → pop l ≡ some (y, r) → p y ≡ true
          → pop (keep p l) ≡ some (y, keep p r)) → pop (keep p (x ∷ l)) ≡ some (y, keep p r)
      go (alone a b c) ih = head (subst (Every (late x.at)) (sym a) tt) b c
      go (first z t a b c d) ih = head (late_le x.at z.at (leb_le x.at z.at b) l (pop_least l z t a)) c d
      go (deeper t a b c) ih = rw (← c) (side (case (p x)))
        where
          side : Case (p x) → pop (keep p (x ∷ l)) ≡ some (y, keep p (x ∷ t))
          side (is_true d) = rw (keep_in p x l d, keep_in p x t d) (unfold sooner in (rw (ih y t a h, b)))
          side (is_false d) = rw (keep_out p x l d, keep_out p x t d) (ih y t a h)

  pub pop_out : (l : List Item) (y : Item) (r : List Item) → pop l ≡ some (y, r) → p y ≡ false → keep p r ≡ keep p l
  unfolding pop
  pop_out [] y r e h = absurd (none_some e)
  pop_out (x ∷ l) y r e h = go (took x l y r e) (pop_out l)
    where
      go : Took x l y r → ((y : Item) (r : List Item) → pop l ≡ some (y, r) → p y ≡ false → keep p r ≡ keep p l)
          → keep p r ≡ keep p (x ∷ l)
      go (alone a b c) ih = rw (keep_out p x l (ap p b ∙ h), c)
      go (first z t a b c d) ih = rw (keep_out p x l (ap p c ∙ h), d)
      go (deeper t a b c) ih = rw (← c) (side (case (p x)))
        where
          side : Case (p x) → keep p (x ∷ t) ≡ keep p (x ∷ l)
          side (is_true d) = rw (keep_in p x l d, keep_in p x t d) (cons_eq (ih y t a h))
          side (is_false d) = rw (keep_out p x l d, keep_out p x t d) (ih y t a h)
