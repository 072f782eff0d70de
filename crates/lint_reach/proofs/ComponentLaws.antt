-- The laws of components that the proofs of code cite.
use Rattle.std.specs.Prelude.{if◌then◌else◌}
use mathlib.Core.Path.{◌≡◌, refl, sym, ap, ◌∙◌}
use mathlib.Core.Bool.{Bool, true, false}
use mathlib.Core.List.{List, [], ◌∷◌, ◌++◌, append_assoc, append-nil}
use Prim.Native.Nat.{ℕ, zero, suc, ◌+◌, ◌-◌, ◌/◌, ◌%◌, ◌^◌, ◌≤◌, ◌<◌}
use native.Mathlib.Omega.{arith}
use lib.Bits.{bit_or, or_lt}
use lib.Pow.{pow-lt, pow_pos}
use lib.Dec.{eqb}
use lib.ListN.{length, get_or, take, set, replicate, length-set}
use lib.Seq.{take-suc-set}
use native.Mathlib.Numerals.{add-one}
use Rattle.lint_reach.specs.declared.Components.{Components}
use Rattle.lint_reach.specs.Steps.{Square, cell}
use Rattle.lint_reach.specs.Sets.{holds, with_m, collect}
use Rattle.lint_reach.specs.Cycles.{both_m, component_m, starts_m, next_m, components_from, components_m}

pub has_is : (x i : ℕ) → eqb (x / 2 ^ i % 2) 1 ≡ holds x i
unfolding holds
has_is x i = refl

module _ (x i : ℕ) {b : Bool} where
  pub with_yes : b ≡ true → with_m x i b ≡ bit_or x (2 ^ i)
  unfolding with_m
  with_yes h = rw h

  pub with_no : b ≡ false → with_m x i b ≡ x
  unfolding with_m
  with_no h = rw h

module _ (r : Square) (i j : ℕ) where
  pub both_yes : cell r i j ≡ true → both_m r i j ≡ cell r j i
  unfolding both_m
  both_yes h = rw h

  pub both_no : cell r i j ≡ false → both_m r i j ≡ false
  unfolding both_m
  both_no h = rw h

module _ (r : Square) (a i : ℕ) where
  pub starts_held : holds a i ≡ true → starts_m r a i ≡ false
  unfolding starts_m
  starts_held h = rw h

  pub starts_free : holds a i ≡ false → starts_m r a i ≡ cell r i i
  unfolding starts_m
  starts_free h = rw h

-- ---- a loop that collects

pub collect_first : (r : Square) (n i : ℕ) → component_m r n i ≡ collect (both_m r i) (n - 0) 0 0
unfolding component_m
collect_first r n i =
    let e : n - 0 ≡ n = omega arith in
    rw e

module _ (f : ℕ → Bool) (n j x : ℕ) where
  pub collect_next : (y : ℕ) (b : Bool) → j < n → b ≡ f j → y ≡ with_m x j b →
      collect f (n - j) j x ≡ collect f (n - (j + 1)) (j + 1) y
  unfolding collect
  collect_next y b h e g =
      let k : n - j ≡ suc (n - (j + 1)) = omega arith in
      rw (k, collect) (ap (λ (z : ℕ). collect f (n - (j + 1)) (j + 1) z) (ap (with_m x j) (sym e) ∙ sym g))

  pub collect_end : n ≤ j → collect f (n - j) j x ≡ x
  unfolding collect
  collect_end h =
      let k : n - j ≡ 0 = omega arith in
      rw k

-- ---- the components, one by one

module _ (r : Square) (n i : ℕ) (c : Components) where
  pub next_yes : starts_m r c.assigned i ≡ true →
      next_m r n i c ≡ record {
        count = c.count + 1;
        assigned = bit_or c.assigned (component_m r n i);
        sets =
            set c.sets c.count (component_m r n i);
      }
  unfolding next_m
  next_yes h = rw h

  pub next_is : (x y : ℕ) → starts_m r c.assigned i ≡ true → x ≡ component_m r n i → y ≡ bit_or c.assigned x →
      record { count = c.count + 1; assigned = y; sets = set c.sets c.count x } ≡ next_m r n i c
  next_is x y h e f = rw (next_yes h, f, e)

  pub next_no : starts_m r c.assigned i ≡ false → next_m r n i c ≡ c
  unfolding next_m
  next_no h = rw h

-- what is found, and what is left to find
pub record Gathered (r : Square) (n i : ℕ) (c : Components) : Type 0 where
  pub all : components_m r n ≡ take c.count c.sets ++ components_from r n (n - i) i c.assigned
  pub few : c.count ≤ i
  pub size : length c.sets ≡ 32

take_set : (l : List ℕ) (k x : ℕ) → k < length l → take (k + 1) (set l k x) ≡ take k l ++ x ∷ []
take_set l k x h = rw (add-one k) (take-suc-set l k x h)

gathered_next : (r : Square) (n i : ℕ) (c : Components) (b : Bool) → i < n → n ≤ 32 → starts_m r c.assigned i ≡ b →
    Gathered r n i c → Gathered r n (i + 1) (next_m r n i c)
unfolding components_from
gathered_next r n i c true h k e g =
    let m : n - i ≡ suc (n - (i + 1)) = omega arith in
    let x = component_m r n i in
    let t : take (c.count + 1) (set c.sets c.count x) ≡ take c.count c.sets ++ x ∷ [] =
    take_set c.sets c.count x (omega (arith, g.few, g.size)) in
    rw (next_yes r n i c e) record {
      all =
          g.all
          ∙ ap (λ (z : ℕ). take c.count c.sets ++ components_from r n z i c.assigned) m
          ∙ ap (λ (l : List ℕ). take c.count c.sets ++ l) (rw (e, components_from))
          ∙ sym (append_assoc (take c.count c.sets) (x ∷ [])
          (components_from r n (n - (i + 1)) (i + 1) (bit_or c.assigned x)))
          ∙ ap (λ (l : List ℕ). l ++ components_from r n (n - (i + 1)) (i + 1) (bit_or c.assigned x)) (sym t);
      few = omega (arith, g.few);
      size = length-set c.sets c.count x ∙ g.size;
    }
gathered_next r n i c false h k e g =
    let m : n - i ≡ suc (n - (i + 1)) = omega arith in
    rw (next_no r n i c e) record {
      all =
          g.all
          ∙ ap (λ (z : ℕ). take c.count c.sets ++ components_from r n z i c.assigned) m
          ∙ ap (λ (l : List ℕ). take c.count c.sets ++ l) (rw (e, components_from));
      few = omega (arith, g.few);
      size = g.size;
    }

pub gathered_more : (r : Square) (n i : ℕ) (c d : Components) → i < n → n ≤ 32 → Gathered r n i c → d ≡ next_m r n i c →
    Gathered r n (i + 1) d
gathered_more r n i c d h k g e = rw e (gathered_next r n i c (starts_m r c.assigned i) h k refl g)

pub gathered_none : (r : Square) (n : ℕ) → Gathered r n 0 (record { count = 0; assigned = 0; sets = replicate 32 0 })
unfolding components_m
gathered_none r n =
    let e : n ≡ n - 0 = omega arith in
    record { all = ap (λ (z : ℕ). components_from r n z 0 0) e; few = omega arith; size = refl }

pub gathered_all : (r : Square) (n i : ℕ) (c : Components) → n ≤ i → i ≤ n → Gathered r n i c →
    (take c.count c.sets ≡ components_m r n) × (c.count ≤ n) × (length c.sets ≡ 32)
unfolding components_from
gathered_all r n i c h k g =
    let e : n - i ≡ 0 = omega arith in (
      sym (g.all ∙ ap (λ (z : ℕ). take c.count c.sets ++ components_from r n z i c.assigned) e
          ∙ append-nil (take c.count c.sets)),
      omega (arith, g.few),
      g.size,
    )

-- ---- a component is a set of places below 32

collect_small : (f : ℕ → Bool) (n i x : ℕ) → i + n ≤ 32 → x < 2 ^ 32 → collect f n i x < 2 ^ 32
unfolding collect with_m
collect_small f zero i x h k = k
collect_small f (suc n) i x h k = collect_small f n (i + 1) (if f i then bit_or x (2 ^ i) else x) (omega arith) (cases (f i))
  where
    cases : (b : Bool) → (if b then bit_or x (2 ^ i) else x) < 2 ^ 32
    cases true = or_lt 32 x (2 ^ i) k (pow-lt {j = 32} (omega arith))
    cases false = k

from_small : (r : Square) (n : ℕ) → n ≤ 32 → (left i a k : ℕ) → get_or (components_from r n left i a) k 0 < 2 ^ 32
unfolding components_from component_m
from_small r n h zero i a k = pow_pos 32
from_small r n h (suc left) i a k = cases (starts_m r a i) k
    (λ j. from_small r n h left (i + 1) (bit_or a (collect (both_m r i) n 0 0)) j) (from_small r n h left (i + 1) a k)
  where
    x : ℕ
    x = collect (both_m r i) n 0 0

    cases : (b : Bool) (k : ℕ) →
        ((j : ℕ) → get_or (components_from r n left (i + 1) (bit_or a (collect (both_m r i) n 0 0))) j 0 < 2 ^ 32) →
        get_or (components_from r n left (i + 1) a) k 0 < 2 ^ 32 →
        get_or (elim b [
          | true ↦ collect (both_m r i) n 0 0 ∷ components_from r n left (i + 1)
              (bit_or a (collect (both_m r i) n 0 0))
          | false ↦ components_from r n left (i + 1) a
        ]) k 0 < 2 ^ 32
    cases true zero f g = collect_small (both_m r i) n 0 0 (omega arith) (pow_pos 32)
    cases true (suc k) f g = f k
    cases false k f g = g

pub components_small : (r : Square) (n : ℕ) → n ≤ 32 → {l : List ℕ} → l ≡ components_m r n → (k : ℕ) → get_or l k 0 < 2 ^ 32
unfolding components_m
components_small r n h e k = rw e (from_small r n h n 0 0 k)
