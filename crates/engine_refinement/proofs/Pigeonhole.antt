-- Texts without doubles that all stand in a list are at most as many as the list holds.
-- A text more at the end keeps that there are no doubles.
use Rattle.std.specs.Prelude.{if◌then◌else◌}
use mathlib.Core.Path.{◌≡◌, refl, sym, ap, ◌∙◌}
use mathlib.Core.List.{List, [], ◌∷◌, ◌++◌}
use mathlib.Core.Bool.{Bool, true, false, ◌||◌, not}
use Prim.Native.Nat.{ℕ, suc, ◌≤◌, ◌<◌}
use native.Mathlib.Omega.{arith}
use lib.ListN.{length}
use Rattle.texts.specs.Lists.{any, keep}
use Rattle.texts.specs.Texts.{Text, eq_t, mem_t}
use Rattle.engine_spec.proofs.Lists.{Case, is_true, is_false, case, Each, or_no, eq_t_eq, eq_t_same}
use Rattle.engine_spec.proofs.Distinct.{or_no'}
pub use Rattle.engine_refinement.specs.Events.{Among}

-- a text isn't among those after it
abbrev pub Differ : List Text → Type 0
Differ [] = Unit {0}
Differ (t ∷ l) = (mem_t t l ≡ false) × Differ l

-- the list without a text
abbrev without : Text → List Text → List Text
without u = keep (λ y. not (eq_t u y))

fewer : (u : Text) (l : List Text) → length (without u l) ≤ length l
unfolding keep
fewer u [] = omega arith
fewer u (y ∷ l) = cases (eq_t u y) (fewer u l)
  where
    cases : (b : Bool) → length (without u l) ≤ length l →
        length (if not b then y ∷ without u l else without u l) ≤ suc (length l)
    cases true h = omega arith
    cases false h = omega arith

one_fewer : (u : Text) (l : List Text) → mem_t u l ≡ true → length (without u l) < length l
unfolding keep mem_t any
one_fewer u [] h = let z : ◌≡◌ {A = ℕ} 0 1 = cc in absurd (omega arith)
one_fewer u (y ∷ l) h = cases (eq_t u y) h (fewer u l) (one_fewer u l)
  where
    cases : (b : Bool) → (b || any (eq_t u) l) ≡ true → length (without u l) ≤ length l →
        (any (eq_t u) l ≡ true → length (without u l) < length l) →
        length (if not b then y ∷ without u l else without u l) < suc (length l)
    cases true h a b = omega arith
    cases false h a b = omega (arith, b h)

still_in : (u w : Text) (l : List Text) → mem_t w l ≡ true → eq_t u w ≡ false → mem_t w (without u l) ≡ true
unfolding keep mem_t any
still_in u w [] h d = h
still_in u w (y ∷ l) h d = cases (case (eq_t u y)) (case (eq_t w y)) (still_in u w l)
  where
    cases : Case (eq_t u y) → Case (eq_t w y) →
        (any (eq_t w) l ≡ true → eq_t u w ≡ false → any (eq_t w) (without u l) ≡ true) → mem_t w (without u (y ∷ l)) ≡ true
    cases (is_true a) (is_true b) ih =
        let e : u ≡ w = eq_t_eq u y a ∙ sym (eq_t_eq w y b) in
        let g : eq_t u w ≡ true = ap (eq_t u) (sym e) ∙ eq_t_same u in
        let z : true ≡ false = sym g ∙ d in
        let y : ◌≡◌ {A = ℕ} 0 1 = cc in
        absurd (omega arith)
    cases (is_true a) (is_false b) ih = rw a (ih (rw b at h) d)
    cases (is_false a) (is_true b) ih = rw (a, b)
    cases (is_false a) (is_false b) ih = rw (a, b) (ih (rw b at h) d)

not_first : (u : Text) (l : List Text) → mem_t u l ≡ false → Each (λ (t : Text). eq_t u t ≡ false) l
unfolding mem_t any
not_first u [] h = tt
not_first u (y ∷ l) h = (or_no (eq_t u y) (any (eq_t u) l) h, not_first u l (or_no' (eq_t u y) (any (eq_t u) l) h))

all_still : (u : Text) (pool us : List Text) → Among pool us → Each (λ (t : Text). eq_t u t ≡ false) us →
    Among (without u pool) us
all_still u pool [] h d = tt
all_still u pool (w ∷ us) h d = (still_in u w pool h.0 d.0, all_still u pool us h.1 d.1)

pub at_most : (us pool : List Text) → Differ us → Among pool us → length us ≤ length pool
at_most [] pool d h = omega arith
at_most (u ∷ us) pool d h =
    omega
    (arith, one_fewer u pool h.0, at_most us (without u pool) d.1 (all_still u pool us h.1 (not_first u us d.0)))

-- ---- a text more

member_end : (w t : Text) (l : List Text) → mem_t w l ≡ false → eq_t w t ≡ false → mem_t w (l ++ t ∷ []) ≡ false
unfolding mem_t any
member_end w t [] h d = rw d
member_end w t (y ∷ l) h d = rw (or_no (eq_t w y) (any (eq_t w) l) h) (member_end w t l (or_no' (eq_t w y) (any (eq_t w) l) h) d)

not_back : (t w : Text) → eq_t t w ≡ false → eq_t w t ≡ false
not_back t w h = cases (case (eq_t w t))
  where
    cases : Case (eq_t w t) → eq_t w t ≡ false
    cases (is_false b) = b
    cases (is_true b) =
        let g : eq_t t w ≡ true = ap (eq_t t) (eq_t_eq w t b) ∙ eq_t_same t in
        let z : true ≡ false = sym g ∙ h in
        let y : ◌≡◌ {A = ℕ} 0 1 = cc in
        absurd (omega arith)

pub differ_end : (t : Text) (l : List Text) → Differ l → mem_t t l ≡ false → Differ (l ++ t ∷ [])
unfolding mem_t any
differ_end t [] d h = (refl, tt)
differ_end t (y ∷ l) d h = (
  member_end y t l d.0 (not_back t y (or_no (eq_t t y) (any (eq_t t) l) h)),
  differ_end t l d.1 (or_no' (eq_t t y) (any (eq_t t) l) h),
)
