-- Lines written text by text, and those of a few places that pass a test.
use Rattle.std.specs.Prelude.{if◌then◌else◌}
use mathlib.Core.Path.{◌≡◌, refl, sym, ap, ◌∙◌}
use mathlib.Core.Bool.{Bool, true, false}
use mathlib.Core.List.{List, [], ◌∷◌, ◌++◌, append_assoc, append-nil}
use Prim.Native.Nat.{ℕ, suc, ◌+◌, ◌-◌, ◌≤◌, ◌<◌}
use native.Mathlib.Omega.{arith}
use Rattle.texts.specs.Lists.{keep, each, flat}
use Rattle.texts.specs.Texts.{Text}
use Rattle.lint_spec.specs.Reach.{places}
use Rattle.lint_reach.specs.Sets.{holds, members}
use Rattle.show.specs.Writing.{Written}
use Rattle.show.proofs.Laws as show
use Rattle.lint_words.specs.Lines.{spaced}

-- ---- a text in several parts

-- the text `whole` is being written behind the first n bytes of a: b and m are the area and the next free index so far, and
-- `rest` is left to write
pub record Part (whole rest : Text) (a : List ℕ) (n : ℕ) (b : List ℕ) (m : ℕ) : Type 0 where
  pub done : Text
  pub written : Written done a n b m
  pub left : done ++ rest ≡ whole

pub begun : {whole rest : Text} {a : List ℕ} {n : ℕ} → rest ≡ whole → Part whole rest a n a n
begun {whole} {rest} {a} {n} e = record { done = []; written = show.nothing a n; left = e }

pub further : {whole rest t next : Text} {a b c : List ℕ} {n m k : ℕ} → rest ≡ t ++ next → Part whole rest a n b m →
    Written t b m c k → Part whole next a n c k
further {whole} {rest} {t} {next} e p w =
    record {
      done = p.done ++ t;
      written = show.both p.written w;
      left = append_assoc p.done t next ∙ ap (λ (l : Text). p.done ++ l) (sym e) ∙ p.left;
    }

pub finished : {whole rest : Text} {a b : List ℕ} {n m : ℕ} → rest ≡ [] → Part whole rest a n b m → Written whole a n b m
finished e p = show.is (sym (append-nil p.done) ∙ ap (λ (l : Text). p.done ++ l) (sym e) ∙ p.left) p.written

-- ---- those of N places that pass a test

module _ (N : ℕ) (p : ℕ → Bool) where
  abbrev pub from_on : ℕ → List ℕ
  from_on i = keep p (places (N - i) i)

  keep_turn : (n i : ℕ) → keep p (places (suc n) i)
      ≡ (if p i then i ∷ keep p (places n (i + 1)) else keep p (places n (i + 1)))
  unfolding keep places
  keep_turn n i = refl

  keep_none : (i : ℕ) → keep p (places 0 i) ≡ []
  unfolding keep places
  keep_none i = refl

  pub from_turn : (i : ℕ) → i < N → from_on i ≡ (if p i then i ∷ from_on (i + 1) else from_on (i + 1))
  from_turn i h =
      let e : N - i ≡ suc (N - (i + 1)) = omega arith in
      ap (λ (k : ℕ). keep p (places k i)) e ∙ keep_turn (N - (i + 1)) i

  pub from_none : (i : ℕ) → N ≤ i → from_on i ≡ []
  from_none i h =
      let e : N - i ≡ 0 = omega arith in
      ap (λ (k : ℕ). keep p (places k i)) e ∙ keep_none i

  -- each written behind a space
  module _ (h : ℕ → Text) where
    one_more : (b : Bool) (i : ℕ) (l : List ℕ) → spaced (each h (if b then i ∷ l else l))
        ≡ (if b then 32 ∷ h i else []) ++ spaced (each h l)
    unfolding spaced each flat
    one_more true i l = refl
    one_more false i l = refl

    no_more : spaced (each h []) ≡ []
    unfolding spaced each flat
    no_more = refl

    pub turn : (i : ℕ) → i < N → spaced (each h (from_on i))
        ≡ (if p i then 32 ∷ h i else []) ++ spaced (each h (from_on (i + 1)))
    turn i l = ap (λ (k : List ℕ). spaced (each h k)) (from_turn i l) ∙ one_more (p i) i (from_on (i + 1))

    pub end : (i : ℕ) → N ≤ i → spaced (each h (from_on i)) ≡ []
    end i l = ap (λ (k : List ℕ). spaced (each h k)) (from_none i l) ∙ no_more

pub members_are : (x : ℕ) → members x ≡ from_on 32 (holds x) 0
unfolding members
members_are x = refl

pub members_begun : (h : ℕ → Text) (x : ℕ) → spaced (each h (from_on 32 (holds x) 0)) ≡ spaced (each h (members x))
members_begun h x = ap (λ (k : List ℕ). spaced (each h k)) (sym (members_are x))
