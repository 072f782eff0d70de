-- The two ways in which an entry for C ends.
use Prim.Native.Nat.{ℕ, ◌≤◌, ◌<◌}
use mathlib.Core.Path.{◌≡◌, refl}
use mathlib.Core.List.{List}
use native.Mathlib.Omega.{arith}
use lib.ListN.{length}
use Rattle.fukhtsege.specs.Contract.{Entry}

module _ {A : Type 0} {size : ℕ} {Kept : Type 0} {Promise : A → Type 0} {refusal : A → ℕ} {numbers : A → List ℕ → List ℕ}
    {a : List ℕ} where
  pub too_short : length a < size → Kept → Entry size Kept Promise refusal numbers 47 a a
  too_short h k = record { short = λ _. (refl, (k, refl)); told = λ g. absurd (omega (arith, h, g)) }

  pub answered : size ≤ length a → (r : A) → Promise r → {n : ℕ} → n ≡ refusal r → {a' : List ℕ} → a' ≡ numbers r a →
      Entry size Kept Promise refusal numbers n a a'
  answered h r p e f = record {
    short = λ g. absurd (omega (arith, h, g));
    told =
        λ _. record { r = r; promise = p; refused = e; answer = f };
  }
