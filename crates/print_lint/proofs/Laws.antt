-- How long a part of an area of zeros is.
use mathlib.Core.Path.{◌≡◌, sym}
use Prim.Native.Nat.{ℕ, ◌≤◌}
use native.Mathlib.Omega.{arith}
use lib.ListN.{length, take, replicate, length-replicate}
use lib.Seq.{length-take-le}

pub part : (n k : ℕ) → n ≤ k → n ≡ length (take {A = ℕ} n (replicate k 0))
part n k h = sym (length-take-le {A = ℕ} n (replicate k 0) (omega (arith, length-replicate {A = ℕ} k 0)))
