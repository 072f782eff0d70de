-- Some of a list's elements: of some of them, of a list without one, and what holds of each.
use Prim.Native.Nat.{ℕ, zero, suc}
use mathlib.Core.List.{List, [], ◌∷◌}
use Rattle.model_spec.specs.Events.{Some, no_more, skip, keep}
use Rattle.engine_spec.specs.Each.{Each}
use Rattle.checker_spec.specs.Minimize.{remove}

module _ {A : Type 0} where
  pub some_all : (l : List A) → Some l l
  some_all [] = no_more
  some_all (x ∷ l) = keep (some_all l)

  pub some_some : {l m n : List A} → Some l m → Some m n → Some l n
  some_some {l = l} a (skip b) = skip (some_some {l = l} a b)
  some_some (skip {l = l} a) (keep b) = skip (some_some {l = l} a b)
  some_some (keep {l = l} a) (keep b) = keep (some_some {l = l} a b)
  some_some a no_more = a

  pub some_each : (P : A → Type 0) {l m : List A} → Some l m → Each P m → Each P l
  some_each P no_more h = tt
  some_each P (skip a) h = some_each P a h.1
  some_each P (keep a) h = (h.0, some_each P a h.1)

  pub remove_some : (i : ℕ) (l : List A) → Some (remove i l) l
  unfolding remove
  remove_some i [] = no_more
  remove_some zero (x ∷ l) = skip (some_all l)
  remove_some (suc i) (x ∷ l) = keep (remove_some i l)
