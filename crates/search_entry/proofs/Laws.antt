-- Laws for the small functions of the entry.
use Prim.Native.Nat.{ℕ}
use mathlib.Core.Path.{◌≡◌, sym, subst}
use mathlib.Core.List.{List}
use Rattle.engine_spec.specs.Memory.{Lent}
use Rattle.search_answer.specs.declared.Verification.{Verification}
use Rattle.search_entry.specs.Contract.{Verifies}

pub verifies_as : {f : List ℕ} {r s : Verification} {before after : Lent} {o o' : List ℕ} → r ≡ s →
    Verifies f s before after o o' → Verifies f r before after o o'
verifies_as {f} {r} {s} {before} {after} {o} {o'} e h =
    subst (λ (y : Verification). Verifies f y before after o o') (sym e) h
