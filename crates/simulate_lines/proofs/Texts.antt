-- The text at a place of the file, quoted.
use mathlib.Core.Path.{◌≡◌, sym, ap, ◌∙◌}
use mathlib.Core.List.{List, [], ◌∷◌}
use Prim.Native.Nat.{ℕ, ◌≤◌, ◌<◌}
use native.Mathlib.Omega.{arith}
use lib.ListN.{length, get_or, get_or-eq_default}
use Rattle.texts.specs.Places.{text_at, start_from, texts_from}
use Rattle.texts.proofs.Laws as texts
use Rattle.show.specs.Lines.{quoted}
use Rattle.show.proofs.Laws as show
use Rattle.simulate_lines.specs.FileTexts.{texts_of, text_of}

module _ (f x : List ℕ) (k : ℕ) where
  pub there : (at : ℕ) → at ≡ start_from f 6 k → k < get_or x 9 0 → quoted (text_at f at) ≡ quoted (text_of f x k)
  unfolding texts_of
  there at e h = rw e (ap quoted (texts.text_at_place f (get_or x 9 0) k 6 h))

  pub past : get_or x 9 0 ≤ k → 34 ∷ 34 ∷ [] ≡ quoted (text_of f x k)
  unfolding texts_of
  past h =
      let l : length (texts_from f 6 (get_or x 9 0)) ≤ k = omega (arith, texts.texts_many f 6 (get_or x 9 0)) in
      sym (ap quoted (get_or-eq_default (texts_from f 6 (get_or x 9 0)) [] l) ∙ show.quoted_none)
