-- The texts of the file: those that the definition's table names.
use mathlib.Core.Path.{◌≡◌, sym, ◌∙◌}
use mathlib.Core.List.{List, []}
use Prim.Native.Nat.{ℕ}
use native.Mathlib.Omega.{arith}
use lib.ListN.{length, get_or}
use lib.Seq.{ext_get_or}
use Rattle.texts.specs.Texts.{Text}
use Rattle.texts.specs.Places.{texts_from}
use Rattle.texts.proofs.Laws as texts
use Rattle.model_spec.specs.Model.{Model}
use Rattle.engine_refinement.specs.Meaning.{Tabled}
use Rattle.simulate_lines.specs.FileTexts.{texts_of}

-- for an accepted model's table these are the texts that its numbers stand for
pub same_texts : {f x : List ℕ} {ts : List Text} {m : Model} → Tabled f x ts m → texts_of f x ≡ ts
unfolding texts_of
same_texts {f} {x} {ts} t =
    let n : ℕ = get_or x 9 0 in
    let l : length (texts_from f 6 n) ≡ n = texts.texts_many f 6 n in
    ext_get_or [] (texts_from f 6 n) ts (l ∙ t.texts)
    (λ i h. sym (texts.text_at_place f n i 6 (omega arith)) ∙ t.placed_text i (omega (arith, t.texts)))
