-- Laws for the lines and for the printing of `minimize`.
use Prim.Native.Nat.{ℕ, ◌≤◌}
use mathlib.Core.Path.{◌≡◌, refl, ap}
use mathlib.Core.Bool.{Bool, true, false}
use mathlib.Core.List.{List, ◌∷◌, ◌++◌}
use borrow.Author.Tests.{eq-eqb, ne_eqb}
use Rattle.texts.specs.Places.{text_at, start_from}
use Rattle.texts.specs.Texts.{Text, text, decimal}
use Rattle.model_spec.specs.Model.{Event}
use Rattle.show.specs.Lines.{newline, quoted}
use Rattle.print_minimize.specs.Lines.{input_text, event_line, placed_text, input_of, answer_line, invariant_line}
use native.Mathlib.Omega.{arith}
use lib.ListN.{length, drop, length-append}
use Rattle.model_spec.specs.Answer.{Answer, answer, refused}
use Rattle.engine_spec.specs.Memory.{Lent, entries}
use Rattle.engine_spec.specs.Words.{entry_words}
use Rattle.checker_spec.specs.Minimize.{minimize, reduced_file}
use Rattle.checker_spec.specs.Minimize as checker
use Rattle.reduce_result.specs.declared.Minimized.{Minimized}
use Rattle.reduce_result.specs.Result.{no_reduction}
use Rattle.reduce_entry.specs.Contract.{Says, output_after, Minimizes}

-- the new file stands in the output
pub written_fits : {f : List ℕ} {r : Minimized} {before after : Lent} {o o' : List ℕ} → Minimizes f r before after o o'
    → length o' ≡ length o →
    r.written ≤ length o
unfolding output_after no_reduction
written_fits {f} {r} {before} {after} {o} {o'} x e = by (minimize (entries entry_words before) (length o) f) x.says
    x.output
  where
    by : (y : Answer checker.Minimized) → Says f r y → o' ≡ output_after f y o → r.written ≤ length o
    by (answer d) s w = omega (
      arith,
      e,
      s.written,
      ap length w,
      length-append (reduced_file f d) (drop (length (reduced_file f d)) o),
    )
    by (refused n) s w = omega (arith, ap (λ (y : Minimized). y.written) s)

-- ---- the lines

pub place_is : (f : List ℕ) (k : ℕ) {at : ℕ} → at ≡ start_from f 6 k → quoted (text_at f at) ≡ quoted (placed_text f k)
unfolding placed_text
place_is f k e = rw e

module _ (f : List ℕ) (k e v : ℕ) where
  pub restarts : k ≡ 1 → text "restart" ≡ input_text (input_of f k e v)
  unfolding input_text input_of
  restarts z = rw (eq-eqb k 1 z)

  pub reloads : (k ≡ 1 → ⊥) → k ≡ 2 → text "reload" ≡ input_text (input_of f k e v)
  unfolding input_text input_of
  reloads y z = rw (ne_eqb k 1 y, eq-eqb k 2 z)

  pub sets : (k ≡ 1 → ⊥) → (k ≡ 2 → ⊥) →
      text "set " ++ (quoted (placed_text f e) ++ (32 ∷ quoted (placed_text f v))) ≡ input_text (input_of f k e v)
  unfolding input_text input_of
  sets y z = rw (ne_eqb k 1 y, ne_eqb k 2 z)

pub event_is : (v : Event) → text "event " ++ (decimal v.at ++ (32 ∷ (input_text v.input ++ newline))) ≡ event_line v
unfolding event_line
event_is v = refl

pub yes_is : (w : Text) {b : Bool} → b ≡ true → w ++ (text " yes" ++ newline) ≡ answer_line w b
unfolding answer_line
yes_is w e = rw e

pub no_is : (w : Text) {b : Bool} → b ≡ false → w ++ (text " no" ++ newline) ≡ answer_line w b
unfolding answer_line
no_is w e = rw e

pub invariant_is : (t : Text) → text "invariant " ++ (quoted t ++ newline) ≡ invariant_line t
unfolding invariant_line
invariant_is t = refl
