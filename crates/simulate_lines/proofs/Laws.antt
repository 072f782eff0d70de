-- The lines, put together from their parts.
use mathlib.Core.Path.{◌≡◌, refl, sym, ap, ◌∙◌}
use mathlib.Core.Bool.{Bool, true, false}
use mathlib.Core.List.{List, [], ◌∷◌, ◌++◌, append_assoc, append-nil}
use Prim.Native.Nat.{ℕ, ◌+◌}
use borrow.Author.Tests.{eq-eqb, ne_eqb}
use lib.ListN.{get_or}
use Rattle.texts.specs.Lists.{flat}
use Rattle.texts.specs.Texts.{Text, text, decimal}
use Rattle.reasons.specs.declared.Reason.{Reason}
use Rattle.reasons.specs.Reasons.{render}
use Rattle.engine_spec.specs.Reasons.{space_spent, steps_spent, runs_left}
use Rattle.show.specs.Lines.{newline, quoted}
use Rattle.simulate_lines.specs.Lines.{
  text_line,
  sim_incomplete_line,
  halted,
  incomplete_of,
  incomplete_lines,
  final_line,
}

-- ---- words with a number or a text

pub text_is : (w t : Text) → w ++ (32 ∷ (quoted t ++ newline)) ≡ text_line w t
unfolding text_line
text_is w t = refl

pub reason_is : (w : Text) (f : List ℕ) (q r : Reason) → q ≡ r → text_line w (render f q) ≡ text_line w (render f r)
reason_is w f q r e = ap (λ (y : Reason). text_line w (render f y)) e

pub final_is : (ts : List Text) (p e v : ℕ) → p ≡ e →
    text "final " ++ (quoted (get_or ts p []) ++ (32 ∷ (quoted (get_or ts v []) ++ newline)))
    ≡ final_line (get_or ts e []) (get_or ts v [])
unfolding final_line
final_is ts p e v h = rw h

-- ---- why a simulation is incomplete

pub flat_append : {A : Type 0} (g : A → Text) (s t : List A) → flat g (s ++ t) ≡ flat g s ++ flat g t
unfolding flat
flat_append g [] t = refl
flat_append g (a ∷ s) t = rw (flat_append g s t) (sym (append_assoc (g a) (flat g s) (flat g t)))

module _ (w : ℕ) where
  pub none_spent : w ≡ 0 → [] ≡ incomplete_lines (halted w)
  unfolding incomplete_lines halted flat
  none_spent e = rw (eq-eqb w 0 e)

  pub space : w ≡ 1 → text_line (text "sim-incomplete") (text "trace or queue budget exhausted")
      ≡ incomplete_lines (halted w)
  unfolding incomplete_lines halted flat space_spent
  space e = rw e (sym (append-nil _))

  pub steps : (w ≡ 0 → ⊥) → (w ≡ 1 → ⊥) → text_line (text "sim-incomplete") (text "step budget exhausted")
      ≡ incomplete_lines (halted w)
  unfolding incomplete_lines halted flat steps_spent
  steps d e = rw (ne_eqb w 0 d, ne_eqb w 1 e) (sym (append-nil _))

  pub left : (b : Bool) → b ≡ true → incomplete_lines (halted w) ++ text_line (text "sim-incomplete")
      (text "active or queued runs beyond observation horizon") ≡ incomplete_lines (incomplete_of w b)
  unfolding incomplete_lines incomplete_of flat runs_left
  left b e = rw e
      (sym (flat_append sim_incomplete_line (halted w) (runs_left ∷ [])
      ∙ ap (λ (l : Text). flat sim_incomplete_line (halted w) ++ l) (append-nil (sim_incomplete_line runs_left))))

  pub none_left : (b : Bool) → b ≡ false → incomplete_lines (halted w) ≡ incomplete_lines (incomplete_of w b)
  unfolding incomplete_of
  none_left b e = rw e (ap incomplete_lines (sym (append-nil (halted w))))
