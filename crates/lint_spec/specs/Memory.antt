-- What the two areas hold after `lint`: word for word, and after refusals too.
use Rattle.std.specs.Prelude.{ℕ, ◌≡◌, ◌||◌, List, [], ◌∷◌, eqb, length, replicate, if◌then◌else◌}
use Rattle.areas.specs.Areas.{area}
use Rattle.model_spec.specs.Answer.{Answer, answer, refused}
use Rattle.lint_spec.specs.Lint.{Lint}
use Rattle.lint_spec.specs.Words.{interaction_words, Worded, names_in, ids_in}

-- the two areas' words
pub record Lent : Type 0 where
  pub findings : List ℕ
  pub interactions : List ℕ

abbrev pub lent : (findings interactions : List ℕ) → Lent
lent f i = record { findings = f; interactions = i }

unfoldable pub zeros : Lent → Lent
zeros l = record { findings = replicate (length l.findings) 0; interactions = replicate (length l.interactions) 0 }

-- each element of one list stands to that of the other
pub data Both {A B : Type 0} (P : A → B → Type 0) : List A → List B → Type 0 where
  neither : Both P [] []
  both : {a : A} {b : B} {l : List A} {m : List B} → P a b → Both P l m → Both P (a ∷ l) (b ∷ m)

-- the areas hold the entries, then zeros
pub record Holds (file : List ℕ) (l : Lint) (before after : Lent) : Type 0 where
  pub words : List (List ℕ)
  pub are_words : Both (Worded file (names_in file) (ids_in file)) l.findings words
  pub findings : after.findings ≡ area (λ w. w) (length before.findings) words
  pub interactions : after.interactions ≡ area (interaction_words (names_in file) (ids_in file))
      (length before.interactions) l.interactions

-- after 45 and 46 both are zeros, after any other refusal they are as they came
abbrev pub Leaves : (file : List ℕ) → Answer Lint → (before after : Lent) → Type 0
Leaves file (answer l) before after = Holds file l before after
Leaves file (refused n) before after = after ≡ (if eqb n 45 || eqb n 46 then zeros before else before)
