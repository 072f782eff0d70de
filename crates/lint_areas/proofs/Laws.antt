-- The laws of insertions.
use mathlib.Core.Path.{◌≡◌, refl, sym, ap, ◌∙◌}
use mathlib.Core.Bool.{Bool, true, false}
use mathlib.Core.List.{List, [], ◌∷◌, ◌++◌}
use Prim.Native.Nat.{ℕ, ◌+◌, ◌*◌, ◌/◌, ◌≤◌, ◌<◌}
use lib.ListN.{length}
use borrow.Author.Tests.{lt-ltb, le-ltb, eq-eqb, ne_eqb}
use Rattle.areas.specs.Areas.{written}
use Rattle.lint_areas.specs.declared.Out.{Out}
use Rattle.lint_areas.specs.Areas.{
  Item,
  finding,
  interaction,
  Board,
  board,
  more_findings,
  more_interactions,
  refused,
  push,
  pushes,
  only_if,
}

pub pushes_append : (l m : List Item) (b : Board) → pushes (l ++ m) b ≡ pushes m (pushes l b)
unfolding pushes
pushes_append [] m b = refl
pushes_append (x ∷ l) m b = pushes_append l m (push x b)

-- one list of entries, and then another
pub next : (l m : List Item) (a : Board) {b c : Board} → b ≡ pushes l a → c ≡ pushes m b → c ≡ pushes (l ++ m) a
next l m a e f = f ∙ ap (pushes m) e ∙ sym (pushes_append l m a)

module _ (w : List ℕ) (f i : List ℕ) (o : Out) where
  pub finding_after : (o.refusal ≡ 0 → ⊥) → board f i o ≡ pushes (finding w ∷ []) (board f i o)
  unfolding pushes push
  finding_after h = rw (ne_eqb o.refusal 0 h)

  pub finding_full : o.refusal ≡ 0 → length f / 14 ≤ o.findings →
      board f i (record { findings = o.findings; interactions = o.interactions; refusal = 45 })
      ≡ pushes (finding w ∷ []) (board f i o)
  unfolding pushes push refused
  finding_full h k = rw (eq-eqb o.refusal 0 h) (rw (le-ltb o.findings (length f / 14) k))

  pub finding_in : (a : List ℕ) → o.refusal ≡ 0 → o.findings < length f / 14 → a ≡ written f (o.findings * 14) w →
      board a i (record { findings = o.findings + 1; interactions = o.interactions; refusal = 0 })
      ≡ pushes (finding w ∷ []) (board f i o)
  unfolding pushes push more_findings
  finding_in a h k e = rw (eq-eqb o.refusal 0 h)
      (rw (lt-ltb o.findings (length f / 14) k) (ap (λ (x : List ℕ). board x i (more_findings o)) e))

  pub interaction_after : (o.refusal ≡ 0 → ⊥) → board f i o ≡ pushes (interaction w ∷ []) (board f i o)
  unfolding pushes push
  interaction_after h = rw (ne_eqb o.refusal 0 h)

  pub interaction_full : o.refusal ≡ 0 → length i / 3 ≤ o.interactions →
      board f i (record { findings = o.findings; interactions = o.interactions; refusal = 46 })
      ≡ pushes (interaction w ∷ []) (board f i o)
  unfolding pushes push refused
  interaction_full h k = rw (eq-eqb o.refusal 0 h) (rw (le-ltb o.interactions (length i / 3) k))

  pub interaction_in : (a : List ℕ) → o.refusal ≡ 0 → o.interactions < length i / 3 →
      a ≡ written i (o.interactions * 3) w →
      board f a (record { findings = o.findings; interactions = o.interactions + 1; refusal = 0 })
      ≡ pushes (interaction w ∷ []) (board f i o)
  unfolding pushes push more_interactions
  interaction_in a h k e = rw (eq-eqb o.refusal 0 h)
      (rw (lt-ltb o.interactions (length i / 3) k) (ap (λ (x : List ℕ). board f x (more_interactions o)) e))

module _ {b : Bool} (x : Item) where
  pub only_yes : (a : Board) {c : Board} → b ≡ true → c ≡ pushes (x ∷ []) a → c ≡ pushes (only_if b x) a
  unfolding only_if
  only_yes a h e = rw h e

  pub only_no : {a : Board} → b ≡ false → a ≡ pushes (only_if b x) a
  unfolding only_if pushes
  only_no h = rw h
