-- What the areas hold after the insertions: their lengths stay, and words of the right number are the entries' words.
use Rattle.std.specs.Prelude.{if◌then◌else◌}
use mathlib.Core.Path.{◌≡◌, refl, sym, ap, ◌∙◌}
use mathlib.Core.Bool.{Bool, true, false}
use mathlib.Core.List.{List, [], ◌∷◌, ◌++◌}
use mathlib.Core.Logic.{◌⊎◌, inl, inr}
use mathlib.Core.Option.{some}
use Prim.Native.Nat.{ℕ, zero, suc, ◌+◌, ◌*◌, ◌-◌, ◌/◌, ◌≤◌}
use native.Mathlib.Omega.{arith}
use lib.Dec.{eqb, ltb}
use lib.ListN.{length, get_or, take, drop, length-append, length-drop}
use lib.Seq.{length-take-le}
use Rattle.texts.specs.Lists.{each}
use Rattle.texts.specs.Texts.{Text}
use Rattle.model_spec.specs.File.{got, times, counted, one_text, texts}
use Rattle.model_walk.proofs.Laws.{u16_in}
use Rattle.model_walk.proofs.Found.{Case, is_true, is_false, case, bound, given, required, u16_wide, counted_found}
use Rattle.model_parts.proofs.Stands.{more}
use Rattle.model_order.proofs.Laws.{fits_is}
use Rattle.model_order.proofs.Places.{told}
use Rattle.reasons.specs.Readable.{text_count}
use Rattle.areas.specs.Areas.{words, area, written}
use Rattle.lint_spec.specs.Findings.{Interaction, Entry}
use Rattle.lint_spec.specs.Lint.{overflow}
use Rattle.lint_spec.specs.Words.{interaction_words}
use Rattle.lint_spec.specs.Memory.{Both, neither, both}
use Rattle.lint_areas.specs.Areas.{
  Item,
  finding,
  interaction,
  Board,
  board,
  more_findings,
  more_interactions,
  refused,
  push,
  pushes,
}
use Rattle.lint_areas.specs.Filled.{exactly, findings_of}
use Rattle.lint_areas.proofs.Holds.{Shaped, shaped_none, shaped_finding, shaped_interaction, exact}

-- ---- lengths

written_long : (a : List ℕ) (at : ℕ) (w : List ℕ) → at + length w ≤ length a → length (written a at w) ≡ length a
unfolding written
written_long a at w h =
    length-append (take at a) (w ++ drop (at + length w) a)
    ∙ omega (
      arith,
      length-take-le at a (omega arith),
      length-append w (drop (at + length w) a),
      length-drop (at + length w) a,
    )

pub record Long (b c : Board) : Type 0 where
  pub findings : length c.findings ≡ length b.findings
  pub interactions : length c.interactions ≡ length b.interactions

finding_long : (w : List ℕ) → length w ≡ 14 → (b : Board) → Long b (push (finding w) b)
unfolding push
finding_long w e b = cases (eqb b.out.refusal 0) (case (ltb b.out.findings (length b.findings / 14)))
  where
    cases : (x : Bool) → Case (ltb b.out.findings (length b.findings / 14)) →
        Long b (if x then (if ltb b.out.findings (length b.findings / 14)
        then board (written b.findings (b.out.findings * 14) w) b.interactions (more_findings b.out)
        else board b.findings b.interactions (refused 45 b.out)) else b)
    cases false c = record { findings = refl; interactions = refl }
    cases true (is_true c) =
        let k = borrow.Author.Tests.ltb-true b.out.findings (length b.findings / 14) c in
        rw c (record { findings = written_long b.findings (b.out.findings * 14) w (omega arith); interactions = refl })
    cases true (is_false c) = rw c (record { findings = refl; interactions = refl })

interaction_long : (w : List ℕ) → length w ≡ 3 → (b : Board) → Long b (push (interaction w) b)
unfolding push
interaction_long w e b = cases (eqb b.out.refusal 0) (case (ltb b.out.interactions (length b.interactions / 3)))
  where
    cases : (x : Bool) → Case (ltb b.out.interactions (length b.interactions / 3)) →
        Long b (if x then (if ltb b.out.interactions (length b.interactions / 3)
        then board b.findings (written b.interactions (b.out.interactions * 3) w) (more_interactions b.out)
        else board b.findings b.interactions (refused 46 b.out)) else b)
    cases false c = record { findings = refl; interactions = refl }
    cases true (is_true c) =
        let k = borrow.Author.Tests.ltb-true b.out.interactions (length b.interactions / 3) c in
        rw c (record {
          findings = refl;
          interactions =
              written_long b.interactions (b.out.interactions * 3) w (omega arith);
        })
    cases true (is_false c) = rw c (record { findings = refl; interactions = refl })

pub pushes_long : {l : List Item} → Shaped l → (b : Board) → Long b (pushes l b)
unfolding pushes
pushes_long shaped_none b = record { findings = refl; interactions = refl }
pushes_long (shaped_finding {w} {l} e s) b =
    let x = finding_long w e b in
    let y = pushes_long s (push (finding w) b) in
    record { findings = y.findings ∙ x.findings; interactions = y.interactions ∙ x.interactions }
pushes_long (shaped_interaction {w} {l} e s) b =
    let x = interaction_long w e b in
    let y = pushes_long s (push (interaction w) b) in
    record { findings = y.findings ∙ x.findings; interactions = y.interactions ∙ x.interactions }

-- ---- words of the right number

found_words : {l : List Item} → Shaped l → words (exactly 14) (findings_of l) ≡ words (λ w. w) (findings_of l)
unfolding words findings_of
found_words shaped_none = refl
found_words (shaped_finding {w} {l} e s) = ap (λ (x : List ℕ). x ++ words (exactly 14) (findings_of l)) (exact 14 w e)
    ∙ ap (λ (x : List ℕ). w ++ x) (found_words s)
found_words (shaped_interaction e s) = found_words s

pub found_area : {l : List Item} → Shaped l → (n : ℕ) → area (exactly 14) n (findings_of l) ≡ area (λ w. w) n (findings_of l)
unfolding area
found_area s n = rw (found_words s)

between_words : (names ids : List Text) (l : List Interaction) →
    words (exactly 3) (each (interaction_words names ids) l) ≡ words (interaction_words names ids) l
unfolding words each
between_words names ids [] = refl
between_words names ids (x ∷ l) = ap (λ (y : List ℕ). y ++ words (exactly 3) (each (interaction_words names ids) l))
    (exact 3 (interaction_words names ids x) three) ∙ ap (λ (y : List ℕ). interaction_words names ids x ++ y)
    (between_words names ids l)
  where
    three : length (interaction_words names ids x) ≡ 3
    three = unfold interaction_words in refl

pub between_area : (names ids : List Text) (l : List Interaction) (n : ℕ) →
    area (exactly 3) n (each (interaction_words names ids) l) ≡ area (interaction_words names ids) n l
unfolding area
between_area names ids l n = rw (between_words names ids l)

pub both_long : {A B : Type 0} {P : A → B → Type 0} {l : List A} {m : List B} → Both P l m → length m ≡ length l
both_long neither = refl
both_long (both h f) = ap suc (both_long f)

-- ---- refusals

pub overflow_numbers : (l : List Entry) (f i n : ℕ) → overflow l f i ≡ some n → (n ≡ 45) ⊎ (n ≡ 46)
unfolding overflow
overflow_numbers [] f i n e = let z : ◌≡◌ {A = ℕ} 0 1 = cc in absurd (omega arith)
overflow_numbers (Entry.finding x ∷ l) zero i n e = inl (cc)
overflow_numbers (Entry.finding x ∷ l) (suc f) i n e = overflow_numbers l f i n e
overflow_numbers (Entry.interaction x ∷ l) f zero n e = inr (cc)
overflow_numbers (Entry.interaction x ∷ l) f (suc i) n e = overflow_numbers l f i n e

-- ---- a file holds no more texts than bytes

texts_room : (s : List ℕ) (n p : ℕ) (l : List Text) (q : ℕ) → times n one_text s p ≡ got l q → p ≤ length s →
    (p + n ≤ length s) × (length l ≡ n)
unfolding times
texts_room s zero p l q e h = (omega arith, ap length (sym (given _ _ _ e).0))
texts_room s (suc n) p l q e h =
    let m = more one_text s n p e in
    let t = told s p m.is_first in
    let k = fits_is s p t.is_in in
    let r = texts_room s n m.after m.others q m.are_others (omega (arith, t.is_next)) in
    let a = r.0 in
    (omega (arith, t.is_next), ap length m.both ∙ ap suc r.1)

pub texts_few : (s : List ℕ) (ts : List Text) (q : ℕ) → texts s 4 ≡ got ts q → length ts ≤ length s
unfolding texts
texts_few s ts q e =
    let b = bound (counted one_text) _ e in
    let c = counted_found one_text b.first in
    let w = u16_wide s 4 c.is_count in
    let r = texts_room s c.count c.start b.value b.next c.are_values (omega (arith, w.ends, w.inside)) in
    let z = (required _ _ _ _ b.rest).1.0 in
    let a = r.0 in
    omega (arith, r.1, ap length z)

pub texts_counted : (s : List ℕ) (ts : List Text) (q : ℕ) → texts s 4 ≡ got ts q → text_count s ≡ length ts
unfolding texts text_count
texts_counted s ts q e =
    let b = bound (counted one_text) _ e in
    let c = counted_found one_text b.first in
    let w = u16_wide s 4 c.is_count in
    let r = texts_room s c.count c.start b.value b.next c.are_values (omega (arith, w.ends, w.inside)) in
    let z = (required _ _ _ _ b.rest).1.0 in
    let g = u16_in s 4 w.inside in
    let v : get_or s 4 0 + 256 * get_or s 5 0 ≡ c.count = cc in
    omega (arith, r.1, ap length z)
