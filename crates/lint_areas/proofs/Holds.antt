-- From two areas of zeros: after the insertions the areas hold the entries, or the first that found no place is noted.
use mathlib.Core.Path.{◌≡◌, refl, sym, ap, ◌∙◌, subst}
use mathlib.Core.List.{List, [], ◌∷◌, ◌++◌, append-nil, append_assoc}
use mathlib.Core.Option.{Option, none, some}
use Prim.Native.Nat.{ℕ, suc, ◌+◌, ◌*◌, ◌-◌, ◌/◌, ◌≤◌, ◌<◌}
use native.Mathlib.Omega.{arith}
use native.Mathlib.Decide.{dec_lt}
use native.Mathlib.Nat.{suc-mul}
use native.Mathlib.Numerals.{add-one}
use lib.ListN.{length, replicate, length-append, length-replicate}
use lib.Seq.{take_at, length-take-le}
use borrow.Author.Tests.{lt-ltb, le-ltb, eq-eqb, ne_eqb}
use Rattle.areas.specs.Areas.{written, area}
use Rattle.areas.proofs.Laws as areas
use Rattle.lint_areas.specs.Areas.{
  Item,
  finding,
  interaction,
  Board,
  board,
  more_findings,
  more_interactions,
  refused,
  push,
  pushes,
}
use Rattle.lint_areas.specs.Filled.{exactly, findings_of, interactions_of, over}

-- words of the right number are kept
pub exact : (n : ℕ) (w : List ℕ) → length w ≡ n → exactly n w ≡ w
unfolding exactly
exact n w e = take_at w (replicate n 0) n e

exact_length : (n : ℕ) (w : List ℕ) → length (exactly n w) ≡ n
unfolding exactly
exact_length n w = length-take-le n (w ++ replicate n 0)
    (rw (length-append w (replicate n 0), length-replicate {A = ℕ} n 0) (omega arith))

-- each entry has its number of words
pub data Shaped : List Item → Type 0 where
  shaped_none : Shaped []
  shaped_finding : {w : List ℕ} {l : List Item} → length w ≡ 14 → Shaped l → Shaped (finding w ∷ l)
  shaped_interaction : {w : List ℕ} {l : List Item} → length w ≡ 3 → Shaped l → Shaped (interaction w ∷ l)

-- the areas hold these findings and interactions
pub record Holding (b : Board) (f i : List (List ℕ)) : Type 0 where
  pub findings : b.findings ≡ area (exactly 14) (length b.findings) f
  pub interactions : b.interactions ≡ area (exactly 3) (length b.interactions) i
  pub many_findings : b.out.findings ≡ length f
  pub many_interactions : b.out.interactions ≡ length i

-- words of one area, with one entry more
module _ (size : ℕ) (a : List ℕ) (l : List (List ℕ)) (n : ℕ) (h : a ≡ area (exactly size) (length a) l) (m : n ≡ length l)
    (w : List ℕ) (e : length w ≡ size) (room : n * size + size ≤ length a) where
  made : written a (n * size) w ≡ area (exactly size) (length a) (l ++ w ∷ [])
  made =
      ap (λ (x : List ℕ). written x (n * size) w) h
      ∙ ap (written (area (exactly size) (length a) l) (n * size)) (sym (exact size w e))
      ∙ areas.push_is (exactly size) size (exact_length size) (length a) l w n (sym m) room

  pub grown_length : length (written a (n * size) w) ≡ length a
  grown_length =
      let k : length (l ++ w ∷ []) ≡ suc n = length-append l (w ∷ []) ∙ ap (λ (x : ℕ). x + 1) (sym m) ∙ add-one n in
      ap length made ∙ areas.area_length (exactly size) size (exact_length size) (length a) (l ++ w ∷ [])
      (rw k (omega (arith, suc-mul n size)))

  pub grown : written a (n * size) w ≡ area (exactly size) (length (written a (n * size) w)) (l ++ w ∷ [])
  grown = rw grown_length made

  pub grown_many : n + 1 ≡ length (l ++ w ∷ [])
  grown_many = ap (λ (x : ℕ). x + 1) m ∙ sym (length-append l (w ∷ []))

-- after the first refusal nothing changes
pub stays : (l : List Item) (b : Board) → (b.out.refusal ≡ 0 → ⊥) → pushes l b ≡ b
unfolding pushes push
stays [] b h = refl
stays (finding w ∷ l) b h = rw (ne_eqb b.out.refusal 0 h) (stays l b h)
stays (interaction w ∷ l) b h = rw (ne_eqb b.out.refusal 0 h) (stays l b h)

module _ (b : Board) (z : b.out.refusal ≡ 0) where
  finding_in : (w : List ℕ) → b.out.findings < length b.findings / 14 →
      push (finding w) b ≡ board (written b.findings (b.out.findings * 14) w) b.interactions (more_findings b.out)
  unfolding push
  finding_in w k = rw (eq-eqb b.out.refusal 0 z) (rw (lt-ltb b.out.findings (length b.findings / 14) k))

  finding_out : (w : List ℕ) → length b.findings / 14 ≤ b.out.findings →
      push (finding w) b ≡ board b.findings b.interactions (refused 45 b.out)
  unfolding push
  finding_out w k = rw (eq-eqb b.out.refusal 0 z) (rw (le-ltb b.out.findings (length b.findings / 14) k))

  interaction_in : (w : List ℕ) → b.out.interactions < length b.interactions / 3 →
      push (interaction w) b ≡ board b.findings (written b.interactions (b.out.interactions * 3) w)
      (more_interactions b.out)
  unfolding push
  interaction_in w k = rw (eq-eqb b.out.refusal 0 z)
      (rw (lt-ltb b.out.interactions (length b.interactions / 3) k))

  interaction_out : (w : List ℕ) → length b.interactions / 3 ≤ b.out.interactions →
      push (interaction w) b ≡ board b.findings b.interactions (refused 46 b.out)
  unfolding push
  interaction_out w k = rw (eq-eqb b.out.refusal 0 z)
      (rw (le-ltb b.out.interactions (length b.interactions / 3) k))

-- ---- all entries

-- places that are left
abbrev left_findings : Board → ℕ
left_findings b = length b.findings / 14 - b.out.findings

abbrev left_interactions : Board → ℕ
left_interactions b = length b.interactions / 3 - b.out.interactions

-- the answer: all entries are held, or the number of the first that found no place
pub data Ends (l : List Item) (b : Board) (f i : List (List ℕ)) : Option ℕ → Type 0 where
  all_in : Holding (pushes l b) (f ++ findings_of l) (i ++ interactions_of l) → (pushes l b).out.refusal ≡ 0 →
      Ends l b f i none
  no_place : (n : ℕ) → (pushes l b).out.refusal ≡ n → Ends l b f i (some n)

-- the first entry, and then the others
first : (x : Item) (l : List Item) (b c : Board) → push x b ≡ c → pushes (x ∷ l) b ≡ pushes l c
unfolding pushes
first x l b c e = ap (pushes l) e

refusal_of : {b c : Board} → b ≡ c → b.out.refusal ≡ c.out.refusal
refusal_of e = ap (λ (x : Board). x.out.refusal) e

lift_finding : (w : List ℕ) (l : List Item) (b c : Board) (f i : List (List ℕ)) (o : Option ℕ) → push (finding w) b ≡ c →
    Ends l c (f ++ w ∷ []) i o → Ends (finding w ∷ l) b f i o
unfolding findings_of interactions_of
lift_finding w l b c f i o e (all_in h z) =
    let s = first (finding w) l b c e in
    all_in (subst (λ (y : Board). Holding y (f ++ (w ∷ findings_of l)) (i ++ interactions_of l)) (sym s)
    (subst (λ (m : List (List ℕ)). Holding (pushes l c) m (i ++ interactions_of l))
    (append_assoc f (w ∷ []) (findings_of l)) h)) (refusal_of s ∙ z)
lift_finding w l b c f i o e (no_place n z) = no_place n (refusal_of (first (finding w) l b c e) ∙ z)

lift_interaction : (w : List ℕ) (l : List Item) (b c : Board) (f i : List (List ℕ)) (o : Option ℕ) →
    push (interaction w) b ≡ c → Ends l c f (i ++ w ∷ []) o → Ends (interaction w ∷ l) b f i o
unfolding findings_of interactions_of
lift_interaction w l b c f i o e (all_in h z) =
    let s = first (interaction w) l b c e in
    all_in (subst (λ (y : Board). Holding y (f ++ findings_of l) (i ++ (w ∷ interactions_of l))) (sym s)
    (subst (λ (m : List (List ℕ)). Holding (pushes l c) (f ++ findings_of l) m)
    (append_assoc i (w ∷ []) (interactions_of l)) h)) (refusal_of s ∙ z)
lift_interaction w l b c f i o e (no_place n z) = no_place n (refusal_of (first (interaction w) l b c e) ∙ z)

module _ (w : List ℕ) (l : List Item) (b : Board) (f i : List (List ℕ)) (h : Holding b f i) (z : b.out.refusal ≡ 0) where
  finding_yes : length w ≡ 14 → b.out.findings < length b.findings / 14 →
      ((c : Board) → Holding c (f ++ w ∷ []) i → c.out.refusal ≡ 0 →
      Ends l c (f ++ w ∷ []) i (over l (left_findings c) (left_interactions c))) →
      Ends (finding w ∷ l) b f i (over (finding w ∷ l) (left_findings b) (left_interactions b))
  unfolding over more_findings
  finding_yes e k ih =
      let n = b.out.findings in
      let room : n * 14 + 14 ≤ length b.findings = omega arith in
      let c = board (written b.findings (n * 14) w) b.interactions (more_findings b.out) in
      let g = grown_length 14 b.findings f n h.findings h.many_findings w e room in
      let s : left_findings b ≡ suc (left_findings c) = omega (arith, ap (λ (x : ℕ). x / 14) g) in
      rw s (lift_finding w l b c f i (over l (left_findings c) (left_interactions c)) (finding_in b z w k) (ih c (record {
        findings = grown 14 b.findings f n h.findings h.many_findings w e room;
        interactions = h.interactions;
        many_findings = grown_many 14 b.findings f n h.findings h.many_findings w e room;
        many_interactions = h.many_interactions;
      }) refl))

  finding_no : length b.findings / 14 ≤ b.out.findings →
      Ends (finding w ∷ l) b f i (over (finding w ∷ l) (left_findings b) (left_interactions b))
  unfolding over refused
  finding_no k =
      let s : left_findings b ≡ 0 = omega arith in
      let c = board b.findings b.interactions (refused 45 b.out) in
      rw s (no_place 45 (refusal_of (first (finding w) l b c (finding_out b z w k) ∙ stays l c (λ y. omega arith))))

  interaction_yes : length w ≡ 3 → b.out.interactions < length b.interactions / 3 →
      ((c : Board) → Holding c f (i ++ w ∷ []) → c.out.refusal ≡ 0 →
      Ends l c f (i ++ w ∷ []) (over l (left_findings c) (left_interactions c))) →
      Ends (interaction w ∷ l) b f i (over (interaction w ∷ l) (left_findings b) (left_interactions b))
  unfolding over more_interactions
  interaction_yes e k ih =
      let n = b.out.interactions in
      let room : n * 3 + 3 ≤ length b.interactions = omega arith in
      let c = board b.findings (written b.interactions (n * 3) w) (more_interactions b.out) in
      let g = grown_length 3 b.interactions i n h.interactions h.many_interactions w e room in
      let s : left_interactions b ≡ suc (left_interactions c) = omega (arith, ap (λ (x : ℕ). x / 3) g) in
      rw s (lift_interaction w l b c f i (over l (left_findings c) (left_interactions c)) (interaction_in b z w k)
      (ih c (record {
        findings = h.findings;
        interactions = grown 3 b.interactions i n h.interactions h.many_interactions w e room;
        many_findings = h.many_findings;
        many_interactions = grown_many 3 b.interactions i n h.interactions h.many_interactions w e room;
      }) refl))

  interaction_no : length b.interactions / 3 ≤ b.out.interactions →
      Ends (interaction w ∷ l) b f i (over (interaction w ∷ l) (left_findings b) (left_interactions b))
  unfolding over refused
  interaction_no k =
      let s : left_interactions b ≡ 0 = omega arith in
      let c = board b.findings b.interactions (refused 46 b.out) in
      rw s (no_place 46 (refusal_of (first (interaction w) l b c (interaction_out b z w k) ∙ stays l c (λ y. omega arith))))

pub ends : (l : List Item) (b : Board) (f i : List (List ℕ)) → Shaped l → Holding b f i → b.out.refusal ≡ 0 →
    Ends l b f i (over l (left_findings b) (left_interactions b))
unfolding pushes over findings_of interactions_of
ends [] b f i s h z = all_in (rw (append-nil f, append-nil i) h) z
ends (finding w ∷ l) b f i (shaped_finding e s) h z = elim (dec_lt b.out.findings (length b.findings / 14)) [
  | yes k ↦ finding_yes w l b f i h z e k (λ c j y. ends l c (f ++ w ∷ []) i s j y)
  | no k ↦ finding_no w l b f i h z (omega arith)
]
ends (interaction w ∷ l) b f i (shaped_interaction e s) h z =
    elim (dec_lt b.out.interactions (length b.interactions / 3)) [
      | yes k ↦ interaction_yes w l b f i h z e k (λ c j y. ends l c f (i ++ w ∷ []) s j y)
      | no k ↦ interaction_no w l b f i h z (omega arith)
    ]
