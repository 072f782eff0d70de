-- Each listing of actions and of automations adds the reasons of the part that the reader of `File` finds at its position.
use Rattle.std.specs.Prelude.{Some}
use mathlib.Core.Path.{◌≡◌, refl, sym, ap, ◌∙◌, subst}
use mathlib.Core.List.{List, [], ◌∷◌, ◌++◌, append-nil, append_assoc}
use Prim.Native.Nat.{ℕ, zero, suc, ◌+◌, ◌≤◌, ◌<◌}
use native.Mathlib.Omega.{arith}
use lib.ListN.{length, get_or, length-append}
use Rattle.texts.specs.Lists.{each, flat}
use Rattle.texts.specs.Texts.{Text, text, decimal}
use Rattle.texts.specs.Places.{text_at, start_from}
use Rattle.model_spec.specs.Model.{Source, Trigger, Effect, Actions, Branches, Automation, Model}
use Rattle.model_spec.specs.File.{
  got,
  Reader,
  refuse,
  u8,
  u16,
  u32,
  counted,
  flag,
  source,
  place,
  predicate,
  trigger,
  branches,
  effect_kinds,
  effect,
  actions_of,
  actions,
}
use Rattle.model_spec.specs.Notes.{of_predicate, of_trigger, of_invariant, of_rule, notes_of}
use Rattle.model_walk.specs.Walk.{found}
use Rattle.model_walk.proofs.Found.{bound, given, Wide, wide_sum, u32_wide, kind_wide, Kind, kind_found, place_found}
use Rattle.model_walk.proofs.Found as found
use Rattle.model_walk.proofs.Refines.{sees_flag}
use Rattle.engine_spec.specs.Unsupported.{placed, effect_reasons, action_reasons, branch_reasons, rule_reasons, unsupported}
use Rattle.reasons.specs.Kinds as kinds
use Rattle.reasons.specs.Reasons.{words, body, render}
use Rattle.reasons.specs.Readable.{text_count}
use Rattle.reasons.specs.Reasons as reasons
use Rattle.bounds.specs.Bounds.{at_most}
use Rattle.engine_fields.specs.Fields.{word, rules}
use Rattle.bounds.proofs.Laws.{most_yes}
use Rattle.engine_unsupported.specs.Rows.{RuleAt, RulesAt}
use Rattle.engine_unsupported.specs.declared.Head.{Head}
use Rattle.engine_notes.specs.declared.Part.TheVariants as part
use Rattle.engine_notes.specs.Listing.{
  After,
  after,
  Listing,
  ◌⨾◌,
  read,
  stay,
  skip_m,
  times_m,
  insert_m,
  trigger_m,
  predicate_m,
  parts_m,
}
use Rattle.engine_unsupported.specs.Listing.{
  source_note,
  head_of,
  source_m,
  unknown_m,
  wait_m,
  branch_m,
  effect_m,
  action_m,
  actions_m,
  own_m,
  rule_m,
  rules_m,
  unsupported_m,
}
use Rattle.engine_notes.proofs.Laws as notes
use Rattle.engine_notes.proofs.Adding.{add_all, add_both, each_both}
use Rattle.engine_notes.proofs.Refines.{
  by_got,
  next,
  skips,
  after_same,
  Adds,
  Renders,
  nothing,
  position_text,
  plain_note,
  id_note_lem,
  place_wide,
  trigger_agrees,
  predicate_agrees,
  notes_agree,
  triggers_agree,
  predicates_agree,
}
use Rattle.engine_unsupported.proofs.Laws as laws
use Rattle.engine_unsupported.proofs.Adding.{add_sorted, each_same, many_rules}

read_got : {A : Type 0} (f : List ℕ) (p : ℕ) (r : Reader ℕ) (z : A) (k : ℕ → ℕ → A) {v q : ℕ} → r f p ≡ got v q →
    read r z k f p ≡ k v q
unfolding found
read_got f p r z k {v} {q} e = notes.read_is f p r z k {x = Some (v, q)} (sym e) refl

source_words : words kinds.source_note_kind ≡ text ": "
unfolding words
source_words = refl

-- the file f, with the texts ts
module _ (f : List ℕ) (ts : List Text) (size : length f ≤ 32768) (few : length ts ≤ 65535)
    (counted_as : text_count f ≡ length ts)
    (placed_text : (k : ℕ) → k < length ts → text_at f (start_from f 6 k) ≡ get_or ts k []) where
  placed_is : (s : Source) → reasons.placed s.line s.column ≡ placed s
  unfolding reasons.placed placed
  placed_is s = sym (append_assoc (decimal s.line) (text ":") (decimal s.column))

  source_text : (s : Source) (m : ℕ) → m < length ts →
      render f (source_note f s.line s.column m) ≡ reasons.placed s.line s.column ++ (text ": " ++ get_or ts m [])
  unfolding source_note render body
  source_text s m h = rw (
    nothing f ts size few counted_as placed_text,
    source_words,
    position_text f ts size few counted_as placed_text m h,
  )

  source_note_lem : (s : Source) (m : ℕ) → m < length ts →
      render f (source_note f s.line s.column m) ≡ placed s ++ text ": " ++ get_or ts m []
  source_note_lem s m h =
      source_text s m h
      ∙ ap (λ (y : Text). y ++ (text ": " ++ get_or ts m [])) (placed_is s)
      ∙ sym (append_assoc (placed s) (text ": ") (get_or ts m []))

  -- ---- actions: the reader and the listing of an inner list are given
  abbrev same_text : Text → Text
  same_text t = t

  head_found : (p : ℕ) {s : Source} {o k w : ℕ} → source f p ≡ got s o → u8 f o ≡ got k w →
      head_of f p ≡ record { line = s.line; column = s.column; kind = k; next = w }
  unfolding source
  head_found p {s} {o} {k} {w} a b =
      let x = bound u32 _ a in
      let c = bound u32 _ x.rest in
      let z = given _ _ _ c.rest in
      laws.head_is f p
      ∙ read_got f p u32 _ _ x.first
      ∙ read_got f x.next u32 _ _ c.first
      ∙ read_got f c.next u8 _ _ (ap (u8 f) z.1 ∙ b)
      ∙ ap (λ (s : Source). record { line = s.line; column = s.column; kind = k; next = w }) z.0

  trigger_plain : Adds f (trigger ts) of_trigger (trigger_m 65535)
  trigger_plain p l t q e =
      trigger_agrees f ts size few counted_as placed_text 65535 same_text (plain_note f ts size few counted_as placed_text) p l t q e
      ∙ after_same q (ap (λ (y : List Text). add_all y l) (each_same (of_trigger t)))

  predicate_plain : Adds f (predicate ts) of_predicate (predicate_m 65535)
  predicate_plain p l a q e =
      predicate_agrees f ts size few counted_as placed_text 65535 same_text (plain_note f ts size few counted_as placed_text)
      p l a q e
      ∙ after_same q (ap (λ (y : List Text). add_all y l) (each_same (of_predicate a)))

  wait_agrees : (p : ℕ) (l : List Text) {t : Trigger} {o q : ℕ} → trigger ts f p ≡ got t o → Wide 5 f o q →
      wait_m f p l ≡ after q (add_all (of_trigger t) l)
  wait_agrees p l {t} {o} {q} a w =
      laws.wait_is f p l
      ∙ next f p l (trigger_m 65535) (skip_m 5) (trigger_plain p l t o a)
      ∙ skips f o (add_all (of_trigger t) l) 5 w

  unknown_agrees : (s : Source) →
      Adds f (place ts) (λ t. (placed s ++ text ": " ++ t) ∷ []) (unknown_m s.line s.column)
  unfolding unknown_m source_m add_all
  unknown_agrees s p l t q e =
      let a = place_found ts e in
      by_got f p l u16 (source_m s.line s.column) a.is_place
      ∙ after_same q
      (ap (λ (y : Text). insert_m y l) (source_note_lem s a.at a.is_in
      ∙ ap (λ (y : Text). placed s ++ text ": " ++ y) (sym a.is_text)))

  module _ (inner : Reader Actions) (lst : Listing) (ih : Adds f inner action_reasons lst) where
    branches_agree : (i : ℕ) → Adds f (branches ts inner i) branch_reasons (times_m i (branch_m lst))
    unfolding branches times_m stay branch_reasons add_all
    branches_agree zero p l b q e =
        let z = given _ _ _ e in
        ap (λ (x : ℕ). after x l) z.1 ∙ ap (λ (y : Branches). after q (add_all (branch_reasons y) l)) z.0
    branches_agree (suc i) p l b q e =
        let c = bound (counted (predicate ts)) _ e in
        let a = bound inner _ c.rest in
        let r = bound (branches ts inner i) _ a.rest in
        let z = given _ _ _ r.rest in
        let ps = flat of_predicate c.value in
        let as' = action_reasons a.value in
        next f p l (branch_m lst) (times_m i (branch_m lst)) {t = add_all (ps ++ as') l}
        (next f p l (parts_m part.Predicate 65535) lst (predicates_agree f ts size few counted_as placed_text 65535 same_text
        (plain_note f ts size few counted_as placed_text) p l c.value c.next c.first)
        ∙ ih c.next (add_all (each same_text ps) l) a.value a.next a.first
        ∙ after_same a.next (ap (λ (y : List Text). add_all as' (add_all y l)) (each_same ps) ∙ add_both ps as' l))
        ∙ branches_agree i a.next (add_all (ps ++ as') l) r.value q (r.first ∙ ap (got r.value) z.1)
        ∙ after_same q (add_both (ps ++ as') (branch_reasons r.value) l)
        ∙ ap (λ (y : Branches). after q (add_all (branch_reasons y) l)) z.0

    action_agrees : (p : ℕ) (l : List Text) {s : Source} {e : Effect} {o q : ℕ} → source f p ≡ got s o →
        effect ts inner f o ≡ got e q → action_m lst f p l ≡ after q (add_all (effect_reasons e s) l)
    unfolding effect effect_reasons add_all
    action_agrees p l {s} {e} {o} {q} a b =
        laws.action_is f p l lst (h k.kind) (sym (head_found p a k.is_kind))
        ∙ cases k.kind k.holds
      where
        k : Kind (effect_kinds ts inner) f o e q
        k = kind_found (effect_kinds ts inner) b

        w : ℕ
        w = k.next

        h : ℕ → Head
        h n = record { line = s.line; column = s.column; kind = n; next = w }

        same : {x y : Effect} → x ≡ y → after q (add_all (effect_reasons x s) l) ≡ after q (add_all (effect_reasons y s) l)
        same z = ap (λ (y : Effect). after q (add_all (effect_reasons y s) l)) z

        four : (n : ℕ) → (n ≡ 4 → ⊥) → (n ≡ 3 → ⊥) → (n ≡ 5 → ⊥) → (n ≡ 6 → ⊥) → (n ≡ 1 → ⊥) → Wide 4 f w q →
            effect_m lst (h n) f w l ≡ after q l
        four n a b c d e v = laws.effect_simple f w l (h n) lst a ∙ laws.simple_else f w l (h n) b c d e ∙ skips f w l 4 v

        cases : (n : ℕ) → get_or (effect_kinds ts inner) n refuse f w ≡ got e q →
            effect_m lst (h n) f w l ≡ after q (add_all (effect_reasons e s) l)
        cases zero g =
            let x = bound (place ts) _ g in
            let v = bound (place ts) _ x.rest in
            let z = given _ _ _ v.rest in
            four 0 (λ y. omega arith) (λ y. omega arith) (λ y. omega arith) (λ y. omega arith) (λ y. omega arith)
            (wide_sum (place_wide f ts size few counted_as placed_text w x.first)
            (place_wide f ts size few counted_as placed_text x.next (v.first ∙ ap (got v.value) z.1)))
            ∙ same z.0
        cases (suc zero) g =
            let x = bound (place ts) _ g in
            let z = given _ _ _ x.rest in
            laws.effect_simple f w l (h 1) lst (λ y. omega arith)
            ∙ laws.simple_1 f w l (h 1) refl
            ∙ skips f w l 2 (place_wide f ts size few counted_as placed_text w (x.first ∙ ap (got x.value) z.1))
            ∙ same z.0
        cases (suc (suc zero)) g =
            let x = bound u32 _ g in
            let z = given _ _ _ x.rest in
            four 2 (λ y. omega arith) (λ y. omega arith) (λ y. omega arith) (λ y. omega arith) (λ y. omega arith)
            (u32_wide f w (x.first ∙ ap (got x.value) z.1))
            ∙ same z.0
        cases (suc (suc (suc zero))) g =
            let x = bound (predicate ts) _ g in
            let z = given _ _ _ x.rest in
            laws.effect_simple f w l (h 3) lst (λ y. omega arith)
            ∙ laws.simple_3 f w l (h 3) refl
            ∙ predicate_plain w l x.value q (x.first ∙ ap (got x.value) z.1)
            ∙ same z.0
        cases (suc (suc (suc (suc zero)))) g =
            let c = bound u16 _ g in
            let b = bound (branches ts inner c.value) _ c.rest in
            let a = bound inner _ b.rest in
            let z = given _ _ _ a.rest in
            laws.effect_choice f w l (h 4) lst refl
            ∙ by_got f w l u16 (λ c. times_m c (branch_m lst) ⨾ lst) c.first
            ∙ next f c.next l (times_m c.value (branch_m lst)) lst
            (branches_agree c.value c.next l b.value b.next b.first)
            ∙ ih b.next (add_all (branch_reasons b.value) l) a.value q (a.first ∙ ap (got a.value) z.1)
            ∙ after_same q (add_both (branch_reasons b.value) (action_reasons a.value) l)
            ∙ same z.0
        cases (suc (suc (suc (suc (suc zero))))) g =
            let t = bound (trigger ts) _ g in
            let m = bound u32 _ t.rest in
            let c = bound flag _ m.rest in
            let z = given _ _ _ c.rest in
            laws.effect_simple f w l (h 5) lst (λ y. omega arith)
            ∙ laws.simple_5 f w l (h 5) refl
            ∙ wait_agrees w l t.first (wide_sum (u32_wide f t.next m.first)
            (kind_wide 2 flag sees_flag (c.first ∙ ap (got c.value) z.1)))
            ∙ same z.0
        cases (suc (suc (suc (suc (suc (suc zero)))))) g =
            let x = bound (place ts) _ g in
            let z = given _ _ _ x.rest in
            laws.effect_simple f w l (h 6) lst (λ y. omega arith)
            ∙ laws.simple_6 f w l (h 6) refl
            ∙ unknown_agrees s w l x.value q (x.first ∙ ap (got x.value) z.1)
            ∙ same z.0
        cases (suc (suc (suc (suc (suc (suc (suc n))))))) g = absurd (found.refused f w g)

    list_agrees : (i : ℕ) → Adds f (actions_of ts inner i) action_reasons (times_m i (action_m lst))
    unfolding actions_of times_m stay action_reasons add_all
    list_agrees zero p l a q e =
        let z = given _ _ _ e in
        ap (λ (x : ℕ). after x l) z.1 ∙ ap (λ (y : Actions). after q (add_all (action_reasons y) l)) z.0
    list_agrees (suc i) p l a q e =
        let c = bound source _ e in
        let x = bound (effect ts inner) _ c.rest in
        let r = bound (actions_of ts inner i) _ x.rest in
        let z = given _ _ _ r.rest in
        next f p l (action_m lst) (times_m i (action_m lst)) (action_agrees p l c.first x.first)
        ∙ list_agrees i x.next (add_all (effect_reasons x.value c.value) l) r.value q
        (r.first ∙ ap (got r.value) z.1)
        ∙ after_same q (add_both (effect_reasons x.value c.value) (action_reasons r.value) l)
        ∙ ap (λ (y : Actions). after q (add_all (action_reasons y) l)) z.0

  actions_agree : (left : ℕ) → Adds f (actions ts left) action_reasons (actions_m left)
  unfolding actions actions_m
  actions_agree zero p l a q e = absurd (found.refused f p e)
  actions_agree (suc left) p l a q e =
      let c = bound u16 (actions_of ts (actions ts left)) e in
      by_got f p l u16 (λ c. times_m c (action_m (actions_m left))) c.first
      ∙ list_agrees (actions ts left) (actions_m left) (actions_agree left) c.value c.next l a q c.rest

  -- ---- automations
  abbrev own_reasons : Automation → List Text
  own_reasons r = each (λ t. r.id ++ text ": " ++ t)
      (r.notes ++ flat of_trigger r.triggers ++ flat of_predicate r.conditions)

  module _ (x : List ℕ) where
    own_agrees : (i : ℕ) (r : Automation) (l : List Text) → RuleAt f x ts i r →
        own_m f x i l ≡ add_all (own_reasons r) l
    unfolding own_m
    own_agrees i r l a =
        let v = word x i 0 in
        let g : Text → Text = λ t. r.id ++ text ": " ++ t in
        let is : Renders f ts v g = λ m h. id_note_lem f ts size few counted_as placed_text v m a.id_in h
        ∙ ap (λ (y : Text). y ++ text ": " ++ get_or ts m []) (sym a.id) in
        let n = r.notes in
        let t = flat of_trigger r.triggers in
        let c = flat of_predicate r.conditions in
        let l₁ = add_all (each g n) l in
        let l₂ = add_all (each g t) l₁ in
        ap (λ (y : After). (parts_m part.Predicate v f (word x i 4)
        (parts_m part.Trigger v f (word x i 3) y.list).list).list)
        (notes_agree f ts size few counted_as placed_text v g is (word x i 7) l n a.notes.0 a.notes.1)
        ∙ ap (λ (y : After). (parts_m part.Predicate v f (word x i 4) y.list).list)
        (triggers_agree f ts size few counted_as placed_text v g is (word x i 3) l₁ r.triggers a.triggers.0
        a.triggers.1)
        ∙ ap (λ (y : After). y.list) (predicates_agree f ts size few counted_as placed_text v g is (word x i 4) l₂
        r.conditions a.conditions.0 a.conditions.1)
        ∙ ap (add_all (each g c)) (add_both (each g n) (each g t) l ∙ ap (λ (y : List Text). add_all y l) (each_both g n t))
        ∙ add_both (each g (n ++ t)) (each g c) l
        ∙ ap (λ (y : List Text). add_all y l) (each_both g (n ++ t) c)

    rule_agrees : (i : ℕ) (r : Automation) (l : List Text) → RuleAt f x ts i r → rule_m f x i l ≡ add_all (rule_reasons r) l
    unfolding rule_m rule_reasons
    rule_agrees i r l a =
        ap (λ (y : List Text). (actions_m 18 f (word x i 5) y).list) (own_agrees i r l a)
        ∙ ap (λ (y : After). y.list) (actions_agree 18 (word x i 5) (add_all (own_reasons r) l) r.actions a.actions.0
        a.actions.1)
        ∙ add_both (own_reasons r) (action_reasons r.actions) l

    rules_agree : (rs : List Automation) (i : ℕ) (l : List Text) →
        ((d : Automation) (j : ℕ) → j < length rs → RuleAt f x ts (i + j) (get_or rs j d)) →
        rules_m f x (length rs) i l ≡ add_all (flat rule_reasons rs) l
    unfolding rules_m flat add_all
    rules_agree [] i l a = refl
    rules_agree (r ∷ rs) i l a =
        let z : i + 0 ≡ i = omega arith in
        ap (rules_m f x (length rs) (i + 1)) (rule_agrees i r l
        (subst (λ (k : ℕ). RuleAt f x ts k r) z (a r 0 (omega arith))))
        ∙ rules_agree rs (i + 1) (add_all (rule_reasons r) l)
        (λ d j h. let s : i + suc j ≡ i + 1 + j = omega arith in
        subst (λ (k : ℕ). RuleAt f x ts k (get_or rs j d)) s (a d (suc j) (omega arith)))
        ∙ add_both (rule_reasons r) (flat rule_reasons rs) l

-- ---- the whole list

-- with at most 64 notes the area's place suffices, and the code's list is the definition's
pub unsupported_agrees : {f x : List ℕ} {ts : List Text} (m : Model) → RulesAt f x ts m.rules →
    length (notes_of m) ≤ 64 → unsupported_m f x ≡ unsupported m.rules
unfolding unsupported_m rules unsupported notes_of
unsupported_agrees {f} {x} {ts} m a h =
    let rs = m.rules in
    ap (λ (n : ℕ). rules_m f x n 0 []) (ap (λ (n : ℕ). at_most n 32) a.automations
    ∙ sym (most_yes (length rs) 32 a.few_automations))
    ∙ rules_agree f ts a.size a.few_texts a.counted a.placed_text x rs 0 []
    (λ d j k. let z : j ≡ 0 + j = omega arith in subst (λ (n : ℕ). RuleAt f x ts n (get_or rs j d)) z (a.rows d j k))
    ∙ add_sorted (flat rule_reasons rs)
    (omega (arith, many_rules rs, length-append (flat of_invariant m.scenario.invariants) (flat of_rule rs)))

-- the notes of one automation
pub alone_agrees : {f x : List ℕ} {ts : List Text} → length f ≤ 32768 → length ts ≤ 65535 → text_count f ≡ length ts →
    ((k : ℕ) → k < length ts → text_at f (start_from f 6 k) ≡ get_or ts k []) →
    (i : ℕ) (r : Automation) → RuleAt f x ts i r → length (of_rule r) ≤ 64 → rule_m f x i [] ≡ unsupported (r ∷ [])
unfolding unsupported flat
alone_agrees {f} {x} {ts} size few counted_as placed_text i r a h =
    rule_agrees f ts size few counted_as placed_text x i r [] a
    ∙ ap (λ (l : List Text). add_all l []) (sym (append-nil (rule_reasons r)))
    ∙ add_sorted (rule_reasons r ++ []) (omega (arith, many_rules (r ∷ []), length-append (of_rule r) []))
