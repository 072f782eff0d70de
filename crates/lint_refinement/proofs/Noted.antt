-- The findings of the notes stand for the definition's unsupported findings.
use mathlib.Core.Path.{◌≡◌, refl, sym, ap, ◌∙◌, subst}
use mathlib.Core.List.{List, [], ◌∷◌, ◌++◌, map}
use Prim.Native.Nat.{ℕ, zero, suc, ◌+◌, ◌*◌, ◌^◌, ◌≤◌, ◌<◌}
use native.Mathlib.Omega.{arith}
use lib.Bits.{bit_or}
use lib.ListN.{length, get_or, drop, length-append}
use lib.Seq.{get_or-drop, drop-drop}
use borrow.Author.Tests.{le-ltb}
use Rattle.texts.specs.Lists.{each, flat}
use Rattle.texts.specs.Places.{text_at, start_from}
use Rattle.texts.specs.Texts.{Text, text, eq_t}
use Rattle.model_spec.specs.Model.{Automation, Model}
use Rattle.model_spec.specs.Notes.{of_rule, of_invariant, notes_of}
use Rattle.model_spec.specs.File.{got, u16, counted, place, trigger, predicate, actions_of, actions}
use Rattle.model_walk.proofs.Found.{bound, u16_wide, source_wide, counted_found, place_found}
use Rattle.model_walk.proofs.Laws.{bind_got}
use Rattle.model_parts.specs.declared.Section.{Section}
use Rattle.reasons.specs.Reasons.{render}
use Rattle.reasons.specs.Readable.{text_count, AllReadable, HasText}
use Rattle.reasons.specs.Lists.{words_of, reason_of, reasons, listed}
use Rattle.engine_spec.specs.Unsupported.{unsupported, rule_reasons}
use Rattle.engine_spec.proofs.Lists.{sorted_many}
use Rattle.model_spec.specs.Rewrite.{place_of}
use Rattle.engine_fields.specs.Fields.{cap, word}
use Rattle.engine_unsupported.specs.Rows.{RuleAt as Row}
use Rattle.engine_unsupported.proofs.Adding.{many_rules}
use Rattle.engine_unsupported.proofs.Refines.{alone_agrees}
use Rattle.lint_spec.specs.Findings.{unsupported_note, Finding, unsupported_entry, unsupported_entries}
use Rattle.lint_spec.specs.Words.{
  set_of,
  code_number,
  certainty_number,
  tier_number,
  source_words,
  sources_of,
  entity_number,
  ids_set,
  finding_words,
  noted,
}
use Rattle.lint_spec.specs.Memory.{neither, both}
use Rattle.lint_walk.specs.Raw.{number_m, past, triggers_m, conditions_m, actions_m}
use Rattle.lint_walk.specs.Walks.{walk_m, list_end}
use Rattle.lint_walk.proofs.Found.{past_is, place_got, RuleAt}
use Rattle.lint_walk.proofs.Refines.{list_ends}
use Rattle.lint_conditions.specs.declared.Names.{Names}
use Rattle.lint_areas.specs.Areas.{Item, Board, pushes}
use Rattle.lint_areas.proofs.Laws.{pushes_append}
use Rattle.lint_findings.specs.Entries.{items_numbers_m}
use Rattle.lint_notes.specs.Notes.{note_m, note_items, RowOf, RuleNotes, AllNotes, no_notes, more_notes}
use Rattle.lint_refinement.proofs.Lists.{flat_longer}
use Rattle.lint_refinement.proofs.Agree.{as_finding, agree_append}
use Rattle.lint_refinement.proofs.FileFacts.{Stage, no_rule, rule_start, rule_of, rule_at_lem, walked_at, id_number}
use Rattle.lint_refinement.proofs.Rules.{names, ids, Agrees}

cap_is : (p : ℕ) → p ≤ 4294967295 → cap p ≡ p
unfolding cap
cap_is p h = rw (le-ltb 4294967295 p h)

map_long : {A B : Type 0} (f : A → B) (l : List A) → length (map f l) ≡ length l
map_long f [] = refl
map_long f (x ∷ l) = ap suc (map_long f l)

reasons_long : (n : ℕ) (u : List ℕ) → length (reasons n u) ≡ n
unfolding reasons
reasons_long zero u = refl
reasons_long (suc n) u = ap suc (reasons_long n (drop 5 u))

module _ {s : List ℕ} {d : Names} {rs : Section} {ts : List Text} {m : Model} (st : Stage s d rs ts m)
    (size : length s ≤ 32768) (few_texts : length ts ≤ 65535)
    (counted_as : text_count s ≡ length ts) (placed_text : (k : ℕ) → k < length ts → text_at s (start_from s 6 k) ≡ get_or ts k [])
    (few_notes : length (notes_of m) ≤ 64)
    (has_text : HasText s) where
  -- ---- the row

  near : {p k q : ℕ} → u16 s p ≡ got k q → cap p ≡ p
  near {p} e = cap_is p (omega (arith, (u16_wide s p e).inside))

  triggers_read : (p : ℕ) (r : Automation) → RuleAt ts s p r →
      counted (trigger ts) s (triggers_m s p) ≡ got r.triggers (conditions_m s p)
  unfolding counted
  triggers_read p r f = bind_got u16 _ f.triggers ∙ f.are_triggers

  actions_near : (p : ℕ) (r : Automation) → RuleAt ts s p r → cap (actions_m s p) ≡ actions_m s p
  unfolding actions
  actions_near p r f = near (bound u16 (actions_of ts (actions ts 17)) f.are_actions).first

  source_is : (p : ℕ) (r : Automation) (f : RuleAt ts s p r) → (walk_m s p).next ≡ f.at_source
  unfolding walk_m list_end
  source_is p r f = list_ends ts s 18 (actions_m s p) r.actions f.at_source (omega arith) f.are_actions

  row_is : (i : ℕ) (h : i < length m.rules) (x : List ℕ) → RowOf s (rule_start st i) (walk_m s (rule_start st i)).next x →
      Row s x ts 0 (rule_of st i)
  row_is i h x o =
      let p = rule_start st i in
      let r = rule_of st i in
      let f = rule_at_lem st i h in
      let a = place_found ts f.id_at in
      let n = counted_found (place ts) f.notes_at in
      let z₀ : word x 0 0 ≡ a.at = o.id ∙ place_got s p a.is_place in
      let z₃ : word x 0 3 ≡ triggers_m s p = o.triggers ∙ near f.triggers in
      let z₄ : word x 0 4 ≡ conditions_m s p = o.conditions
      ∙ near (counted_found (predicate ts) f.conditions).is_count in
      let z₅ : word x 0 5 ≡ actions_m s p = o.actions ∙ actions_near p r f in
      let z₇ : word x 0 7 ≡ f.at_notes = o.notes ∙ ap (λ (q : ℕ). cap (past s q 8)) (source_is p r f)
      ∙ ap cap (past_is s (source_wide s f.at_source f.source_at)) ∙ near n.is_count in
      record {
        id_in = rw z₀ a.is_in;
        id = a.is_text ∙ ap (λ (k : ℕ). get_or ts k []) (sym z₀);
        triggers = (conditions_m s p, ap (counted (trigger ts) s) z₃ ∙ triggers_read p r f);
        conditions = (actions_m s p, ap (counted (predicate ts) s) z₄ ∙ f.conditions);
        actions = (f.at_source, ap (actions ts 18 s) z₅ ∙ f.are_actions);
        notes = (f.end, ap (counted (place ts) s) z₇ ∙ f.notes_at);
      }

  -- ---- the notes of the i-th automation

  module _ (i : ℕ) (h : i < length m.rules) where
    abbrev r : Automation
    r = get_or m.rules i no_rule

    abbrev q : ℕ
    q = (walk_m s (get_or rs.starts i 0)).next

    few_own : length (of_rule r) ≤ 64
    unfolding notes_of
    few_own = omega (
      arith,
      flat_longer of_rule no_rule m.rules i h,
      length-append (flat of_invariant m.scenario.invariants) (flat of_rule m.rules),
      few_notes,
    )

    few_reasons : length (unsupported (r ∷ [])) ≤ 64
    unfolding unsupported flat
    few_reasons = omega (
      arith,
      sorted_many (rule_reasons r ++ []),
      many_rules (r ∷ []),
      length-append (of_rule r) [],
      few_own,
    )

    abbrev own_set : ℕ
    own_set = bit_or 0 (2 ^ i)

    set_is : bit_or 0 (2 ^ i) ≡ ids_set (names st) (ids st) (r.id ∷ [])
    unfolding ids_set set_of each Rattle.texts.specs.Lists.through
    set_is = ap (λ (n : ℕ). bit_or 0 (2 ^ n)) (sym (id_number st i h))

    abbrev line : ℕ
    line = number_m s (walk_m s (get_or rs.starts i 0)).next

    abbrev column : ℕ
    column = number_m s (past s (walk_m s (get_or rs.starts i 0)).next 4)

    abbrev note_found : Text → Finding
    note_found t = record {
      problem = unsupported_note t;
      automations = r.id ∷ [];
      sources = r.source ∷ [];
      tier =
          text "unknown";
    }

    tier_five : tier_number (text "unknown") ≡ 5
    unfolding tier_number place_of eq_t
    tier_five = refl

    note_words : (u : List ℕ) (k : ℕ) → note_m own_set line column u k
        ≡ finding_words (names st) (ids st) (note_found (render s (reason_of (drop (5 * k) u)))) ++ words_of
        (reason_of (drop (5 * k) u))
    unfolding note_m finding_words code_number certainty_number entity_number sources_of source_words reason_of
    note_words u k =
        let z : 5 * k + 0 ≡ 5 * k = omega arith in
        rw (
          tier_five,
          get_or-drop (5 * k) u 0 0,
          get_or-drop (5 * k) u 1 0,
          get_or-drop (5 * k) u 2 0,
          get_or-drop (5 * k) u 3 0,
          get_or-drop (5 * k) u 4 0,
          z,
        )
        (rw (set_is, (walked_at st i h).source_at.line, (walked_at st i h).source_at.column))

    notes_from : (u : List ℕ) (n k : ℕ) → AllReadable s (reasons n (drop (5 * k) u)) →
        Agrees st (each (unsupported_entry r) (map (render s) (reasons n (drop (5 * k) u))))
        (items_numbers_m (λ j. Item.finding (note_m own_set line column u j) ∷ []) n k)
    unfolding reasons each items_numbers_m unsupported_entry
    notes_from u zero k h = neither
    notes_from u (suc n) k h =
        let z : 5 * k + 5 ≡ 5 * (k + 1) = omega arith in
        let y : drop 5 (drop (5 * k) u) ≡ drop (5 * (k + 1)) u = drop-drop 5 (5 * k) u ∙ ap (λ (j : ℕ). drop j u) z in
        let first = reason_of (drop (5 * k) u) in
        both (as_finding (record { reason = words_of first; is = note_words u k; reasoned = noted first h.0 }))
        (subst (λ (a : List ℕ). Agrees st (each (unsupported_entry r) (map (render s) (reasons n a)))
        (items_numbers_m (λ j. Item.finding (note_m own_set line column u j) ∷ []) n (k + 1))) (sym y)
        (notes_from u n (k + 1) (subst (λ (a : List ℕ). AllReadable s (reasons n a)) y h.1)))

    module _ {b c : Board} (f : RuleNotes s rs i b c) where
      are_notes : listed s f.many f.reasons ≡ unsupported (r ∷ [])
      are_notes = f.are_reasons ∙ alone_agrees size few_texts counted_as placed_text 0 r (row_is i h f.row f.is_row)
          few_own

      many_are : f.many ≡ length (unsupported (r ∷ []))
      many_are = sym (reasons_long f.many f.reasons) ∙ sym (map_long (render s) (reasons f.many f.reasons))
          ∙ ap length are_notes

      count_is : f.count ≡ f.many
      count_is = f.counts.same (omega (arith, many_are, few_reasons))

      note_items_lem : List Item
      note_items_lem = note_items own_set line column f.reasons f.count

      note_inserted : c ≡ pushes note_items_lem b
      unfolding note_items_lem
      note_inserted = f.inserted

      note_agrees : Agrees st (unsupported_entries r) note_items_lem
      unfolding note_items_lem unsupported_entries note_items
      note_agrees =
          subst (λ (n : ℕ). Agrees st (each (unsupported_entry r) (unsupported (r ∷ [])))
          (items_numbers_m (λ j. Item.finding (note_m own_set line column f.reasons j) ∷ []) n 0)) (sym count_is)
          (subst (λ (l : List Text). Agrees st (each (unsupported_entry r) l)
          (items_numbers_m (λ j. Item.finding (note_m own_set line column f.reasons j) ∷ []) f.many 0)) are_notes
          (notes_from f.reasons f.many 0 (f.clean has_text).readable))

  -- ---- all automations

  pub record Noted (l : List Automation) (b c : Board) : Type 0 where
    pub items : List Item
    pub inserted : c ≡ pushes items b
    pub agrees : Agrees st (flat unsupported_entries l) items

  from_noted : {left i : ℕ} {b c : Board} → AllNotes s rs left i b c → (l : List Automation) → length l ≡ left →
      i + length l ≡ length m.rules → ((j : ℕ) → j < length l → get_or l j no_rule ≡ get_or m.rules (i + j) no_rule) →
      Noted l b c
  unfolding flat pushes
  from_noted no_notes [] e n same = record { items = []; inserted = refl; agrees = neither }
  from_noted no_notes (x ∷ l) e n same = absurd (omega arith)
  from_noted (more_notes f g) [] e n same = absurd (omega arith)
  from_noted (more_notes {left} {i} {b} {c} f g) (x ∷ l) e n same =
      let h : i < length m.rules = omega arith in
      let o : i + 0 ≡ i = omega arith in
      let y : x ≡ get_or m.rules i no_rule = same 0 (omega arith) ∙ ap (λ (k : ℕ). get_or m.rules k no_rule) o in
      let rest = from_noted g l (omega arith) (omega arith)
      (λ j k. let w : i + suc j ≡ i + 1 + j = omega arith in
      same (suc j) (omega arith) ∙ ap (λ (k : ℕ). get_or m.rules k no_rule) w) in
      record {
        items = note_items_lem i h f ++ rest.items;
        inserted = rest.inserted ∙ ap (pushes rest.items) (note_inserted i h f)
            ∙ sym (pushes_append (note_items_lem i h f) rest.items b);
        agrees = agree_append s (names st) (ids st) (subst
            (λ (a : Automation). Agrees st (unsupported_entries a) (note_items_lem i h f)) (sym y) (note_agrees i h f))
            rest.agrees;
      }

  pub all_noted : {b c : Board} → AllNotes s rs rs.count 0 b c → Noted m.rules b c
  all_noted f = from_noted f m.rules (sym st.rules.counts) (omega arith)
      (λ j h. let z : 0 + j ≡ j = omega arith in rw z)
