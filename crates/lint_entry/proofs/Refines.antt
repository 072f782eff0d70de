-- The lint of an accepted model by the code is the definition's: its answer, and each word of the areas.
use Rattle.std.specs.Prelude.{if◌then◌else◌}
use mathlib.Core.Path.{◌≡◌, refl, sym, ap, ◌∙◌, subst}
use mathlib.Core.Bool.{false, ◌||◌}
use mathlib.Core.List.{List, [], ◌∷◌, ◌++◌}
use mathlib.Core.Logic.{◌⊎◌, inl, inr}
use mathlib.Core.Option.{Option, none, some}
use Prim.Native.Nat.{ℕ, ◌+◌, ◌-◌, ◌/◌, ◌^◌, ◌≤◌, ◌<◌}
use native.Mathlib.Omega.{arith}
use lib.Dec.{eqb}
use lib.ListN.{length, get_or, take, replicate, length-replicate}
use borrow.Author.Tests.{ne_eqb}
use Rattle.engine_spec.proofs.Bounds.{length_each}
use Rattle.texts.specs.Lists.{each, flat}
use Rattle.texts.specs.Texts.{Text}
use Rattle.model_spec.specs.Answer.{Answer, answer, refused, ◌>>=◌}
use Rattle.model_spec.specs.Model.{Automation, Model}
use Rattle.model_spec.specs.File.{texts}
use Rattle.model_spec.specs.Validate.{accepted}
use Rattle.model_walk.proofs.Found.{place_found}
use Rattle.model_order.proofs.Places.{placed_text}
use Rattle.model_index.specs.declared.Index.{Index}
use Rattle.model_index.specs.declared.File.{File}
use Rattle.model_index.specs.declared.Status.TheVariants as status
use Rattle.model_index.specs.Indexed.{Indexed}
use Rattle.model_index.specs.Indexed.{Says as ReadSays}
use Rattle.model_validate.proofs.Refines.{accept_read, accept_refused}
use Rattle.model_validate.proofs.Refusals.{Refuses, Refusal, refusal_numbers}
use Rattle.areas.specs.Areas.{area}
use Rattle.reasons.specs.Readable.{text_count, HasText}
use Rattle.areas.proofs.Laws as areas
use Rattle.engine_spec.proofs.Lists.{Each}
use Rattle.engine_spec.specs.Words.{texts_in}
use Rattle.engine_spec.proofs.Validated.{accepted_few}
use Rattle.lint_spec.specs.Findings.{Entry, at_place, cycles, entries, rule_entries}
use Rattle.lint_spec.specs.Lint as definition
use Rattle.lint_spec.specs.Lint.{finding_in, interaction_in, overflow, by_id}
use Rattle.lint_spec.specs.Touches.{reads_of, writes_of}
use Rattle.lint_spec.specs.Words.{ids_set, Worded, names_in, ids_in}
use Rattle.lint_spec.specs.Memory.{Lent, lent, zeros, Both, Holds, Leaves}
use Rattle.lint_reach.specs.declared.Components.{Components}
use Rattle.lint_reach.specs.Sets.{members}
use Rattle.lint_areas.specs.Areas.{Item, Board, board, pushes}
use Rattle.lint_areas.specs.Filled.{exactly, findings_of, interactions_of, over}
use Rattle.lint_areas.proofs.Holds.{Shaped, Holding, Ends, all_in, no_place, ends}
use Rattle.lint_areas.proofs.Laws.{next}
use Rattle.lint_findings.specs.Entries.{items_numbers_m}
use Rattle.lint_collect.specs.Collect.{rule_at, rules_items, opposing_items, cycles_items, Lints}
use Rattle.lint_collect.specs.declared.Linted.{Linted}
use Rattle.lint_undeclared.specs.declared.Undeclared.{Undeclared}
use Rattle.lint_undeclared.specs.Undeclared.{undeclared_m}
use Rattle.lint_notes.specs.Notes.{AllNotes}
use Rattle.lint_refinement.specs.Context.{names_of}
use Rattle.lint_spec.specs.Numbers.{padded, stranger_places, stranger_readers}
use Rattle.lint_refinement.proofs.Columns.{names_are, ids_are, bounds, texts_are, ascends, texts_once}
use Rattle.lint_refinement.proofs.Agree.{
  agree_append,
  agree_numbers,
  agree_shaped,
  agree_over,
  agree_findings,
  agree_interactions,
}
use Rattle.lint_refinement.proofs.FileFacts.{Stage, no_rule, nth}
use Rattle.lint_refinement.proofs.FactsHold.{staged}
use Rattle.lint_refinement.proofs.Rules.{names, ids, Agrees, rule_agrees}
use Rattle.lint_refinement.proofs.Pairs.{opposing_agrees}
use Rattle.lint_refinement.proofs.Cycled.{
  each_each,
  each_same,
  found_rules,
  cycle_set,
  sets_long,
  sets_below,
  cycles_listed,
  cycles_agree,
}
use Rattle.lint_refinement.proofs.Noted.{Noted, all_noted}
use Rattle.lint_refinement.proofs.Packed.{packed, undeclared_packed}
use Rattle.lint_refinement.proofs.ById.{fill_padded, first_taken, every, reads_row, writes_row, places_row, readers_row}
use Rattle.lint_entry.specs.declared.Report.{Report}
use Rattle.lint_entry.specs.Contract.{no_lint, Shows, Says, lint_of, Answers}
use Rattle.lint_entry.specs.Promises.{first_m, read_sets, write_sets, Bounds, Inserts, Tells, AnswersAs}
use Rattle.lint_entry.proofs.Held.{
  Long,
  pushes_long,
  found_area,
  between_area,
  both_long,
  overflow_numbers,
  texts_few,
  texts_counted,
}

each_self : (l : List ℕ) → each (λ x. x) l ≡ l
unfolding each
each_self [] = refl
each_self (x ∷ l) = ap (λ (y : List ℕ). x ∷ y) (each_self l)

module _ (s : List ℕ) (i : Index) (bytes : (k : ℕ) → get_or s k 0 < 256) (m : Model) (acc : accepted s ≡ answer m)
    (o : Indexed s i m) where
  abbrev d : Rattle.lint_conditions.specs.declared.Names.Names
  d = names_of s i

  abbrev rs : Rattle.model_parts.specs.declared.Section.Section
  rs = i.rules

  abbrev ts : List Text
  ts = o.ts

  st : Stage s (names_of s i) i.rules o.ts m
  st = staged s i m acc o

  few_texts : length o.ts ≤ 65535
  few_texts = omega (arith, texts_few s o.ts o.all_texts.0 o.all_texts.1, (accepted_few s m acc).0)

  texts_are_counted : text_count s ≡ length o.ts
  texts_are_counted = texts_counted s o.ts o.all_texts.0 o.all_texts.1

  -- the title is one of the texts
  has_text : HasText s
  has_text = record { bytes = bytes; some = omega (arith, texts_are_counted, (place_found o.ts o.title.1).is_in) }

  -- ---- the definition's answer

  abbrev found : List Entry
  found = entries m.scenario m.rules

  abbrev answered : definition.Lint
  answered = record {
    findings = flat finding_in (entries m.scenario m.rules);
    interactions = flat interaction_in (entries m.scenario m.rules);
    components = each (each (λ r. r.id)) (cycles m.rules);
    reads = by_id reads_of m.rules;
    writes = by_id writes_of m.rules;
  }

  lint_is : (f k : ℕ) (v : Option ℕ) → overflow found f k ≡ v →
      definition.lint f k s ≡ elim v [ some n ↦ refused n | none ↦ answer answered ]
  unfolding definition.lint definition.linted ◌>>=◌
  lint_is f k v e =
      ap (λ (a : Answer Model). a >>= definition.linted f k) acc
      ∙ ap (λ (x : Option ℕ). elim x [ some n ↦ refused n | none ↦ answer answered ]) e

  -- ---- the insertions

  module _ (F I : List ℕ) (l : Linted) (c e : Board) where
    abbrev start : Board
    start = board (replicate (length F) 0) (replicate (length I) 0) (record { findings = 0; interactions = 0; refusal = 0 })

    module _ (li : Lints s (names_of s i) i.rules start l c) (nt : AllNotes s i.rules i.rules.count 0 c e) where
      noted : Noted st (accepted_few s m acc).0 few_texts texts_are_counted (placed_text s o.all_texts.1)
          (accepted_few s m acc).1 has_text m.rules c e
      noted =
          all_noted st (accepted_few s m acc).0 few_texts texts_are_counted (placed_text s o.all_texts.1)
          (accepted_few s m acc).1 has_text nt

      abbrev first : List Item
      first = rules_items s d rs ++ opposing_items s d rs ++ cycles_items s d.entities rs l.found

      items : List Item
      items = first ++ noted.items

      inserted : e ≡ pushes items start
      unfolding items
      inserted = next first noted.items start li.inserted noted.inserted

      rules_agree : Agrees st (flat (rule_entries m.scenario m.rules) m.rules) (rules_items s d rs)
      unfolding rules_items
      rules_agree =
          subst (λ (n : ℕ). Agrees st (flat (rule_entries m.scenario m.rules) m.rules)
          (items_numbers_m (rule_at s d rs) n 0)) (sym st.rules.counts)
          (agree_numbers s (names st) (ids st) (rule_at s d rs) (rule_entries m.scenario m.rules) no_rule m.rules 0
          (λ j h. let z : 0 + j ≡ j = omega arith in rw z (rule_agrees st j h)))

      agrees : Agrees st found items
      unfolding entries items
      agrees =
          agree_append s (names st) (ids st)
          (agree_append s (names st) (ids st) (agree_append s (names st) (ids st) rules_agree (opposing_agrees st))
          (cycles_agree st l.found li.components))
          noted.agrees

      shaped : Shaped items
      shaped = agree_shaped s (names st) (ids st) agrees

      holding : Holding start [] []
      holding = record {
        findings = sym (ap (λ (n : ℕ). area (exactly 14) n []) (length-replicate (length F) 0)
            ∙ areas.area_none (exactly 14) (length F));
        interactions = sym (ap (λ (n : ℕ). area (exactly 3) n []) (length-replicate (length I) 0)
            ∙ areas.area_none (exactly 3) (length I));
        many_findings = refl;
        many_interactions = refl;
      }

      ended : Ends items start [] [] (overflow found (length F / 14) (length I / 3))
      ended =
          let a : length start.findings / 14 - start.out.findings ≡ length F / 14 =
          omega (arith, ap (λ (n : ℕ). n / 14) (length-replicate {A = ℕ} (length F) 0)) in
          let b : length start.interactions / 3 - start.out.interactions ≡ length I / 3 =
          omega (arith, ap (λ (n : ℕ). n / 3) (length-replicate {A = ℕ} (length I) 0)) in
          subst (Ends items start [] []) (agree_over s (names st) (ids st) agrees (length F / 14) (length I / 3))
          (subst (λ (n : ℕ). Ends items start [] [] (over items (length F / 14) n)) b
          (subst (λ (n : ℕ). Ends items start [] [] (over items n
          (length start.interactions / 3 - start.out.interactions))) a
          (ends items start [] [] shaped holding refl)))

      long : Long start e
      long = subst (Long start) (sym inserted) (pushes_long shaped start)

      -- ---- all entries have their place

      module _ (h : Holding e (findings_of items) (interactions_of items)) where
        held : Holds s answered (lent F I) (lent e.findings e.interactions)
        held = record {
          words = findings_of items;
          are_words =
              subst (λ (n : List Text). Both (Worded s n (ids_in s)) (flat finding_in found) (findings_of items))
              (sym (names_are s m acc))
              (subst (λ (n : List Text). Both (Worded s (names st) n) (flat finding_in found) (findings_of items))
              (sym (ids_are s m acc)) (agree_findings s (names st) (ids st) agrees));
          findings =
              h.findings
              ∙ ap (λ (n : ℕ). area (exactly 14) n (findings_of items)) (long.findings ∙ length-replicate (length F) 0)
              ∙ found_area shaped (length F);
          interactions =
              h.interactions
              ∙ ap (λ (n : ℕ). area (exactly 3) n (interactions_of items))
              (long.interactions ∙ length-replicate (length I) 0)
              ∙ ap (area (exactly 3) (length I)) (agree_interactions s (names st) (ids st) agrees)
              ∙ between_area (names st) (ids st) (flat interaction_in found) (length I)
              ∙ ap (λ (n : List Text). area (Rattle.lint_spec.specs.Words.interaction_words n (ids st)) (length I)
              (flat interaction_in found)) (sym (names_are s m acc))
              ∙ ap (λ (n : List Text). area (Rattle.lint_spec.specs.Words.interaction_words (names_in s) n) (length I)
              (flat interaction_in found)) (sym (ids_are s m acc));
        }

        abbrev sets : List ℕ
        sets = take l.found.count l.found.sets

        few_sets : l.found.count ≤ 32
        few_sets = omega (arith, li.components.few, (bounds s m acc i o).rules)

        component_sets : each (ids_set (names st) (ids st)) (each (each (λ r. r.id)) (cycles m.rules)) ≡ sets
        component_sets =
            let both_facts : ℕ → Type 0 = λ x. (x < 2 ^ 32) × Each (λ (i : ℕ). i < length m.rules) (members x) in
            ap (λ (y : List (List Automation)). each (ids_set (names st) (ids st)) (each (each (λ r. r.id)) y))
            (cycles_listed st l.found li.components)
            ∙ ap (each (ids_set (names st) (ids st))) (each_each (each (λ r. r.id))
            (λ x. flat (at_place m.rules) (members x)) sets)
            ∙ each_each (ids_set (names st) (ids st)) (λ x. each (λ r. r.id) (flat (at_place m.rules) (members x))) sets
            ∙ each_same both_facts (λ x. ids_set (names st) (ids st)
            (each (λ r. r.id) (flat (at_place m.rules) (members x)))) (λ x. x)
            (λ x f. ap (λ (y : List Automation). ids_set (names st) (ids st) (each (λ r. r.id) y))
            (found_rules st x f.0 f.1) ∙ sym (cycle_set st x f.0 f.1)) sets
            (every both_facts sets
            (λ j b. (
              li.components.small j,
              nth (λ (x : ℕ). Each (λ (i : ℕ). i < length m.rules) (members x)) 0 sets
                  (sets_below st l.found li.components) j b,
            )))
            ∙ each_self sets

        many_components : l.found.count ≡ length (each (each (λ r. r.id)) (cycles m.rules))
        many_components = sym (
            length_each (each (λ r. r.id)) (cycles m.rules)
            ∙ ap length (cycles_listed st l.found li.components)
            ∙ length_each (λ x. flat (at_place m.rules) (members x)) sets
            ∙ sets_long st l.found li.components)

        undeclared_is : undeclared_m s i.entities i.rules i.texts.count
            ≡ packed (stranger_places (texts_in s) (names_in s) (ids_in s) (by_id reads_of m.rules))
            (stranger_readers (names_in s) (ids_in s) (by_id reads_of m.rules))
        unfolding names_of
        undeclared_is =
            ap (undeclared_m s i.entities i.rules) o.each_text.counts
            ∙ undeclared_packed st (ascends s i m o) (texts_once s i m o) (accepted_few s m acc).1
            ∙ sym (
            ap (λ (t : List Text). packed (stranger_places t (names_in s) (ids_in s) (by_id reads_of m.rules))
            (stranger_readers (names_in s) (ids_in s) (by_id reads_of m.rules))) (texts_are s i m o)
            ∙ ap (λ (t : List Text). packed (stranger_places ts t (ids_in s) (by_id reads_of m.rules))
            (stranger_readers t (ids_in s) (by_id reads_of m.rules))) (names_are s m acc)
            ∙ ap (λ (t : List Text). packed (stranger_places ts (names st) t (by_id reads_of m.rules))
            (stranger_readers (names st) t (by_id reads_of m.rules))) (ids_are s m acc)
            ∙ ap (λ (x : List ℕ). packed x (stranger_readers (names st) (ids st) (by_id reads_of m.rules)))
            (places_row st)
            ∙ ap (packed _) (readers_row st))

        shows : (r : Report) → Tells s i e.out l.found r → Shows s r answered
        unfolding first_m read_sets write_sets names_of packed
        shows r t = record {
          accepted = t.accepted;
          findings = t.findings ∙ h.many_findings ∙ both_long (agree_findings s (names st) (ids st) agrees);
          interactions = t.interactions ∙ h.many_interactions ∙ ap length (agree_interactions s (names st) (ids st) agrees)
              ∙ length_each _ (flat interaction_in found);
          components = t.components ∙ many_components;
          cycles =
              t.cycles
              ∙ fill_padded (λ k. get_or l.found.sets k 0) l.found.count few_sets
              ∙ ap (padded 32) (first_taken l.found.sets l.found.count
              (omega (arith, few_sets, li.components.long)) ∙ sym component_sets)
              ∙ ap (λ (n : List Text). padded 32 (each (ids_set n (ids st)) (each (each (λ r. r.id)) (cycles m.rules))))
              (sym (names_are s m acc))
              ∙ ap (λ (n : List Text). padded 32 (each (ids_set (names_in s) n)
              (each (each (λ r. r.id)) (cycles m.rules)))) (sym (ids_are s m acc));
          reads =
              t.reads
              ∙ fill_padded _ i.rules.count (bounds s m acc i o).rules
              ∙ ap (padded 32) (sym (reads_row st))
              ∙ ap (λ (n : List Text). padded 32
              (each (λ id. Rattle.lint_spec.specs.Numbers.declared_set n
              (Rattle.lint_spec.specs.Numbers.entities_of (by_id reads_of m.rules) id)) (ids st)))
              (sym (names_are s m acc))
              ∙ ap (λ (n : List Text). padded 32
              (each (λ id. Rattle.lint_spec.specs.Numbers.declared_set (names_in s)
              (Rattle.lint_spec.specs.Numbers.entities_of (by_id reads_of m.rules) id)) n))
              (sym (ids_are s m acc));
          writes =
              t.writes
              ∙ fill_padded _ i.rules.count (bounds s m acc i o).rules
              ∙ ap (padded 32) (sym (writes_row st))
              ∙ ap (λ (n : List Text). padded 32
              (each (λ id. Rattle.lint_spec.specs.Numbers.declared_set n
              (Rattle.lint_spec.specs.Numbers.entities_of (by_id writes_of m.rules) id)) (ids st)))
              (sym (names_are s m acc))
              ∙ ap (λ (n : List Text). padded 32
              (each (λ id. Rattle.lint_spec.specs.Numbers.declared_set (names_in s)
              (Rattle.lint_spec.specs.Numbers.entities_of (by_id writes_of m.rules) id)) n))
              (sym (ids_are s m acc));
          undeclared = t.undeclared ∙ ap (λ (u : Undeclared). u.count) undeclared_is;
          names = t.names ∙ ap (λ (u : Undeclared). u.names) undeclared_is;
          readers = t.readers ∙ ap (λ (u : Undeclared). u.readers) undeclared_is;
        }

      -- ---- the two ends

      answers_by : (r : Report) (a : Lent) (v : Option ℕ) → overflow found (length F / 14) (length I / 3) ≡ v →
          Says s r (elim v [ some n ↦ refused n | none ↦ answer answered ]) →
          Leaves s (elim v [ some n ↦ refused n | none ↦ answer answered ]) (lent F I) a → Answers s r (lent F I) a
      unfolding lint_of
      answers_by r a v z f g = record {
        says = subst (Says s r) (sym (lint_is (length F / 14) (length I / 3) v z)) f;
        memory = subst (λ (x : Answer definition.Lint). Leaves s x (lent F I) a)
            (sym (lint_is (length F / 14) (length I / 3) v z)) g;
      }

      refusal_is : {n : ℕ} → (pushes items start).out.refusal ≡ n → e.out.refusal ≡ n
      refusal_is z = ap (λ (b : Board). b.out.refusal) inserted ∙ z

      number_not : (n : ℕ) → (n ≡ 45) ⊎ (n ≡ 46) → n ≡ 0 → ⊥
      number_not n (inl a) z = omega arith
      number_not n (inr a) z = omega arith

      pub finished : e.out.refusal ≡ 0 → (r : Report) → Tells s i e.out l.found r →
          Answers s r (lent F I) (lent e.findings e.interactions)
      finished z r t = by (overflow found (length F / 14) (length I / 3)) refl ended
        where
          by : (v : Option ℕ) → overflow found (length F / 14) (length I / 3) ≡ v → Ends items start [] [] v →
              Answers s r (lent F I) (lent e.findings e.interactions)
          by none y (all_in h k) =
              let q : Holding e (findings_of items) (interactions_of items) =
              subst (λ (b : Board). Holding b (findings_of items) (interactions_of items)) (sym inserted) h in
              answers_by r (lent e.findings e.interactions) none y (shows q r t) (held q)
          by (some n) y (no_place x k) =
              absurd (number_not n (overflow_numbers found (length F / 14) (length I / 3) n y) (sym (refusal_is k) ∙ z))

      pub stopped : (e.out.refusal ≡ 0 → ⊥) → (r : Report) → r ≡ no_lint e.out.refusal → (a : Lent) →
          a ≡ zeros (lent F I) → Answers s r (lent F I) a
      stopped z r t a w = by (overflow found (length F / 14) (length I / 3)) refl ended
        where
          zeroed : (n : ℕ) → (n ≡ 45) ⊎ (n ≡ 46) → a ≡ (if eqb n 45 || eqb n 46 then zeros (lent F I) else lent F I)
          zeroed n (inl y) = rw y w
          zeroed n (inr y) = rw y w

          by : (v : Option ℕ) → overflow found (length F / 14) (length I / 3) ≡ v → Ends items start [] [] v →
              Answers s r (lent F I) a
          by none y (all_in h k) = absurd (z (refusal_is k))
          by (some n) y (no_place x k) = answers_by r a (some n) y (t ∙ ap no_lint (refusal_is k))
              (zeroed n (overflow_numbers found (length F / 14) (length I / 3) n y))

-- ---- a file that is refused

pub turned_down : (s : List ℕ) (k : ℕ) → accepted s ≡ refused k → (F I : List ℕ) (r : Report) → r ≡ no_lint k →
    Answers s r (lent F I) (lent F I)
unfolding lint_of definition.lint ◌>>=◌
turned_down s k e F I r t = record {
  says = subst (Says s r) (sym is) t;
  memory = subst (λ (x : Answer definition.Lint). Leaves s x (lent F I) (lent F I)) (sym is)
      (as_it_came (subst (Refuses Refusal) e (refusal_numbers s)));
}
  where
    is : definition.lint (length F / 14) (length I / 3) s ≡ refused k
    is = ap (λ (a : Answer Model). a >>= definition.linted (length F / 14) (length I / 3)) e

    other : (n : ℕ) → (k ≡ n → ⊥) → eqb k n ≡ false
    other n h = ne_eqb k n h

    as_it_came : Refusal k → lent F I ≡ (if eqb k 45 || eqb k 46 then zeros (lent F I) else lent F I)
    as_it_came (inl h) = let a = h.0 in let b = h.1 in rw (other 45 (λ z. omega arith), other 46 (λ z. omega arith))
    as_it_came (inr (inl h)) =
        let a = h.0 in let b = h.1 in rw (other 45 (λ z. omega arith), other 46 (λ z. omega arith))
    as_it_came (inr (inr h)) =
        let a = h.0 in let b = h.1 in rw (other 45 (λ z. omega arith), other 46 (λ z. omega arith))

-- ---- as the code has it

module _ (s : List ℕ) (i : Index) (bytes : (k : ℕ) → get_or s k 0 < 256) (F I : List ℕ) (l : Linted) (f k : List ℕ)
    (h : Inserts s i F I l (board f k l.out)) (m : Model) (acc : accepted s ≡ answer m) (o : Indexed s i m) where
  after_long : Long (board (replicate (length F) 0) (replicate (length I) 0)
      (record { findings = 0; interactions = 0; refusal = 0 })) (board f k l.out)
  after_long = long s i bytes m acc o F I h.first h.between (board f k l.out) h.entries h.notes

  pub complete : (l.out.refusal ≡ 0) → (r : Report) → Tells s i l.out l.found r → Answers s r (lent F I) (lent f k)
  complete z r t =
      finished s i bytes m acc o F I h.first h.between (board f k l.out) h.entries h.notes z r
      (subst (λ (c : Components). Tells s i l.out c r) h.found t)

  pub too_many : (l.out.refusal ≡ 0 → ⊥) → (r : Report) → r ≡ no_lint l.out.refusal → (x y : List ℕ) →
      (x ≡ replicate (length f) 0) × (y ≡ replicate (length k) 0) → Answers s r (lent F I) (lent x y)
  unfolding zeros
  too_many z r t x y w =
      let a = after_long.findings ∙ length-replicate {A = ℕ} (length F) 0 in
      let b = after_long.interactions ∙ length-replicate {A = ℕ} (length I) 0 in
      stopped s i bytes m acc o F I h.first h.between (board f k l.out) h.entries h.notes z r t (lent x y)
      (ap (λ (v : List ℕ). lent v y) (w.0 ∙ ap (λ (n : ℕ). replicate n 0) a)
      ∙ ap (lent (replicate (length F) 0)) (w.1 ∙ ap (λ (n : ℕ). replicate n 0) b))

pub accepted_bounds : (s : List ℕ) (x : File) → ReadSays s x (accepted s) → x.status ≡ status.Read → Bounds x.index
accepted_bounds s x f e = let r = accept_read s x f e in bounds s r.0 r.1.0 x.index r.1.1

pub accepted_answers : (s : List ℕ) (x : File) → ReadSays s x (accepted s) → x.status ≡ status.Read →
    {r : Report} {F I : List ℕ} {a : Lent} → AnswersAs s x.index r (lent F I) a → Answers s r (lent F I) a
accepted_answers s x f e h = let r = accept_read s x f e in h r.0 r.1.0 r.1.1

pub refused_answers : (s : List ℕ) (x : File) → ReadSays s x (accepted s) → {k : ℕ} → x.status ≡ status.Refused k →
    {r : Report} → r ≡ no_lint k → (F I : List ℕ) → Answers s r (lent F I) (lent F I)
refused_answers s x f {k} e {r} t F I = turned_down s k (accept_refused s x f e) F I r t
