-- The items of the components stand for the definition's cycles.
use Rattle.std.specs.Prelude.{if◌then◌else◌}
use mathlib.Core.Path.{◌≡◌, refl, sym, ap, ◌∙◌, subst}
use mathlib.Core.Bool.{Bool, true, false, ◌||◌, ◌&&◌, not, or_assoc}
use mathlib.Core.List.{List, [], ◌∷◌, ◌++◌, append-nil}
use mathlib.Core.Option.{Option, none, some}
use Prim.Native.Nat.{ℕ, zero, suc, ◌+◌, ◌-◌, ◌^◌, ◌≤◌, ◌<◌}
use native.Mathlib.Omega.{arith}
use native.Mathlib.Decide.{dec_lt}
use native.Mathlib.Nat.{add-zero, zero-add}
use lib.Bits.{bit_or}
use lib.Dec.{eqb, ltb}
use lib.ListN.{length, get_or, take}
use lib.Seq.{get_or-take, length-take-le}
use borrow.Author.Tests.{lt-ltb, le-ltb}
use Rattle.texts.proofs.Bool.{or_false}
use Rattle.engine_spec.proofs.Bounds.{length_each}
use Rattle.texts.specs.Lists.{any, listed, keep, each, flat, through}
use Rattle.texts.specs.Texts.{Text, mem_t}
use Rattle.texts.proofs.Ordering.{not_both}
use Rattle.model_spec.specs.Model.{Automation, Model}
use Rattle.model_walk.proofs.Found.{Case, is_true, is_false, case}
use Rattle.model_parts.specs.declared.Section.{Section}
use Rattle.engine_spec.proofs.Lists.{Each}
use Rattle.model_spec.specs.Rewrite.{place_of}
use Rattle.lint_spec.specs.Reach.{Square, places, square, by_way_of, closure, component, components_among, components}
use Rattle.lint_spec.specs.Reach as reach
use Rattle.lint_spec.specs.Touches.{Action, Write, write, written_by, writes_of}
use Rattle.lint_spec.specs.Touches as touches
use Rattle.lint_spec.specs.Findings.{
  trigger_cycle,
  Entry,
  rank_name,
  sets_off,
  highest,
  cycle_entry,
  leads_to,
  at_place,
  cycles,
}
use Rattle.lint_spec.specs.Findings as findings
use Rattle.lint_spec.specs.Words.{
  set_of,
  code_number,
  certainty_number,
  tier_number,
  source_words,
  sources_of,
  entity_number,
  ids_set,
  finding_words,
  plain,
}
use Rattle.lint_spec.specs.Memory.{neither, both}
use Rattle.lint_reach.specs.Cycles.{Copies, Cycles}
use Rattle.lint_reach.specs.declared.Components.{Components}
use Rattle.lint_reach.specs.Sets.{holds, members}
use Rattle.lint_reach.specs.Steps.{cell}
use Rattle.lint_reach.proofs.Bits.{holds_or, holds_none, keep_none, keep_append, places_more}
use Rattle.lint_walk.specs.Raw.{place_m, past, kind_m}
use Rattle.lint_walk.specs.Walks.{walk_m}
use Rattle.lint_walk.proofs.Found.{ActionAt}
use Rattle.lint_walk.proofs.Refines.{ActionsAt, no_action, action}
use Rattle.lint_access.specs.Names.{name_at}
use Rattle.lint_access.specs.Sets.{writes_m}
use Rattle.lint_access.proofs.Rising.{mem_none, mem_append}
use Rattle.lint_conditions.specs.declared.Names.{Names}
use Rattle.lint_conditions.specs.Conditions.{any_list_m, leads_m}
use Rattle.lint_conditions.proofs.Refines.{leads_agrees, or_is}
use Rattle.lint_areas.specs.Areas.{Item}
use Rattle.lint_findings.specs.Entries.{items_numbers_m, value_m}
use Rattle.lint_collect.specs.Collect.{action_leads_m, leads_to_m, edges_m, cycle_writes_from, cycle_writes_m, cycle_m, cycles_items}
use Rattle.lint_collect.proofs.Array.{edges_copy}
use Rattle.lint_refinement.proofs.Sets.{set_members, places_at}
use Rattle.lint_refinement.proofs.Agree.{Stands, as_finding, agree_numbers}
use Rattle.lint_refinement.proofs.Tiers.{highest_word}
use Rattle.lint_refinement.proofs.Accepted.{FineA}
use Rattle.lint_refinement.proofs.FileFacts.{
  Stage,
  no_rule,
  each_at,
  nth,
  rule_start,
  rule_of,
  rule_at_lem,
  legal_at,
  walked_at,
}
use Rattle.lint_refinement.proofs.Rules.{es, names, ids, Agrees, Writes, writes, others, write_at, writes_held}

-- ---- lists

any_append : {A : Type 0} (p : A → Bool) (l m : List A) → any p (l ++ m) ≡ (any p l || any p m)
unfolding any
any_append p [] m = refl
any_append p (x ∷ l) m = ap (λ (b : Bool). p x || b) (any_append p l m) ∙ sym (or_assoc (p x) (any p l) (any p m))

pub any_flat : {A B : Type 0} (p : B → Bool) (g : A → List B) (l : List A) → any p (flat g l) ≡ any (λ a. any p (g a)) l
unfolding any flat
any_flat p g [] = refl
any_flat p g (x ∷ l) = any_append p (g x) (flat g l) ∙ ap (λ (b : Bool). any p (g x) || b) (any_flat p g l)

each_back : {A B : Type 0} (P : B → Type 0) (f : A → B) (l : List A) → Each P (each f l) → Each (λ (x : A). P (f x)) l
unfolding each
each_back P f [] h = tt
each_back P f (x ∷ l) h = (h.0, each_back P f l h.1)

each_kept : {A : Type 0} (P : A → Type 0) (p : A → Bool) (l : List A) → Each P l → Each P (keep p l)
unfolding keep
each_kept P p [] h = tt
each_kept P p (x ∷ l) h = cases (p x) (each_kept P p l h.1)
  where
    cases : (b : Bool) → Each P (keep p l) → Each P (if b then x ∷ keep p l else keep p l)
    cases true ih = (h.0, ih)
    cases false ih = ih

pub each_flat : {A B : Type 0} (f : A → B) (l : List A) → each f l ≡ flat (λ x. f x ∷ []) l
unfolding each flat
each_flat f [] = refl
each_flat f (x ∷ l) = ap (λ (y : List _). f x ∷ y) (each_flat f l)

pub each_each : {A B C : Type 0} (f : B → C) (g : A → B) (l : List A) → each f (each g l) ≡ each (λ x. f (g x)) l
unfolding each
each_each f g [] = refl
each_each f g (x ∷ l) = ap (λ (y : List _). f (g x) ∷ y) (each_each f g l)

pub each_same : {A B : Type 0} (P : A → Type 0) (f g : A → B) → ((x : A) → P x → f x ≡ g x) → (l : List A) → Each P l →
    each f l ≡ each g l
unfolding each
each_same P f g h [] k = refl
each_same P f g h (x ∷ l) k = ap (λ (y : _). y ∷ each f l) (h x k.0)
    ∙ ap (λ (y : List _). g x ∷ y) (each_same P f g h l k.1)

-- ---- the places of components

places_below : (n k : ℕ) → Each (λ (i : ℕ). i < k + n) (places n k)
unfolding places
places_below zero k = tt
places_below (suc n) k =
    let z : k + 1 + n ≡ k + suc n = omega arith in
    (omega arith, subst (λ (x : ℕ). Each (λ (i : ℕ). i < x) (places n (k + 1))) z (places_below n (k + 1)))

component_below : (sq : Square) (i : ℕ) → Each (λ (j : ℕ). j < length sq) (component sq i)
unfolding component
component_below sq i =
    each_kept (λ (j : ℕ). j < length sq) (λ j. reach.cell sq i j && reach.cell sq j i) (places (length sq) 0)
    (let z : 0 + length sq ≡ length sq = omega arith in
    subst (λ (x : ℕ). Each (λ (j : ℕ). j < x) (places (length sq) 0)) z (places_below (length sq) 0))

from_below : (sq : Square) (assigned l : List ℕ) → Each (Each (λ (j : ℕ). j < length sq)) (components_among sq assigned l)
unfolding components_among
from_below sq assigned [] = tt
from_below sq assigned (i ∷ l) = cases (any (eqb i) assigned || not (reach.cell sq i i)) (from_below sq assigned l)
    (from_below sq (assigned ++ component sq i) l)
  where
    cases : (b : Bool) → Each (Each (λ (j : ℕ). j < length sq)) (components_among sq assigned l) →
        Each (Each (λ (j : ℕ). j < length sq)) (components_among sq (assigned ++ component sq i) l) →
        Each (Each (λ (j : ℕ). j < length sq)) (elim b [
          | true ↦ components_among sq assigned l
          | false ↦
              component sq i ∷ components_among sq (assigned ++ component sq i) l
        ])
    cases true f g = f
    cases false f g = (component_below sq i, g)

components_below : (sq : Square) → Each (Each (λ (j : ℕ). j < length sq)) (components sq)
unfolding components
components_below sq = from_below sq [] (places (length sq) 0)

pub places_long : (n k : ℕ) → length (places n k) ≡ n
unfolding places
places_long zero k = refl
places_long (suc n) k = ap suc (places_long n (k + 1))

way_long : (k : ℕ) (sq : Square) → length (by_way_of k sq) ≡ length sq
unfolding by_way_of square
way_long k sq =
    length_each (λ i. each (λ j. reach.cell sq i j || reach.cell sq i k && reach.cell sq k j) (places (length sq) 0))
    (places (length sq) 0) ∙ places_long (length sq) 0

closed_long : (l : List ℕ) (sq : Square) → length (through by_way_of l sq) ≡ length sq
unfolding through
closed_long [] sq = refl
closed_long (k ∷ l) sq = closed_long l (by_way_of k sq) ∙ way_long k sq

closure_long : (sq : Square) → length (closure sq) ≡ length sq
unfolding closure
closure_long sq = closed_long (places (length sq) 0) sq

-- what holds of those that are kept
kept_one : (P : ℕ → Type 0) (f : ℕ → Bool) (n i : ℕ) → Each P (keep f (places n i)) → (k : ℕ) → i ≤ k → k < i + n →
    f k ≡ true → P k
unfolding keep places
kept_one P f zero i h k a b c = absurd (omega arith)
kept_one P f (suc n) i h k a b c = cases (case (f i)) h (λ g x. kept_one P f n (i + 1) g k x (omega arith) c)
  where
    cases : Case (f i) → Each P (if f i then i ∷ keep f (places n (i + 1)) else keep f (places n (i + 1))) →
        (Each P (keep f (places n (i + 1))) → i + 1 ≤ k → P k) → P k
    cases (is_true z) g ih =
        let y : Each P (i ∷ keep f (places n (i + 1))) = rw z at g in
        elim (dec_lt i k) [ yes x ↦ ih y.1 (omega arith) | no x ↦ let w : i ≡ k = omega arith in subst P w y.0 ]
    cases (is_false z) g ih =
        let y : Each P (keep f (places n (i + 1))) = rw z at g in
        elim (dec_lt i k) [
          | yes x ↦ ih y (omega arith)
          | no x ↦ let w : i ≡ k = omega arith in
              absurd (not_both (ap f (sym w) ∙ z) c)
        ]

-- a set whose members are below n
pub members_upto : (set n : ℕ) → n ≤ 32 → Each (λ (i : ℕ). i < n) (members set) → members set ≡ keep (holds set) (places n 0)
unfolding members
members_upto set n h k =
    let z : 32 ≡ n + (32 - n) = omega arith in
    ap (λ (x : ℕ). keep (holds set) (places x 0)) z
    ∙ ap (keep (holds set)) (places_more n (32 - n) 0)
    ∙ keep_append (holds set) (places n 0) (places (32 - n) (0 + n))
    ∙ ap (λ (l : List ℕ). keep (holds set) (places n 0) ++ l)
    (keep_none (holds set) (32 - n) (0 + n) (λ j a b. no j (omega arith) (omega arith) (case (holds set j))))
    ∙ append-nil (keep (holds set) (places n 0))
  where
    no : (j : ℕ) → n ≤ j → j < 32 → Case (holds set j) → holds set j ≡ false
    no j a b (is_true y) = let x = kept_one (λ (i : ℕ). i < n) (holds set) 32 0 k j (omega arith) (omega arith) y in
        absurd (omega arith)
    no j a b (is_false y) = y

at_one : (l : List Automation) (i : ℕ) → i < length l → at_place l i ≡ get_or l i no_rule ∷ []
unfolding at_place
at_one [] i h = absurd (omega arith)
at_one (r ∷ l) zero h = refl
at_one (r ∷ l) (suc i) h = at_one l i (omega arith)

at_places : (l : List Automation) (ns : List ℕ) → Each (λ (i : ℕ). i < length l) ns →
    flat (at_place l) ns ≡ each (λ i. get_or l i no_rule) ns
unfolding flat each
at_places l [] h = refl
at_places l (n ∷ ns) h = rw (at_one l n h.0) (ap (λ (y : List Automation). get_or l n no_rule ∷ y) (at_places l ns h.1))

-- ---- edges

module _ {s : List ℕ} {d : Names} {rs : Section} {ts : List Text} {m : Model} (st : Stage s d rs ts m) where
  abbrev n : ℕ
  n = length m.rules

  pub any_over : (f : ℕ → Bool) (g : Action → Bool) →
      ((p : ℕ) (a : Action) → ActionAt ts s p a → FineA (es st) a → f p ≡ g a) →
      (l : List ℕ) (k : ℕ) (ps : List ℕ) (acts : List Action) → ((i : ℕ) → i < length ps → get_or l (k + i) 0 ≡ get_or ps i 0) →
      ActionsAt ts s ps acts → Each (FineA (es st)) acts → any_list_m f l (length ps) k ≡ any g acts
  unfolding any_list_m any
  any_over f g h l k ps acts e no_action fine = refl
  any_over f g h l k ps acts e (action {p} {a} {ps = qs} {l = rest} x y) fine =
      let z : get_or l k 0 ≡ p = ap (λ (i : ℕ). get_or l i 0) (sym (add-zero k)) ∙ e 0 (omega arith) in
      or_is (f (get_or l k 0)) (any_list_m f l (length qs) (k + 1))
      ∙ ap (λ (b : Bool). b || any_list_m f l (length qs) (k + 1)) (ap f z ∙ h p a x fine.0)
      ∙ ap (λ (b : Bool). g a || b) (any_over f g h l (k + 1) qs rest
      (λ i b. ap (λ (o : ℕ). get_or l o 0) (omega arith) ∙ e (suc i) (omega arith)) y fine.1)

  leads_one : (j : ℕ) → j < n → (p : ℕ) (a : Action) → ActionAt ts s p a → FineA (es st) a →
      action_leads_m s d.star (rule_start st j) p ≡ any (λ w. any (sets_off w) (rule_of st j).triggers)
      (listed (write a.source a.effect))
  unfolding action_leads_m listed any
  leads_one j h p a at fine = cases (write a.source a.effect) (write_at st p a at fine)
    where
      cases : (o : Option Write) → Writes st p o → (if ltb 1 (kind_m s p) then false
          else leads_m s d.star (place_m s (past s p 9)) (value_m s d.star p) (rule_start st j))
          ≡ any (λ w. any (sets_off w) (rule_of st j).triggers) (listed o)
      cases (some w) (writes f) =
          rw (le-ltb 1 (kind_m s p) f.kind) (
          ap (λ (x : ℕ). leads_m s d.star x (value_m s d.star p) (rule_start st j)) f.at_entity
          ∙ leads_agrees s ts st.grounds.same d.star f.x (value_m s d.star p) (rule_start st j) w (rule_of st j)
          f.is_in f.is_entity (record { stars = f.valued.stars; equals = f.valued.equals }) (rule_at_lem st j h)
          ∙ sym (or_false (any (sets_off w) (rule_of st j).triggers)))
      cases none (others b) = rw (lt-ltb 1 (kind_m s p) b)

  leads_agree : (i j : ℕ) → i < n → j < n → leads_to_m s d.star (walk_m s (rule_start st i)) (rule_start st j)
      ≡ leads_to (rule_of st i) (rule_of st j)
  unfolding leads_to_m leads_to written_by
  leads_agree i j h k =
      let w = walk_m s (rule_start st i) in
      let wa = walked_at st i h in
      ap (λ (x : ℕ). any_list_m (action_leads_m s d.star (rule_start st j)) w.list x 0) wa.filled.many
      ∙ any_over (action_leads_m s d.star (rule_start st j))
      (λ a. any (λ w. any (sets_off w) (rule_of st j).triggers) (listed (write a.source a.effect)))
      (leads_one j k) w.list 0 wa.positions (touches.actions_of (rule_of st i))
      (λ i b. ap (λ (o : ℕ). get_or w.list o 0) (zero-add i) ∙ sym (get_or-take (length wa.positions) w.list i 0 b)
      ∙ ap (λ (l : List ℕ). get_or l i 0) wa.filled.front)
      wa.are_actions (legal_at st i h).actions
      ∙ sym (any_flat (λ w. any (sets_off w) (rule_of st j).triggers) (λ a. listed (write a.source a.effect))
      (touches.actions_of (rule_of st i)))

  abbrev edges : Square
  edges = each (λ r. each (leads_to r) m.rules) m.rules

  copies : Copies (edges_m s d.star rs) rs.count edges
  copies = edges_copy s d.star rs (omega (arith, st.rules.counts, st.lawful.few_rules)) edges
      (length_each (λ r. each (leads_to r) m.rules) m.rules ∙ sym st.rules.counts)
      (λ i h. ap length (each_at (λ r. each (leads_to r) m.rules) [] no_rule m.rules i
      (omega (arith, st.rules.counts))) ∙ length_each (leads_to (rule_of st i)) m.rules ∙ sym st.rules.counts)
      (λ i j h k.
      leads_agree i j (omega (arith, st.rules.counts)) (omega (arith, st.rules.counts))
      ∙ sym (each_at (leads_to (rule_of st i)) false no_rule m.rules j (omega (arith, st.rules.counts)))
      ∙ ap (λ (l : List Bool). get_or l j false)
      (sym (each_at (λ r. each (leads_to r) m.rules) [] no_rule m.rules i (omega (arith, st.rules.counts)))))

  -- ---- a component

  abbrev pub rules_at : List ℕ → List Automation
  rules_at l = each (λ i. get_or m.rules i no_rule) l

  writes_from : (set k i x j : ℕ) → i + k ≤ n → j < length (es st) →
      holds (cycle_writes_from s d.entities rs set k i x) j
      ≡ (holds x j || mem_t (name_at (es st) j) (flat writes_of (rules_at (keep (holds set) (places k i)))))
  unfolding cycle_writes_from places keep each flat
  writes_from set zero i x j h b = sym (ap (λ (c : Bool). holds x j || c) (mem_none (name_at (es st) j))
      ∙ or_false (holds x j))
  writes_from set (suc k) i x j h b = cases (case (holds set i)) (λ y. writes_from set k (i + 1) y j (omega arith) b)
    where
      W : ℕ
      W = writes_m s d.entities (walk_m s (get_or rs.starts i 0))

      rest : List Text
      rest = flat writes_of (rules_at (keep (holds set) (places k (i + 1))))

      cases : Case (holds set i) →
          ((y : ℕ) → holds (cycle_writes_from s d.entities rs set k (i + 1) y) j
          ≡ (holds y j || mem_t (name_at (es st) j) rest)) →
          holds (cycle_writes_from s d.entities rs set k (i + 1) (if holds set i then bit_or x W else x)) j
          ≡ (holds x j || mem_t (name_at (es st) j) (flat writes_of
          (rules_at (if holds set i then i ∷ keep (holds set) (places k (i + 1))
          else keep (holds set) (places k (i + 1))))))
      cases (is_true z) ih =
          rw z (
          ih (bit_or x W)
          ∙ ap (λ (c : Bool). c || mem_t (name_at (es st) j) rest)
          (holds_or x W j ∙ ap (λ (c : Bool). holds x j || c) (writes_held st i (omega arith) j b))
          ∙ or_assoc (holds x j) (mem_t (name_at (es st) j) (writes_of (rule_of st i))) (mem_t (name_at (es st) j) rest)
          ∙ ap (λ (c : Bool). holds x j || c) (sym (mem_append (name_at (es st) j) (writes_of (rule_of st i)) rest)))
      cases (is_false z) ih = rw z (ih x)

  module _ (set : ℕ) (small : set < 2 ^ 32) (below : Each (λ (i : ℕ). i < n) (members set)) where
    pub found_rules : flat (at_place m.rules) (members set) ≡ rules_at (members set)
    found_rules = at_places m.rules (members set) below

    pub cycle_set : set ≡ ids_set (names st) (ids st) (each (λ r. r.id) (rules_at (members set)))
    unfolding ids_set
    cycle_set = sym (
        ap (λ (l : List Text). set_of (each (λ t. place_of t (ids st)) l))
        (each_each (λ r. r.id) (λ i. get_or m.rules i no_rule) (members set)
        ∙ each_same (λ (i : ℕ). i < n) (λ i. (get_or m.rules i no_rule).id) (λ i. get_or (ids st) i [])
        (λ i h. sym (each_at (λ r. r.id) [] no_rule m.rules i h)) (members set) below)
        ∙ ap set_of (places_at (ids st) st.ids (members set)
        (λ j h. let b = nth (λ (i : ℕ). i < n) 0 (members set) below j h in rw (length_each (λ r. r.id) m.rules) b))
        ∙ set_members set small)

    cycle_writes : (j : ℕ) → j < length (es st) → holds (cycle_writes_m s d.entities rs set) j
        ≡ mem_t (name_at (es st) j) (flat writes_of (rules_at (members set)))
    unfolding cycle_writes_m
    cycle_writes j h =
        writes_from set rs.count 0 0 j (omega (arith, st.rules.counts)) h
        ∙ ap (λ (b : Bool). b || mem_t (name_at (es st) j)
        (flat writes_of (rules_at (keep (holds set) (places rs.count 0))))) (holds_none j)
        ∙ ap (λ (l : List ℕ). mem_t (name_at (es st) j) (flat writes_of (rules_at l)))
        (ap (λ (k : ℕ). keep (holds set) (places k 0)) st.rules.counts
        ∙ sym (members_upto set n st.lawful.few_rules below))

    cycle_words : cycle_m s d.entities rs set ≡ finding_words (names st) (ids st) (record {
      problem = trigger_cycle;
      automations = each (λ r. r.id) (rules_at (members set));
      sources = each (λ r. r.source) (rules_at (members set));
      tier = rank_name (highest m.scenario (flat writes_of (rules_at (members set))));
    }) ++ (0 ∷ 0 ∷ 0 ∷ 0 ∷ 0 ∷ [])
    unfolding cycle_m finding_words code_number certainty_number entity_number sources_of source_words
    cycle_words =
        ap (λ (t : ℕ). 5 ∷ 1 ∷ t ∷ 0 ∷ set ∷ 0 ∷ 0 ∷ 0 ∷ 0 ∷ 0 ∷ 0 ∷ 0 ∷ 0 ∷ 0 ∷ [])
        (highest_word s d.entities ts m.scenario st.grounds (cycle_writes_m s d.entities rs set)
        (flat writes_of (rules_at (members set))) cycle_writes)
        ∙ ap (λ (x : ℕ). 5 ∷ 1 ∷ tier_number (rank_name
        (highest m.scenario
        (flat writes_of (rules_at (members set))))) ∷ 0 ∷ x ∷ 0 ∷ 0 ∷ 0 ∷ 0 ∷ 0 ∷ 0 ∷ 0 ∷ 0 ∷ 0 ∷ []) cycle_set

    cycle_stands : Stands s (names st) (ids st) (cycle_entry m.scenario (flat (at_place m.rules) (members set)))
        (Item.finding (cycle_m s d.entities rs set))
    unfolding cycle_entry code_number
    cycle_stands =
        rw found_rules (as_finding (record { reason = 0 ∷ 0 ∷ 0 ∷ 0 ∷ 0 ∷ []; is = cycle_words; reasoned = plain refl }))

  -- ---- all components

  module _ (c : Components) (cy : Cycles (edges_m s d.star rs) rs.count c) where
    abbrev sets : List ℕ
    sets = take c.count c.sets

    few_sets : c.count ≤ 32
    few_sets = omega (arith, cy.few, st.rules.counts, st.lawful.few_rules)

    pub sets_long : length sets ≡ c.count
    sets_long = length-take-le c.count c.sets (omega (arith, few_sets, cy.long))

    pub components_are : each members sets ≡ components (closure edges)
    components_are = cy.are edges copies

    pub sets_below : Each (λ (x : ℕ). Each (λ (i : ℕ). i < n) (members x)) sets
    sets_below =
        each_back (Each (λ (i : ℕ). i < n)) members sets
        (subst (Each (Each (λ (i : ℕ). i < n))) (sym components_are)
        (subst (λ (k : ℕ). Each (Each (λ (i : ℕ). i < k)) (components (closure edges)))
        (closure_long edges ∙ length_each (λ r. each (leads_to r) m.rules) m.rules)
        (components_below (closure edges))))

    pub cycles_listed : cycles m.rules ≡ each (λ x. flat (at_place m.rules) (members x)) sets
    unfolding cycles findings.reach
    cycles_listed = ap (each (flat (at_place m.rules))) (sym components_are)
        ∙ each_each (flat (at_place m.rules)) members sets

    pub cycles_agree : Agrees st (each (cycle_entry m.scenario) (cycles m.rules)) (cycles_items s d.entities rs c)
    unfolding cycles_items
    cycles_agree =
        let entry : ℕ → Entry = λ x. cycle_entry m.scenario (flat (at_place m.rules) (members x)) in
        subst (λ (l : List Entry). Agrees st l (items_numbers_m items c.count 0))
        (sym (ap (each (cycle_entry m.scenario)) cycles_listed
        ∙ each_each (cycle_entry m.scenario) (λ x. flat (at_place m.rules) (members x)) sets
        ∙ each_flat entry sets))
        (subst (λ (k : ℕ). Agrees st (flat (λ x. entry x ∷ []) sets) (items_numbers_m items k 0)) sets_long
        (agree_numbers s (names st) (ids st) items (λ x. entry x ∷ []) 0 sets 0 (λ j h.
        let z : 0 + j ≡ j = omega arith in
        let b : j < c.count = omega (arith, sets_long) in
        let y : get_or sets j 0 ≡ get_or c.sets j 0 = get_or-take c.count c.sets j 0 b in
        rw z (rw (← y)
        (both (cycle_stands (get_or sets j 0) (cy.small j)
        (nth (λ (x : ℕ). Each (λ (i : ℕ). i < n) (members x)) 0 sets sets_below j h)) neither)))))
      where
        items : ℕ → List Item
        items k = Item.finding (cycle_m s d.entities rs (get_or c.sets k 0)) ∷ []
