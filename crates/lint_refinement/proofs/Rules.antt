-- The items of each automation stand for the definition's entries of it.
use Rattle.std.specs.Prelude.{if◌then◌else◌}
use mathlib.Core.Path.{◌≡◌, refl, sym, ap, ◌∙◌, subst}
use mathlib.Core.Bool.{Bool, true, false, ◌||◌, ◌&&◌, not}
use mathlib.Core.List.{List, [], ◌∷◌, ◌++◌, append-nil}
use mathlib.Core.Logic.{◌⊎◌, ⊎_elim}
use mathlib.Core.Option.{Option, none, some}
use Prim.Native.Nat.{ℕ, zero, suc, ◌+◌, ◌^◌, ◌≤◌, ◌<◌}
use native.Mathlib.Omega.{arith}
use native.Mathlib.Decide.{dec_lt}
use lib.Bits.{bit_or}
use lib.Count.{ones}
use lib.Dec.{eqb, ltb}
use lib.ListN.{length, get_or}
use borrow.Author.Tests.{lt-ltb, le-ltb, eq-eqb, ne_eqb, lt-leb}
use Rattle.engine_spec.proofs.Bounds.{length_each}
use Rattle.texts.specs.Lists.{present_and, listed, is_empty, any, all, keep, each, flat}
use Rattle.texts.specs.Texts.{Text, text, eq_t, mem_t}
use Rattle.texts.proofs.Ordering.{not_both, eq_is, eq_refl}
use Rattle.model_spec.specs.Model.{
  Source,
  Entity,
  Effect,
  toggle,
  delay,
  condition,
  choose,
  wait,
  Branches,
  Automation,
  Model,
}
use Rattle.model_spec.specs.File.{got, counted, predicate, branches, actions}
use Rattle.model_walk.proofs.Found.{Case, is_true, is_false, case, bound, given, u16_wide}
use Rattle.model_parts.specs.declared.Section.{Section}
use Rattle.model_check.specs.Checks.{number_of}
use Rattle.engine_spec.proofs.Lists.{Each}
use Rattle.model_spec.specs.Rewrite.{place_of}
use Rattle.lint_spec.specs.Reach.{places}
use Rattle.lint_spec.specs.Touches.{
  Action,
  conditions_of,
  branch_conditions,
  is_delay,
  Write,
  write,
  written_by,
  reads_of,
  writes_of,
}
use Rattle.lint_spec.specs.Touches as touches
use Rattle.lint_spec.specs.Findings.{
  Problem,
  unreachable_conditions,
  trigger_condition_mismatch,
  delayed_write,
  unreachable_branch,
  high_fanout,
  freshness_assumption,
  missing_safety_guard,
  Finding,
  Entry,
  rank,
  rank_name,
  contradictory,
  mismatched,
  is_star,
  values_of,
  guards,
  sets_off,
  tier_of,
  highest,
  about,
  about_if,
  expires,
  unguarded,
  branch_entries,
  write_entries,
  rule_entries,
}
use Rattle.lint_spec.specs.Words.{
  set_of,
  code_number,
  certainty_number,
  source_words,
  sources_of,
  entity_number,
  ids_set,
  finding_words,
  interaction_words,
  plain,
}
use Rattle.lint_spec.specs.Memory.{neither}
use Rattle.lint_reach.specs.Sets.{holds, members}
use Rattle.lint_reach.proofs.Bits.{ones_members}
use Rattle.lint_walk.specs.declared.Walk.{Walk}
use Rattle.lint_walk.specs.Raw.{place_m, past, predicates_end, kind_m, conditions_m, actions_m}
use Rattle.lint_walk.specs.Walks.{walk_m, list_end}
use Rattle.lint_walk.proofs.Found.{
  past_is,
  place_got,
  SourceAt,
  predicates_end_lem,
  EffectAt,
  set_at,
  toggle_at,
  delay_at,
  condition_at,
  choose_at,
  wait_at,
  unknown_at,
  ActionAt,
  RuleAt,
}
use Rattle.lint_walk.proofs.Refines.{Walked, list_ends}
use Rattle.lint_access.specs.Names.{name_at}
use Rattle.lint_access.specs.Sets.{reads_m, writes_m}
use Rattle.lint_access.proofs.Refines.{
  name_once,
  number_at,
  reads_hold,
  reads_inside,
  writes_hold,
  Declares,
  members_below,
  names_are,
  writes_are,
  each_append,
}
use Rattle.lint_access.proofs.Rising.{mem_cons, mem_none, mem_append, rising_sorted}
use Rattle.lint_conditions.specs.declared.Names.{Names}
use Rattle.lint_conditions.specs.Conditions.{
  contradictory_m,
  mismatched_m,
  delays_m,
  guarded_m,
  unguarded_m,
  leads_m,
  tier_m,
  stale_m,
}
use Rattle.lint_conditions.proofs.Refines.{contradictory_agrees, mismatched_agrees, Value, leads_agrees}
use Rattle.lint_conditions.proofs.More.{delays_agree, guarded_agrees}
use Rattle.lint_areas.specs.Areas.{Item, only_if}
use Rattle.lint_findings.specs.declared.About.{About}
use Rattle.lint_findings.specs.Entries.{
  items_numbers_m,
  items_parts_m,
  about_m,
  action_m,
  delayed_m,
  own_items,
  branch_items,
  branches_at,
  branches_items,
  fanout_items,
  stale_here_m,
  fresh_items,
  value_m,
  risky_m,
  interact_items,
  write_items,
  writes_items,
  first_items,
  rule_items,
}
use Rattle.lint_collect.specs.Collect.{about_at, rule_at}
use Rattle.lint_refinement.proofs.Lists.{
  flat_flat,
  each_keep,
  flat_keep,
  each_empty,
  either,
  rising_keep,
  sorted_rising,
  mem_keep,
  mem_at,
  not_at,
  found_at,
}
use Rattle.lint_refinement.proofs.Sets.{Once, set_empty, place_at}
use Rattle.lint_refinement.proofs.Agree.{
  Stands,
  as_finding,
  as_interaction,
  Agree,
  agree_append,
  agree_if,
  agree_numbers,
}
use Rattle.lint_refinement.proofs.Tiers.{entity_at, no_entity, tier_at, expires_at, expires_none, highest_word}
use Rattle.lint_refinement.proofs.Accepted.{Declared, FineA}
use Rattle.lint_refinement.proofs.FileFacts.{
  Stage,
  no_rule,
  writes_small,
  rule_start,
  rule_of,
  rule_at_lem,
  legal_at,
  walked_at,
  id_number,
  agree_actions,
}

-- the entities that an action writes are declared
written_fine : (es : List Entity) (a : Action) → FineA es a → (t : Text) →
    mem_t t (each (λ w. w.entity) (listed (write a.source a.effect))) ≡ true → Declared es t
unfolding write listed each
written_fine es a f t h = cases a.effect f h
  where
    one : (x : Text) → Declared es x → mem_t t (x ∷ []) ≡ true → Declared es t
    one x y k = subst (Declared es) (sym (eq_is t x (same (eq_t t x) refl))) y
      where
        same : (b : Bool) → eq_t t x ≡ b → eq_t t x ≡ true
        same true e = e
        same false e = absurd (not_both (mem_cons t x [] ∙ rw e (mem_none t)) k)

    cases : (g : Effect) → Rattle.lint_refinement.proofs.Accepted.Fine es g →
        mem_t t (each (λ w. w.entity) (listed (write a.source g))) ≡ true → Declared es t
    cases (Effect.set x v) f h = one x f h
    cases (toggle x) f h = one x f h
    cases (delay n) f h = absurd (not_both (mem_none t) h)
    cases (condition p) f h = absurd (not_both (mem_none t) h)
    cases (choose bs d) f h = absurd (not_both (mem_none t) h)
    cases (wait u n c) f h = absurd (not_both (mem_none t) h)
    cases (Effect.unknown r) f h = absurd (not_both (mem_none t) h)

writes_fine : (es : List Entity) (l : List Action) → Each (FineA es) l → (t : Text) →
    mem_t t (each (λ w. w.entity) (flat (λ a. listed (write a.source a.effect)) l)) ≡ true → Declared es t
unfolding flat each
writes_fine es [] f t h = absurd (not_both (mem_none t) h)
writes_fine es (a ∷ l) f t h =
    let x = listed (write a.source a.effect) in
    let y = flat (λ a. listed (write a.source a.effect)) l in
    let e : mem_t t (each (λ w. w.entity) (x ++ y)) ≡ (mem_t t (each (λ w. w.entity) x)
    || mem_t t (each (λ w. w.entity) y)) = ap (mem_t t) (each_append (λ w. w.entity) x y)
    ∙ mem_append t (each (λ w. w.entity) x) (each (λ w. w.entity) y) in
    ⊎_elim (λ k. written_fine es a f.0 t k) (λ k. writes_fine es l f.1 t k) (either _ _ (sym e ∙ h))

-- the rank is above 1
rank_above : (n : ℕ) (b : Bool) → (if ltb n 2 then false else b) ≡ (ltb 1 n && b)
rank_above n b = elim (dec_lt n 2) [
  | yes h ↦ rw (lt-ltb n 2 h, le-ltb 1 n (omega arith))
  | no h ↦ rw (le-ltb n 2 (omega arith), lt-ltb 1 n (omega arith))
]

module _ {s : List ℕ} {d : Names} {rs : Section} {ts : List Text} {m : Model} (st : Stage s d rs ts m) where
  abbrev pub es : List Entity
  es = m.scenario.entities

  abbrev pub names : List Text
  names = each (λ e. e.name) m.scenario.entities

  abbrev pub ids : List Text
  ids = each (λ r. r.id) m.rules

  abbrev e : Section
  e = d.entities

  abbrev T : ℕ → Text
  T x = get_or ts x []

  abbrev pub Agrees : List Entry → List Item → Type 0
  Agrees l k = Agree s (names) (ids) l k

  pub names_once : Once (names)
  unfolding Once name_at
  names_once i j h k =
      let n = length_each (λ e. e.name) (es) in
      name_once s (e) ts (es) st.grounds i j (omega arith) (omega arith)

  pub name_number : (j : ℕ) → j < length (es) → place_of (name_at (es) j) (names) ≡ j
  unfolding name_at
  name_number j h = place_at (names) names_once j (rw (length_each (λ e. e.name) (es)) h)

  -- the entity that a place names is declared: its number
  pub declared_number : (x : ℕ) (t : Text) → x < length ts → t ≡ T x → (j : ℕ) → j < length (es) → name_at (es) j ≡ t →
      number_of (e) x s ≡ j
  declared_number x t h k j l n = number_at s (e) ts (es) st.grounds x j h l (n ∙ k)

  -- ---- values that are written

  -- the place v stands for the value t
  pub record Valued (v : ℕ) (t : Text) : Type 0 where
    pub stars : eqb v d.star ≡ is_star t
    pub equals : (n : ℕ) → n < length ts → eqb n v ≡ eq_t (T n) t
    pub set : is_star t ≡ false → (v < length ts) × (T v ≡ t)

  value_set : (v : ℕ) → v < length ts → Valued v (T v)
  unfolding is_star
  value_set v h = record {
    stars = st.star v h;
    equals = λ n k. sym (st.grounds.same n v k h);
    set = λ z. (h, refl);
  }

  value_toggle : Valued d.star (text "*")
  unfolding is_star
  value_toggle = record {
    stars = eq-eqb d.star d.star refl ∙ sym (eq_refl (text "*"));
    equals = λ n k. st.star n k;
    set = λ z. absurd (not_both z (eq_refl (text "*")));
  }

  -- an action that writes: what stands at its position
  pub record WriteAt (p : ℕ) (w : Write) : Type 0 where
    pub kind : kind_m s p ≤ 1
    pub x : ℕ
    pub at_entity : place_m s (past s p 9) ≡ x
    pub is_in : x < length ts
    pub is_entity : w.entity ≡ T x
    pub valued : Valued (value_m s d.star p) w.value
    pub after : ℕ
    pub source_at : SourceAt s p w.source after
    pub number : ℕ
    pub below : number < length (es)
    pub named : name_at (es) number ≡ w.entity

  -- no write: the kind is above 1
  pub data Writes (p : ℕ) : Option Write → Type 0 where
    writes : {w : Write} → WriteAt p w → Writes p (some w)
    others : 1 < kind_m s p → Writes p none

  value_of_set : (p : ℕ) → kind_m s p ≡ 0 → value_m s d.star p ≡ place_m s (past s p 11)
  unfolding value_m
  value_of_set p k = rw k

  value_of_toggle : (p : ℕ) → kind_m s p ≡ 1 → value_m s d.star p ≡ d.star
  unfolding value_m
  value_of_toggle p k = rw k

  pub write_at : (p : ℕ) (a : Action) → ActionAt ts s p a → FineA (es) a → Writes p (write a.source a.effect)
  unfolding write
  write_at p a f fine = cases a.effect f.effect_at fine
    where
      cases : (g : Effect) → EffectAt ts s f.left p f.end g →
          Rattle.lint_refinement.proofs.Accepted.Fine (es) g → Writes p (write a.source g)
      cases (Effect.set x v) (set_at x' v' k i j l n o) y = writes (record {
        kind = omega arith;
        x = x';
        at_entity = i;
        is_in = l;
        is_entity = refl;
        valued = subst (λ (u : ℕ). Valued u (T v')) (sym (value_of_set p k ∙ j)) (value_set v' n);
        after = f.after;
        source_at = f.source_at;
        number = y.0;
        below = y.1.0;
        named = y.1.1;
      })
      cases (toggle x) (toggle_at x' k i l o) y = writes (record {
        kind = omega arith;
        x = x';
        at_entity = i;
        is_in = l;
        is_entity = refl;
        valued = subst (λ (u : ℕ). Valued u (text "*")) (sym (value_of_toggle p k)) value_toggle;
        after = f.after;
        source_at = f.source_at;
        number = y.0;
        below = y.1.0;
        named = y.1.1;
      })
      cases (delay x) (delay_at x' k o) y = others (omega arith)
      cases (condition x) (condition_at x' k i o) y = others (omega arith)
      cases (choose bs b) (choose_at bs' d' n r k c q t) y = others (omega arith)
      cases (wait t y z) (wait_at t' y' z' r k i o) w = others (omega arith)
      cases (Effect.unknown x) (unknown_at x' k i l o) y = others (omega arith)

  -- ---- the i-th automation

  module _ (i : ℕ) (h : i < length m.rules) where
    abbrev r : Automation
    r = get_or m.rules i no_rule

    abbrev p : ℕ
    p = get_or rs.starts i 0

    abbrev w : Walk
    w = walk_m s (get_or rs.starts i 0)

    abbrev W : ℕ
    W = writes_m s d.entities (walk_m s (get_or rs.starts i 0))

    abbrev a : About
    a = about_at s d.entities i (walk_m s (get_or rs.starts i 0)).next
        (writes_m s d.entities (walk_m s (get_or rs.starts i 0)))

    abbrev ra : RuleAt ts s (get_or rs.starts i 0) (get_or m.rules i no_rule)
    ra = rule_at_lem st i h

    abbrev wa : Walked ts s (walk_m s (get_or rs.starts i 0)) (get_or m.rules i no_rule)
    wa = walked_at st i h

    few_entities : d.entities.count ≤ 32
    few_entities = omega (arith, st.grounds.counts, st.grounds.few)

    pub writes_held : (j : ℕ) → j < length es → holds W j ≡ mem_t (name_at es j) (writes_of r)
    writes_held j k = writes_hold s e ts es st.grounds p w r ra wa j k

    pub writes_listed : writes_of r ≡ each (name_at es) (members W)
    unfolding Declares written_by
    writes_listed = writes_are s e ts es st.grounds p w r ra wa
        (λ t k. writes_fine es (touches.actions_of r) (legal_at st i h).actions t k)

    single_set : bit_or 0 (2 ^ i) ≡ ids_set names ids (r.id ∷ [])
    unfolding ids_set set_of each Rattle.texts.specs.Lists.through
    single_set = ap (λ (n : ℕ). bit_or 0 (2 ^ n)) (sym (id_number st i h))

    tier_word : a.tier ≡ Rattle.lint_spec.specs.Words.tier_number (rank_name (highest m.scenario (writes_of r)))
    unfolding about_at
    tier_word = highest_word s e ts m.scenario st.grounds W (writes_of r) writes_held

    -- the finding about it
    abbrev found : Problem → Source → Finding
    found q src = record {
      problem = q;
      automations = r.id ∷ [];
      sources = src ∷ [];
      tier =
          rank_name (highest m.scenario (writes_of r));
    }

    sources_one : (q : Problem) (src : Source) → eqb (code_number q) 5 ≡ false → sources_of (found q src) ≡ src ∷ []
    unfolding sources_of
    sources_one q src n = rw n

    about_words : (q : Problem) (src : Source) {code certainty entity line column : ℕ} → code ≡ code_number q →
        certainty ≡ certainty_number q → entity ≡ entity_number names ids q → line ≡ src.line → column ≡ src.column →
        eqb (code_number q) 5 ≡ false →
        about_m a code certainty entity line column ≡ finding_words names ids (found q src) ++ (0 ∷ 0 ∷ 0 ∷ 0 ∷ 0 ∷ [])
    unfolding finding_words about_m source_words
    about_words q src c₁ c₂ c₃ c₄ c₅ n =
        rw (c₁, c₂, c₃, c₄, c₅) (
        ap (λ (t : ℕ). code_number q ∷ certainty_number q ∷ t ∷ entity_number names ids
        q ∷ a.set ∷ src.line ∷ src.column ∷ 0 ∷ 0 ∷ 0 ∷ 0 ∷ 0 ∷ 0 ∷ 0 ∷ []) tier_word
        ∙ ap (λ (t : ℕ). code_number q ∷ certainty_number q ∷ tier_number' ∷ entity_number names ids
        q ∷ t ∷ src.line ∷ src.column ∷ 0 ∷ 0 ∷ 0 ∷ 0 ∷ 0 ∷ 0 ∷ 0 ∷ []) set_word
        ∙ ap (λ (l : List Source). (code_number q ∷ certainty_number q ∷ tier_number' ∷ entity_number names ids q ∷ ids_set
        names ids (r.id ∷ []) ∷ []) ++ source_words l ++ (0 ∷ 0 ∷ 0 ∷ 0 ∷ 0 ∷ [])) (sym (sources_one q src n)))
      where
        tier_number' : ℕ
        tier_number' = Rattle.lint_spec.specs.Words.tier_number (rank_name (highest m.scenario (writes_of r)))

        set_word : a.set ≡ ids_set names ids (r.id ∷ [])
        set_word = unfold about_at in single_set

    about_stands : (q : Problem) (src : Source) {code certainty entity line column : ℕ} → code ≡ code_number q →
        certainty ≡ certainty_number q → entity ≡ entity_number names ids q → line ≡ src.line → column ≡ src.column →
        eqb (code_number q) 5 ≡ false → ltb (code_number q) 9 ≡ true →
        Stands s names ids (Entry.finding (found q src)) (Item.finding (about_m a code certainty entity line column))
    about_stands q src c₁ c₂ c₃ c₄ c₅ n₅ n₉ = as_finding
        (record { reason = 0 ∷ 0 ∷ 0 ∷ 0 ∷ 0 ∷ []; is = about_words q src c₁ c₂ c₃ c₄ c₅ n₅; reasoned = plain n₉ })

    about_agrees : (b c : Bool) (q : Problem) (src : Source) {code certainty entity line column : ℕ} → c ≡ b →
        code ≡ code_number q → certainty ≡ certainty_number q → entity ≡ entity_number names ids q → line ≡ src.line →
        column ≡ src.column → eqb (code_number q) 5 ≡ false → ltb (code_number q) 9 ≡ true →
        Agrees (about_if m.scenario b r q src) (only_if c (Item.finding (about_m a code certainty entity line column)))
    unfolding about_if about
    about_agrees b c q src z c₁ c₂ c₃ c₄ c₅ n₅ n₉ = agree_if s names ids b c z (about_stands q src c₁ c₂ c₃ c₄ c₅ n₅ n₉)

    own_line : a.line ≡ r.source.line
    unfolding about_at
    own_line = wa.source_at.line

    own_column : a.column ≡ r.source.column
    unfolding about_at
    own_column = wa.source_at.column

    -- ---- conditions, triggers, delays

    delayed_is : delayed_m s w W ≡ (any (λ a. is_delay a.effect) (touches.actions_of r) && not (is_empty (writes_of r)))
    unfolding delayed_m
    delayed_is =
        ap (λ (b : Bool). if b then false else delays_m s w)
        (set_empty W (writes_small s e few_entities w)
        ∙ sym (ap is_empty writes_listed ∙ each_empty (name_at es) (members W)))
        ∙ ap (λ (b : Bool). if is_empty (writes_of r) then false else b) (delays_agree ts s w r wa)
        ∙ go (is_empty (writes_of r)) (any (λ a. is_delay a.effect) (touches.actions_of r))
      where
        go : (b c : Bool) → (if b then false else c) ≡ (c && not b)
        go true true = refl
        go true false = refl
        go false true = refl
        go false false = refl

    own_agrees : Agrees
        (about_if m.scenario (contradictory r.conditions) r unreachable_conditions r.source
        ++ about_if m.scenario (all (mismatched r.conditions) r.triggers) r trigger_condition_mismatch r.source
        ++ about_if m.scenario (any (λ a. is_delay a.effect) (touches.actions_of r) && not (is_empty (writes_of r)))
        r delayed_write r.source)
        (own_items s a p w W)
    unfolding own_items code_number certainty_number entity_number
    own_agrees =
        agree_append s names ids
        (agree_append s names ids
        (about_agrees (contradictory r.conditions) (contradictory_m s (conditions_m s p)) unreachable_conditions r.source
        (contradictory_agrees s ts st.grounds.same (conditions_m s p) r.conditions (actions_m s p) ra.conditions)
        refl refl refl own_line own_column refl refl)
        (about_agrees (all (mismatched r.conditions) r.triggers) (mismatched_m s p) trigger_condition_mismatch
        r.source (mismatched_agrees s ts st.grounds.same p r ra) refl refl refl own_line own_column refl refl))
        (about_agrees _ (delayed_m s w W) delayed_write r.source delayed_is refl refl refl own_line own_column refl refl)

    -- ---- branches

    branch_parts : (left : ℕ) → left ≤ 18 → (q₀ : ℕ) (src : Source) (after : ℕ) → SourceAt s q₀ src after →
        (n q : ℕ) (bs : Branches) (o : ℕ) → branches ts (actions ts left) n s q ≡ got bs o →
        Agrees (flat (λ ps. about_if m.scenario (contradictory ps) r unreachable_branch src) (conditions_of bs))
        (items_parts_m (λ q. only_if (contradictory_m s q) (Item.finding (action_m s a 3 0 0 q₀)))
        (λ q. list_end s (predicates_end s q)) n q)
    unfolding branches flat items_parts_m conditions_of action_m code_number certainty_number entity_number
    branch_parts left b q₀ src after sa zero q bs o x =
        subst (λ (y : Branches). Agrees (flat (λ ps. about_if m.scenario (contradictory ps) r unreachable_branch src)
        (conditions_of y)) []) (given _ _ _ x).0 neither
    branch_parts left b q₀ src after sa (suc n) q bs o x =
        let c = bound (counted (predicate ts)) _ x in
        let f = bound (actions ts left) _ c.rest in
        let y = bound (branches ts (actions ts left) n) _ f.rest in
        let z = given _ _ _ y.rest in
        let t : list_end s (predicates_end s q) ≡ f.next =
        ap (list_end s) (predicates_end_lem ts s q c.first)
        ∙ list_ends ts s left c.next f.value f.next b f.first in
        let first = about_agrees (contradictory c.value) (contradictory_m s q) unreachable_branch src
        (contradictory_agrees s ts st.grounds.same q c.value c.next c.first) refl refl refl sa.line
        sa.column refl refl in
        let rest = branch_parts left b q₀ src after sa n f.next y.value o (y.first ∙ ap (got y.value) z.1) in
        subst (λ (u : Branches). Agrees (flat (λ ps. about_if m.scenario (contradictory ps) r unreachable_branch src)
        (conditions_of u)) (only_if (contradictory_m s q) (Item.finding (action_m s a 3 0 0 q₀)) ++ items_parts_m
        (λ q. only_if (contradictory_m s q) (Item.finding (action_m s a 3 0 0 q₀))) (λ q. list_end s (predicates_end s q)) n
        (list_end s (predicates_end s q)))) z.0
        (agree_append s names ids first
        (subst (λ (k : ℕ). Agrees (flat (λ ps. about_if m.scenario (contradictory ps) r unreachable_branch src)
        (conditions_of y.value))
        (items_parts_m (λ q. only_if (contradictory_m s q) (Item.finding (action_m s a 3 0 0 q₀)))
        (λ q. list_end s (predicates_end s q)) n k)) (sym t) rest))

    abbrev choice_items : ℕ → List Item
    choice_items q = if eqb (kind_m s q) 4 then branch_items s a q else []

    no_choice : (q k : ℕ) → kind_m s q ≡ k → (k ≡ 4 → ⊥) → choice_items q ≡ []
    no_choice q k x n = rw x (rw (ne_eqb k 4 n))

    choice_agrees : (q : ℕ) (x : Action) → ActionAt ts s q x → FineA es x →
        Agrees (branch_entries m.scenario r x) (choice_items q)
    unfolding branch_entries branch_conditions branch_items flat
    choice_agrees q x f fine = cases x.effect f.effect_at
      where
        none_of : (k : ℕ) → kind_m s q ≡ k → (k ≡ 4 → ⊥) → Agrees [] (choice_items q)
        none_of k z n = subst (Agrees []) (sym (no_choice q k z n)) neither

        cases : (g : Effect) → EffectAt ts s f.left q f.end g →
            Agrees (flat (λ ps. about_if m.scenario (contradictory ps) r unreachable_branch x.source)
            (branch_conditions g)) (choice_items q)
        cases (Effect.set y v) (set_at x' v' k i j l n o) = none_of 0 k (λ z. omega arith)
        cases (toggle y) (toggle_at x' k i l o) = none_of 1 k (λ z. omega arith)
        cases (delay y) (delay_at x' k o) = none_of 2 k (λ z. omega arith)
        cases (condition y) (condition_at x' k i o) = none_of 3 k (λ z. omega arith)
        cases (choose bs b) (choose_at bs' d' n y k c q' t) =
            let u : place_m s (past s q 9) ≡ n = place_got s (past s q 9) c in
            let v : past s (past s q 9) 2 ≡ past s q 11 = past_is s (u16_wide s (past s q 9) c) in
            rw k (rw (u, v) (branch_parts f.left f.is_shallow q x.source f.after f.source_at n (past s q 11)
            bs y q'))
        cases (wait t y z) (wait_at t' y' z' o k i n) = none_of 5 k (λ z. omega arith)
        cases (Effect.unknown y) (unknown_at x' k i l o) = none_of 6 k (λ z. omega arith)

    branches_agree : Agrees (flat (branch_entries m.scenario r) (touches.actions_of r)) (branches_items s a w)
    unfolding branches_items branches_at
    branches_agree = agree_actions s names ids ts s es choice_items (branch_entries m.scenario r) choice_agrees w r wa
        (legal_at st i h)

    -- ---- fanout

    many_writes : ones W ≡ length (writes_of r)
    many_writes = ones_members W (writes_small s e few_entities w)
        ∙ sym (ap length writes_listed ∙ length_each (name_at es) (members W))

    fanout_agrees : Agrees (about_if m.scenario (ltb 8 (length (writes_of r))) r high_fanout r.source)
        (fanout_items s a W)
    unfolding fanout_items code_number certainty_number entity_number
    fanout_agrees = about_agrees _ (ltb 8 (ones W)) high_fanout r.source (ap (ltb 8) many_writes)
        refl refl refl own_line own_column refl refl

    -- ---- entities that are read

    abbrev R : ℕ
    R = reads_m s d.entities (get_or rs.starts i 0) (walk_m s (get_or rs.starts i 0))

    -- a name is declared
    abbrev declared : Text → Bool
    declared t = mem_t t names

    -- the declared entities that it reads
    pub reads_listed : keep declared (reads_of r) ≡ each (name_at es) (members R)
    unfolding Declares name_at reads_of
    reads_listed =
        sym (sorted_rising (keep declared (reads_of r)) (rising_keep declared (rising_sorted _)))
        ∙ names_are s e ts es st.grounds R (keep declared (reads_of r)) (reads_inside s e ts es st.grounds p w r ra wa)
        (λ t k. let x =
        found_at names t (both_true (declared t) (mem_t t (reads_of r)) (sym (mem_keep declared t (reads_of r)) ∙ k)) in
        let l = x.1.0 in (x.0, (omega (arith, length_each (λ e. e.name) es), x.1.1)))
        (λ j k. reads_hold s e ts es st.grounds p w r ra wa j k
        ∙ sym (mem_keep declared (name_at es j) (reads_of r)
        ∙ ap (λ (b : Bool). b && mem_t (name_at es j) (reads_of r))
        (mem_at names j (rw (length_each (λ e. e.name) es) k))))
      where
        both_true : (a b : Bool) → (a && b) ≡ true → a ≡ true
        both_true true b k = refl
        both_true false b k = k

    abbrev fresh_entries : Text → List Entry
    fresh_entries x = about_if m.scenario (expires m.scenario x) r (freshness_assumption x) r.source

    fresh_none : (x : Text) → declared x ≡ false → fresh_entries x ≡ []
    unfolding about_if name_at
    fresh_none x k =
        let z = expires_none s e ts m.scenario st.grounds x
        (λ j l. not_at names x k j (rw (length_each (λ e. e.name) es) l)) in
        rw z

    abbrev fresh_items_lem : ℕ → List Item
    fresh_items_lem k = only_if (stale_here_m s e R k) (Item.finding (about_m a 6 1 k a.line a.column))

    fresh_numbers : (n k : ℕ) → k + n ≤ length es → Agrees
        (flat fresh_entries (each (name_at es) (keep (holds R) (places n k)))) (items_numbers_m fresh_items_lem n k)
    unfolding places keep each flat items_numbers_m stale_here_m code_number certainty_number entity_number
    fresh_numbers zero k b = neither
    fresh_numbers (suc n) k b = cases (case (holds R k)) (fresh_numbers n (k + 1) (omega arith))
      where
        rest : List Text
        rest = each (name_at es) (keep (holds R) (places n (k + 1)))

        cases : Case (holds R k) → Agrees (flat fresh_entries (each (name_at es) (keep (holds R) (places n (k + 1)))))
            (items_numbers_m fresh_items_lem n (k + 1)) →
            Agrees (flat fresh_entries
            (each (name_at es) (if holds R k then k ∷ keep (holds R) (places n (k + 1))
            else keep (holds R) (places n (k + 1))))) (fresh_items_lem k ++ items_numbers_m fresh_items_lem n (k + 1))
        cases (is_true z) ih =
            let l : k < length es = omega arith in
            rw z (agree_append s names ids
            (about_agrees (expires m.scenario (name_at es k)) (stale_m s (get_or e.starts k 0))
            (freshness_assumption (name_at es k)) r.source (expires_at s e ts m.scenario st.grounds k l)
            refl refl (sym (name_number k l)) own_line own_column refl refl)
            ih)
        cases (is_false z) ih = rw z (unfold only_if in ih)

    fresh_agrees : Agrees (flat fresh_entries (reads_of r)) (fresh_items s a e R)
    unfolding fresh_items
    fresh_agrees =
        let n : 0 + length es ≤ length es = omega arith in
        subst (λ (l : List Entry). Agrees l (items_numbers_m fresh_items_lem e.count 0))
        (sym (flat_keep fresh_entries declared fresh_none (reads_of r)
        ∙ ap (flat fresh_entries) (reads_listed ∙ ap (each (name_at es))
        (members_below s e ts es st.grounds R (reads_inside s e ts es st.grounds p w r ra wa)))))
        (subst (λ (k : ℕ). Agrees (flat fresh_entries (each (name_at es) (keep (holds R) (places (length es) 0))))
        (items_numbers_m fresh_items_lem k 0)) (sym st.grounds.counts) (fresh_numbers (length es) 0 n))

    -- ---- writes

    module _ (q : ℕ) (x : Write) (at : WriteAt q x) where
      abbrev v : ℕ
      v = value_m s d.star q

      number_is : number_of e (place_m s (past s q 9)) s ≡ at.number
      number_is = ap (λ (k : ℕ). number_of e k s) at.at_entity
          ∙ declared_number at.x x.entity at.is_in at.is_entity at.number at.below at.named

      guarded_is : (u : ℕ) (t : Text) → u < length ts → T u ≡ t →
          guarded_m s d.invariants at.x u ≡ any (guards x.entity t) m.scenario.invariants
      guarded_is u t k n =
          guarded_agrees ts s st.grounds.same at.x u at.is_in k d.invariants m.scenario.invariants
          st.invariants.counts (omega (arith, st.lawful.few_invariants)) st.invariants.stand
          ∙ ap (λ (y : Text). any (guards y (T u)) m.scenario.invariants) (sym at.is_entity)
          ∙ ap (λ (y : Text). any (guards x.entity y) m.scenario.invariants) n

      abbrev unmet : Text → Bool
      unmet t = not (any (guards x.entity t) m.scenario.invariants)

      unguarded_is : unguarded_m s d at.x v ≡ any unmet (values_of x)
      unfolding unguarded_m values_of any
      unguarded_is = rw at.valued.stars (cases (case (is_star x.value)))
        where
          pair : (a b : Bool) → (if a then not b else true) ≡ (not a || (not b || false))
          pair true true = refl
          pair true false = refl
          pair false b = refl

          one : (b : Bool) → b ≡ (b || false)
          one true = refl
          one false = refl

          cases : Case (is_star x.value) →
              (if is_star x.value then (if guarded_m s d.invariants at.x d.on
              then not (guarded_m s d.invariants at.x d.off) else true)
              else not (guarded_m s d.invariants at.x v))
              ≡ any unmet (if is_star x.value then text "on" ∷ text "off" ∷ [] else x.value ∷ [])
          cases (is_true z) =
              rw z (rw (
                guarded_is d.on (text "on") st.on.is_in st.on.is_text,
                guarded_is d.off (text "off") st.off.is_in st.off.is_text,
              )
              (pair (any (guards x.entity (text "on")) m.scenario.invariants)
              (any (guards x.entity (text "off")) m.scenario.invariants)))
          cases (is_false z) = let y = at.valued.set z in
              rw z (rw (guarded_is v x.value y.0 y.1) (one (unmet x.value)))

      risky_is : risky_m s d at.x v at.number ≡ unguarded m.scenario x
      unfolding risky_m unguarded present_and
      risky_is =
          let t : tier_of m.scenario x.entity ≡ some (get_or es at.number no_entity).tier =
          ap (tier_of m.scenario) (sym at.named)
          ∙ tier_at s e ts m.scenario st.grounds at.number at.below in
          ap (λ (b : Bool). if ltb (tier_m s (get_or e.starts at.number 0)) 2 then false else b) unguarded_is
          ∙ ap (λ (k : ℕ). if ltb k 2 then false else any unmet (values_of x))
          (entity_at s e ts m.scenario st.grounds at.number at.below).0
          ∙ rank_above (rank (get_or es at.number no_entity).tier) (any unmet (values_of x))
          ∙ ap (λ (o : Option Rattle.model_spec.specs.Model.Tier). present_and (λ t. ltb 1 (rank t)) o
          && any unmet (values_of x)) (sym t)

      value_is : Value s ts st.grounds.same d.star v x.value
      value_is = record { stars = at.valued.stars; equals = at.valued.equals }

      abbrev set_off : Automation → Bool
      set_off target = any (sets_off x) target.triggers

      abbrev between : Automation → Entry
      between target = Entry.interaction (record { from = r.id; to = target.id; entity = x.entity })

      interacts : Agrees (each between (keep set_off m.rules)) (interact_items s i rs d.star at.x v at.number)
      unfolding interact_items interaction_words
      interacts =
          subst (λ (l : List Entry). Agrees l (items_numbers_m items rs.count 0))
          (sym (each_keep between set_off m.rules))
          (subst (λ (n : ℕ). Agrees (flat (λ t. if set_off t then between t ∷ [] else []) m.rules)
          (items_numbers_m items n 0)) (sym st.rules.counts)
          (agree_numbers s names ids items (λ t. if set_off t then between t ∷ [] else []) no_rule m.rules 0 (λ j b.
          let z : 0 + j ≡ j = omega arith in
          rw z (agree_if s names ids (set_off (rule_of st j)) (leads_m s d.star at.x v (rule_start st j))
          (leads_agrees s ts st.grounds.same d.star at.x v (rule_start st j) x (rule_of st j) at.is_in
          at.is_entity value_is (rule_at_lem st j b))
          (as_interaction (rw (id_number st i h, id_number st j b, ← at.named, name_number at.number at.below)))))))
        where
          items : ℕ → List Item
          items k = only_if (leads_m s d.star at.x v (get_or rs.starts k 0))
              (Item.interaction (i ∷ k ∷ at.number ∷ []))

      write_items_lem : write_items s d rs a q ≡ only_if (risky_m s d at.x v at.number)
          (Item.finding (action_m s a 7 1 at.number q)) ++ interact_items s i rs d.star at.x v at.number
      unfolding write_items about_at
      write_items_lem =
          rw (le-ltb 1 (kind_m s q) at.kind) (rw number_is
          (rw at.at_entity (rw (lt-leb e.count at.number (omega (arith, st.grounds.counts, at.below))))))

      write_agrees : Agrees (write_entries m.scenario m.rules r x) (write_items s d rs a q)
      unfolding write_entries action_m code_number certainty_number entity_number
      write_agrees =
          subst (Agrees (write_entries m.scenario m.rules r x)) (sym write_items_lem)
          (agree_append s names ids
          (about_agrees (unguarded m.scenario x) (risky_m s d at.x v at.number) (missing_safety_guard x.entity)
          x.source risky_is refl refl
          (sym (ap (λ (t : Text). place_of t names) (sym at.named) ∙ name_number at.number at.below))
          at.source_at.line at.source_at.column refl refl)
          interacts)

    no_write : (q : ℕ) → 1 < kind_m s q → write_items s d rs a q ≡ []
    unfolding write_items
    no_write q k = rw (lt-ltb 1 (kind_m s q) k)

    action_agrees : (q : ℕ) (x : Action) → ActionAt ts s q x → FineA es x →
        Agrees (flat (write_entries m.scenario m.rules r) (listed (write x.source x.effect)))
        (write_items s d rs a q)
    unfolding listed flat
    action_agrees q x f fine = cases (write x.source x.effect) (write_at q x f fine)
      where
        cases : (o : Option Write) → Writes q o → Agrees (flat (write_entries m.scenario m.rules r) (listed o))
            (write_items s d rs a q)
        cases (some y) (writes at) = subst (λ (l : List Entry). Agrees l (write_items s d rs a q))
            (sym (append-nil (write_entries m.scenario m.rules r y))) (write_agrees q y at)
        cases none (others k) = subst (Agrees []) (sym (no_write q k)) neither

    writes_agree : Agrees (flat (write_entries m.scenario m.rules r) (written_by r)) (writes_items s d rs a w)
    unfolding writes_items written_by
    writes_agree =
        subst (λ (l : List Entry). Agrees l (items_numbers_m (λ k. write_items s d rs a (get_or w.list k 0)) w.count 0))
        (sym (flat_flat (write_entries m.scenario m.rules r) (λ a. listed (write a.source a.effect))
        (touches.actions_of r)))
        (agree_actions s names ids ts s es (write_items s d rs a)
        (λ x. flat (write_entries m.scenario m.rules r) (listed (write x.source x.effect)))
        action_agrees w r wa (legal_at st i h))

    -- ---- all of it

    pub rule_agrees : Agrees (rule_entries m.scenario m.rules r) (rule_at s d rs i)
    unfolding rule_entries rule_at rule_items first_items
    rule_agrees =
        agree_append s names ids
        (agree_append s names ids
        (agree_append s names ids (agree_append s names ids own_agrees branches_agree) fanout_agrees)
        fresh_agrees)
        writes_agree
