-- From the start on: before the first round the sets hold what the definition's lists do, and so they do at the end.
use mathlib.Core.Path.{◌≡◌, refl, sym, ap, ◌∙◌}
use mathlib.Core.Bool.{Bool, true, not}
use mathlib.Core.List.{List, [], ◌∷◌}
use Prim.Native.Nat.{ℕ, zero, suc, ◌+◌, ◌^◌, ◌<◌, ◌≤◌}
use native.Mathlib.Omega.{arith}
use lib.Pow.{pow_pos}
use lib.Dec.{eqb}
use lib.ListN.{length, get_or}
use Rattle.texts.specs.Lists.{keep, each, flat}
use Rattle.texts.specs.Texts.{Text}
use Rattle.model_spec.specs.Model.{Model}
use Rattle.model_parts.specs.declared.Section.{Section}
use Rattle.engine_spec.proofs.Lists.{Each}
use Rattle.lint_spec.specs.Reach.{places}
use Rattle.lint_spec.specs.Touches.{reads_of}
use Rattle.lint_reach.specs.Sets.{holds}
use Rattle.lint_reach.proofs.Bits.{holds_none}
use Rattle.lint_walk.specs.Raw.{byte_m, place_m, past, predicate_end}
use Rattle.lint_walk.specs.Walks.{walk_m}
use Rattle.lint_access.specs.Sets.{writes_m}
use Rattle.lint_access.proofs.Rising.{mem_none}
use Rattle.lint_conditions.specs.declared.Names.{Names}
use Rattle.lint_refinement.proofs.FileFacts.{
  Stage,
  Bounded,
  if_bounded,
  entity_bounded,
  predicate_bounded,
  predicates_bounded,
  over_bounded,
  rule_start,
  rule_of,
}
use Rattle.lint_refinement.proofs.Rules.{es}
use Rattle.lint_refinement.proofs.ById.{each_numbered}
use Rattle.cone_spec.specs.Cone as definition
use Rattle.cone_spec.specs.Cone.{Cone, close}
use Rattle.cone_sets.specs.Sets.{add_named_m, named_m, needs_m}
use Rattle.cone_close.specs.Rounds.{closed_m}
use Rattle.cone_refinement.proofs.Named.{named_holds, named_inside}
use Rattle.cone_refinement.proofs.Declared.{FineI, start_not}
use Rattle.cone_refinement.proofs.Closing.{some_none, Kept, closing}

pub each_self : {A : Type 0} (l : List A) → each (λ x. x) l ≡ l
unfolding each
each_self [] = refl
each_self (x ∷ l) = ap (λ (y : List _). x ∷ y) (each_self l)

keep_all : (p : ℕ → Bool) → ((i : ℕ) → p i ≡ true) → (n i : ℕ) → keep p (places n i) ≡ places n i
unfolding keep places
keep_all p h zero i = refl
keep_all p h (suc n) i = rw (h i) (ap (λ (l : List ℕ). i ∷ l) (keep_all p h n (i + 1)))

module _ {s : List ℕ} {d : Names} {rs : Section} {ts : List Text} {m : Model} (st : Stage s d rs ts m)
    (fine : Each (FineI (es st)) m.scenario.invariants) where
  few_entities : d.entities.count ≤ 32
  few_entities = omega (arith, st.grounds.counts, st.grounds.few)

  named_bounded : (p : ℕ) → Bounded (add_named_m s d.entities p)
  unfolding Bounded add_named_m
  named_bounded p x b =
      let e = d.entities in
      let one = entity_bounded s e few_entities (place_m s (past s p 3)) x b in
      if_bounded s e few_entities (eqb (byte_m s p) 0) _ _ (predicates_bounded s e few_entities (past s p 3) x b)
      (if_bounded s e few_entities (eqb (byte_m s p) 1) _ _ (predicates_bounded s e few_entities (past s p 7) _ one)
      (if_bounded s e few_entities (eqb (byte_m s p) 2) _ _ one
      (predicate_bounded s e few_entities (predicate_end s (past s p 3)) _
      (predicate_bounded s e few_entities (past s p 3) x b))))

  named_small : named_m s d.entities d.invariants < 2 ^ 32
  unfolding named_m Bounded
  named_small = over_bounded s d.entities few_entities (add_named_m s d.entities) named_bounded
      d.invariants.starts d.invariants.count 0 0 (pow_pos 32)

  -- what the definition closes
  unfoldable pub shut : Cone
  shut = close (length m.rules) (flat definition.names m.scenario.invariants) [] m.rules

  start : Kept st (flat definition.names m.scenario.invariants) []
      (record { entities = named_m s d.entities d.invariants; automations = 0 })
  start = record {
    small = named_small;
    inside = named_inside s d.entities ts (es st) st.grounds d.invariants m.scenario.invariants
        st.invariants st.lawful.few_invariants;
    declared = named_holds s d.entities ts (es st) st.grounds d.invariants m.scenario.invariants
        st.invariants st.lawful.few_invariants;
    few = pow_pos 32;
    beyond = λ i u v. holds_none i;
    taken = λ i u. holds_none i ∙ sym (mem_none _);
    strange = λ t z. start_not st t z m.scenario.invariants fine
        ∙ sym (some_none (λ i. Rattle.texts.specs.Texts.mem_t t (reads_of (rule_of st i))) (length m.rules) 0);
  }

  all_left : m.rules ≡ each (rule_of st) (keep (λ i. not (holds 0 i)) (places (length m.rules) 0))
  all_left =
      sym (each_self m.rules)
      ∙ each_numbered (λ r. r) (rule_of st) m.rules (λ j h. refl)
      ∙ ap (each (rule_of st)) (sym (keep_all (λ i. not (holds 0 i)) (λ i. ap not (holds_none i)) (length m.rules) 0))

  pub kept : (writes needed : List ℕ)
      → ((k : ℕ) → k < length m.rules → get_or writes k 0 ≡ writes_m s d.entities (walk_m s (rule_start st k)))
      → ((k : ℕ) → k < length m.rules
      → get_or needed k 0 ≡ needs_m s d.entities (rule_start st k) (walk_m s (rule_start st k)))
      → Kept st shut.entities shut.automations
      (closed_m writes needed (length m.rules) (named_m s d.entities d.invariants))
  unfolding shut closed_m
  kept writes needed w-is n-is =
      closing st writes needed w-is n-is (length m.rules) (flat definition.names m.scenario.invariants) [] m.rules
      (record { entities = named_m s d.entities d.invariants; automations = 0 }) start all_left
