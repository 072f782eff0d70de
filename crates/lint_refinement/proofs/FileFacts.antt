-- What lint goes by: where the parts of an accepted file stand, and that names and identifiers stand for one thing each.
use Rattle.std.specs.Prelude.{if◌then◌else◌}
use mathlib.Core.Path.{◌≡◌, refl, sym, ap, ◌∙◌, subst}
use mathlib.Core.Bool.{Bool, true, false}
use mathlib.Core.List.{List, [], ◌∷◌}
use Prim.Native.Nat.{ℕ, zero, suc, ◌+◌, ◌^◌, ◌≤◌, ◌<◌}
use native.Mathlib.Omega.{arith}
use native.Mathlib.Nat.{add-zero, zero-add}
use lib.Bits.{bit_or, or_lt}
use lib.Dec.{eqb, ltb}
use lib.ListN.{length, get_or}
use lib.Pow.{pow-lt, pow_pos}
use lib.Seq.{get_or-take}
use borrow.Author.Tests.{ltb-true}
use Rattle.engine_spec.proofs.Bounds.{length_each}
use Rattle.texts.specs.Lists.{each, flat}
use Rattle.texts.specs.Texts.{Text, text, eq_t}
use Rattle.model_spec.specs.Model.{Entity, single, done, Automation, Model}
use Rattle.model_spec.specs.File.{invariant, automation}
use Rattle.model_walk.proofs.Found.{Case, is_true, is_false, case}
use Rattle.model_parts.specs.declared.Section.{Section}
use Rattle.model_order.specs.Order.{Fixed}
use Rattle.model_check.specs.Checks.{number_of}
use Rattle.model_index.specs.Indexed.{Holds}
use Rattle.engine_spec.proofs.Lists.{Each}
use Rattle.model_spec.specs.Rewrite.{place_of}
use Rattle.lint_spec.specs.Touches.{Action}
use Rattle.lint_spec.specs.Touches as touches
use Rattle.lint_spec.specs.Findings.{Entry}
use Rattle.lint_walk.specs.declared.Walk.{Walk}
use Rattle.lint_walk.specs.Raw.{byte_m, place_m, past, kind_m}
use Rattle.lint_walk.specs.Walks.{walk_m}
use Rattle.lint_walk.proofs.Found.{ActionAt, RuleAt, rule_found}
use Rattle.lint_walk.proofs.Refines.{ActionsAt, no_action, action, Walked, walked}
use Rattle.lint_access.specs.Sets.{
  Adds,
  over,
  along,
  add_entity_m,
  add_predicate_m,
  add_predicates_m,
  add_trigger_m,
  add_triggers_m,
  add_branches_m,
  add_reads_m,
  add_write_m,
  reads_m,
  writes_m,
}
use Rattle.lint_access.proofs.Refines.{Grounds}
use Rattle.lint_conditions.specs.declared.Names.{Names}
use Rattle.lint_areas.specs.Areas.{Item}
use Rattle.lint_findings.specs.Entries.{items_numbers_m}
use Rattle.lint_refinement.proofs.Sets.{Once, place_at}
use Rattle.lint_refinement.proofs.Agree.{Agree, agree_append}
use Rattle.lint_refinement.proofs.Accepted.{FineA, Legal, Lawful}
use Rattle.lint_spec.specs.Memory.{neither}

pub record Stage (s : List ℕ) (d : Names) (rs : Section) (ts : List Text) (m : Model) : Type 0 where
  pub grounds : Grounds s d.entities ts m.scenario.entities
  pub invariants : Holds (invariant ts) s d.invariants m.scenario.invariants
  pub on : Fixed ts d.on (text "on")
  pub off : Fixed ts d.off (text "off")
  pub star : (n : ℕ) → n < length ts → eqb n d.star ≡ eq_t (get_or ts n []) (text "*")
  pub rules : Holds (automation ts) s rs m.rules
  pub ids : Once (each (λ r. r.id) m.rules)
  pub lawful : Lawful m

pub no_rule : Automation
no_rule = record {
  id = [];
  mode = single;
  max = 0;
  triggers = [];
  conditions = [];
  actions = done;
  source =
      record { line = 0; column = 0 };
  notes = [];
}

pub each_at : {A B : Type 0} (f : A → B) (b : B) (d : A) (l : List A) (j : ℕ) → j < length l →
    get_or (each f l) j b ≡ f (get_or l j d)
unfolding each
each_at f b d [] j h = absurd (omega arith)
each_at f b d (x ∷ l) zero h = refl
each_at f b d (x ∷ l) (suc j) h = each_at f b d l j (omega arith)

pub nth : {A : Type 0} (P : A → Type 0) (d : A) (l : List A) → Each P l → (j : ℕ) → j < length l → P (get_or l j d)
nth P d [] f j h = absurd (omega arith)
nth P d (x ∷ l) f zero h = f.0
nth P d (x ∷ l) f (suc j) h = nth P d l f.1 j (omega arith)

-- ---- the sets are below 2 ^ 32

unfoldable pub Bounded : Adds → Type 0
Bounded f = (x : ℕ) → x < 2 ^ 32 → f x < 2 ^ 32

module _ (s : List ℕ) (e : Section) (few : e.count ≤ 32) where
  pub if_bounded : (b : Bool) (x y : ℕ) → x < 2 ^ 32 → y < 2 ^ 32 → (if b then x else y) < 2 ^ 32
  if_bounded true x y h k = h
  if_bounded false x y h k = k

  pub entity_bounded : (x : ℕ) → Bounded (add_entity_m s e x)
  unfolding Bounded add_entity_m
  entity_bounded x set h = cases (case (ltb (number_of e x s) e.count))
    where
      cases : Case (ltb (number_of e x s) e.count) →
          (if ltb (number_of e x s) e.count then bit_or set (2 ^ number_of e x s) else set) < 2 ^ 32
      cases (is_true b) = let c = ltb-true (number_of e x s) e.count b in
          rw b (or_lt 32 set (2 ^ number_of e x s) h (pow-lt {j = 32} (omega arith)))
      cases (is_false b) = rw b h

  pub over_bounded : (f : ℕ → Adds) → ((p : ℕ) → Bounded (f p)) → (l : List ℕ) (n k : ℕ) → Bounded (over f l n k)
  unfolding Bounded over
  over_bounded f h l zero k x b = b
  over_bounded f h l (suc n) k x b = over_bounded f h l n (k + 1) (f (get_or l k 0) x) (h (get_or l k 0) x b)

  along_bounded : (f : ℕ → Adds) (end : ℕ → ℕ) → ((p : ℕ) → Bounded (f p)) → (n p : ℕ) → Bounded (along f end n p)
  unfolding Bounded along
  along_bounded f end h zero p x b = b
  along_bounded f end h (suc n) p x b = along_bounded f end h n (end p) (f p x) (h p x b)

  pub predicate_bounded : (p : ℕ) → Bounded (add_predicate_m s e p)
  unfolding Bounded add_predicate_m
  predicate_bounded p x b = if_bounded (eqb (byte_m s p) 0) _ _ (entity_bounded (place_m s (past s p 1)) x b) b

  pub predicates_bounded : (p : ℕ) → Bounded (add_predicates_m s e p)
  unfolding add_predicates_m
  predicates_bounded p = along_bounded _ _ predicate_bounded _ _

  trigger_bounded : (p : ℕ) → Bounded (add_trigger_m s e p)
  unfolding Bounded add_trigger_m
  trigger_bounded p x b = if_bounded (eqb (place_m s (past s p 14)) 65535) _ _ (entity_bounded (place_m s p) x b) b

  triggers_bounded : (p : ℕ) → Bounded (add_triggers_m s e p)
  unfolding add_triggers_m
  triggers_bounded p = along_bounded _ _ trigger_bounded _ _

  branches_bounded : (p : ℕ) → Bounded (add_branches_m s e p)
  unfolding add_branches_m
  branches_bounded p = along_bounded _ _ predicates_bounded _ _

  reads_bounded : (p : ℕ) → Bounded (add_reads_m s e p)
  unfolding Bounded add_reads_m
  reads_bounded p x b =
      if_bounded (eqb (kind_m s p) 3) _ _ (predicate_bounded (past s p 9) x b)
      (if_bounded (eqb (kind_m s p) 4) _ _ (branches_bounded (past s p 9) x b)
      (if_bounded (eqb (kind_m s p) 5) _ _ (entity_bounded (place_m s (past s p 9)) x b) b))

  write_bounded : (p : ℕ) → Bounded (add_write_m s e p)
  unfolding Bounded add_write_m
  write_bounded p x b = if_bounded (ltb (kind_m s p) 2) _ _ (entity_bounded (place_m s (past s p 9)) x b) b

  pub writes_small : (w : Walk) → writes_m s e w < 2 ^ 32
  unfolding Bounded writes_m
  writes_small w = over_bounded (add_write_m s e) write_bounded w.list w.count 0 0 (pow_pos 32)

  pub reads_small : (p : ℕ) (w : Walk) → reads_m s e p w < 2 ^ 32
  unfolding Bounded reads_m
  reads_small p w =
      predicates_bounded _ _ (over_bounded (add_reads_m s e) reads_bounded w.list w.count 0 _
      (triggers_bounded _ 0 (pow_pos 32)))

-- ---- the automations

module _ {s : List ℕ} {d : Names} {rs : Section} {ts : List Text} {m : Model} (st : Stage s d rs ts m) where
  abbrev pub rule_start : ℕ → ℕ
  rule_start i = get_or rs.starts i 0

  abbrev pub rule_of : ℕ → Automation
  rule_of i = get_or m.rules i no_rule

  pub rule_at_lem : (i : ℕ) → i < length m.rules → RuleAt ts s (rule_start i) (rule_of i)
  rule_at_lem i h = let r = st.rules.stand no_rule i (omega (arith, st.lawful.few_rules)) h in rule_found ts s r.1

  pub legal_at : (i : ℕ) → i < length m.rules → Legal m.scenario.entities (rule_of i)
  legal_at i h = nth (Legal m.scenario.entities) no_rule m.rules st.lawful.rules i h

  pub walked_at : (i : ℕ) → i < length m.rules → Walked ts s (walk_m s (rule_start i)) (rule_of i)
  walked_at i h = walked ts s (rule_start i) (rule_of i) (rule_at_lem i h) (legal_at i h).few

  pub id_number : (i : ℕ) → i < length m.rules → place_of (rule_of i).id (each (λ r. r.id) m.rules) ≡ i
  id_number i h =
      ap (λ (t : Text). place_of t (each (λ r. r.id) m.rules)) (sym (each_at (λ r. r.id) [] no_rule m.rules i h))
      ∙ place_at (each (λ r. r.id) m.rules) st.ids i (rw (length_each (λ r. r.id) m.rules) h)

-- ---- the items of an automation's actions

module _ (file : List ℕ) (names ids : List Text) (ts : List Text) (s : List ℕ) (es : List Entity) (f : ℕ → List Item)
    (g : Action → List Entry) (h : (p : ℕ) (a : Action) → ActionAt ts s p a → FineA es a → Agree file names ids (g a) (f p))
  where
    agree_over : (l : List ℕ) (k : ℕ) (ps : List ℕ) (acts : List Action) →
        ((i : ℕ) → i < length ps → get_or l (k + i) 0 ≡ get_or ps i 0) → ActionsAt ts s ps acts → Each (FineA es) acts →
        Agree file names ids (flat g acts) (items_numbers_m (λ k. f (get_or l k 0)) (length ps) k)
    unfolding flat items_numbers_m
    agree_over l k ps acts m no_action fine = neither
    agree_over l k ps acts m (action {p} {a} {ps = qs} {l = rest} x y) fine =
        let n : get_or l k 0 ≡ p = ap (λ (i : ℕ). get_or l i 0) (sym (add-zero k)) ∙ m 0 (omega arith) in
        agree_append file names ids (subst (λ (q : ℕ). Agree file names ids (g a) (f q)) (sym n) (h p a x fine.0))
        (agree_over l (k + 1) qs rest (λ i b. ap (λ (o : ℕ). get_or l o 0) (omega arith) ∙ m (suc i) (omega arith)) y
        fine.1)

    pub agree_actions : (w : Walk) (r : Automation) → Walked ts s w r → Legal es r →
        Agree file names ids (flat g (touches.actions_of r)) (items_numbers_m (λ k. f (get_or w.list k 0)) w.count 0)
    agree_actions w r k legal =
        subst (λ (n : ℕ). Agree file names ids (flat g (touches.actions_of r))
        (items_numbers_m (λ k. f (get_or w.list k 0)) n 0)) (sym k.filled.many)
        (agree_over w.list 0 k.positions (touches.actions_of r)
        (λ i b. ap (λ (o : ℕ). get_or w.list o 0) (zero-add i) ∙ sym (get_or-take (length k.positions) w.list i 0 b)
        ∙ ap (λ (l : List ℕ). get_or l i 0) k.filled.front)
        k.are_actions legal.actions)
