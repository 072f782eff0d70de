-- All rounds: after each of them the sets of numbers are what the definition's lists hold. The declared entities that
-- are in
-- are those of the set, the automations that are in those of the other, and an undeclared name is in exactly if an
-- automation that is in reads it.
use Rattle.std.specs.Prelude.{if◌then◌else◌}
use mathlib.Core.Path.{◌≡◌, refl, sym, ap, ◌∙◌, subst}
use mathlib.Core.Bool.{Bool, true, false, not, ◌||◌, ◌&&◌, or_assoc}
use mathlib.Core.List.{List, [], ◌∷◌, ◌++◌}
use mathlib.Core.Option.{none, some}
use Prim.Native.Nat.{ℕ, zero, suc, ◌+◌, ◌^◌, ◌<◌, ◌≤◌}
use native.Mathlib.Omega.{arith}
use native.Mathlib.Decide.{dec_lt}
use lib.Bits.{bit_and, bit_or, or_lt}
use lib.Pow.{pow-lt}
use lib.Dec.{eqb}
use lib.ListN.{length, get_or}
use borrow.Author.Tests.{lt-ltb, le-ltb, eq-eqb, ne_eqb}
use Rattle.texts.proofs.Bool.{or_false}
use Rattle.texts.specs.Lists.{any, keep, each, flat}
use Rattle.texts.specs.Texts.{Text, mem_t, sorted_t}
use Rattle.model_spec.specs.Model.{Effect, toggle, delay, condition, choose, wait, Automation, Model}
use Rattle.model_parts.specs.declared.Section.{Section}
use Rattle.lint_spec.specs.Reach.{places}
use Rattle.lint_spec.specs.Touches.{Action, toggles, reads_of, toggles_of}
use Rattle.lint_spec.specs.Touches as touches
use Rattle.lint_reach.specs.Sets.{holds, members}
use Rattle.lint_reach.proofs.Bits.{holds_or, holds_with, holds_none, keep_same}
use Rattle.lint_walk.specs.Raw.{place_m, past, kind_m}
use Rattle.lint_walk.specs.Walks.{walk_m}
use Rattle.lint_access.specs.Names.{name_at}
use Rattle.lint_access.specs.Sets.{writes_m}
use Rattle.lint_access.proofs.Rising.{mem_cons, mem_none, mem_append, mem_sorted}
use Rattle.lint_access.proofs.Refines.{Inside, members_below, writes_inside}
use Rattle.lint_conditions.specs.declared.Names.{Names}
use Rattle.lint_refinement.proofs.Accepted.{Fine, FineA}
use Rattle.lint_refinement.proofs.FileFacts.{
  Stage,
  Bounded,
  if_bounded,
  entity_bounded,
  over_bounded,
  writes_small,
  reads_small,
  rule_start,
  rule_of,
  rule_at_lem,
  legal_at,
  walked_at,
}
use Rattle.lint_refinement.proofs.Rules.{es, writes_listed}
use Rattle.lint_refinement.proofs.ById.{ids_apart}
use Rattle.lint_refinement.proofs.Undeclared.{Strange, one_not, flat_not}
use Rattle.cone_spec.specs.Cone.{Cone, needs, writes_one, pick, close}
use Rattle.cone_sets.specs.Sets.{add_toggle_m, needs_m}
use Rattle.cone_close.specs.declared.ConeSets.{ConeSets}
use Rattle.cone_close.specs.Rounds.{adds_m, first_m, taken_m, round_m, rounds_m}
use Rattle.cone_refinement.proofs.Named.{needs_hold, needs_inside}
use Rattle.cone_refinement.proofs.Selection.{pick_n, pick_is, lifted, Picks, no_pick, a_pick, picks, meets}
use Rattle.model_check.proofs.Refines.{eqb_sym}

-- ---- lists

pub any_each : {A B : Type 0} (p : B → Bool) (f : A → B) (l : List A) → any p (each f l) ≡ any (λ x. p (f x)) l
unfolding any each
any_each p f [] = refl
any_each p f (x ∷ l) = ap (λ (b : Bool). p (f x) || b) (any_each p f l)

any_range : (p f g : ℕ → Bool) (n i : ℕ) → ((j : ℕ) → i ≤ j → j < i + n → f j ≡ g j)
    → any f (keep p (places n i)) ≡ any g (keep p (places n i))
unfolding any keep places
any_range p f g zero i h = refl
any_range p f g (suc n) i h =
    cases (p i) (h i (omega arith) (omega arith)) (any_range p f g n (i + 1) (λ j a b. h j (omega arith) (omega arith)))
  where
    cases : (b : Bool) → f i ≡ g i → any f (keep p (places n (i + 1))) ≡ any g (keep p (places n (i + 1)))
        → any f (if b then i ∷ keep p (places n (i + 1)) else keep p (places n (i + 1)))
        ≡ any g (if b then i ∷ keep p (places n (i + 1)) else keep p (places n (i + 1)))
    cases true e ih = rw (e, ih)
    cases false e ih = ih

-- one of the automations of the set passes the test
unfoldable pub some_of : (set : ℕ) → (ℕ → Bool) → (n i : ℕ) → Bool
some_of a f n i = any (λ j. holds a j && f j) (places n i)

pub any_places : (f g : ℕ → Bool) (n i : ℕ) → ((j : ℕ) → i ≤ j → j < i + n → f j ≡ g j)
    → any f (places n i) ≡ any g (places n i)
unfolding any places
any_places f g zero i h = refl
any_places f g (suc n) i h =
    ap (λ (b : Bool). b || any f (places n (i + 1))) (h i (omega arith) (omega arith))
    ∙ ap (λ (b : Bool). g i || b) (any_places f g n (i + 1) (λ j a b. h j (omega arith) (omega arith)))

or_comm : (a b : Bool) → (a || b) ≡ (b || a)
or_comm true true = refl
or_comm true false = refl
or_comm false true = refl
or_comm false false = refl

-- with the k-th automation in it
some_with : (a k : ℕ) (f : ℕ → Bool) (n i : ℕ) → i ≤ k → k < i + n
    → some_of (bit_or a (2 ^ k)) f n i ≡ (some_of a f n i || f k)
unfolding some_of any places
some_with a k f zero i h b = absurd (omega arith)
some_with a k f (suc n) i h b = elim (dec_lt i k) [
  | yes l ↦
      let z : holds (bit_or a (2 ^ k)) i ≡ holds a i
      = holds_with a k i ∙ ap (λ (x : Bool). holds a i || x) (ne_eqb k i (λ e. omega arith)) ∙ or_false (holds a i) in
      ap (λ (x : Bool). x && f i || some_of (bit_or a (2 ^ k)) f n (i + 1)) z
      ∙ ap (λ (x : Bool). holds a i && f i || x) (some_with a k f n (i + 1) (omega arith) (omega arith))
      ∙ sym (or_assoc (holds a i && f i) (some_of a f n (i + 1)) (f k))
  | no l ↦
      let y : k ≡ i = omega arith in
      let z : holds (bit_or a (2 ^ k)) i ≡ true
      = holds_with a k i ∙ ap (λ (x : Bool). holds a i || x) (eq-eqb k i y) ∙ or_comm (holds a i) true in
      ap (λ (x : Bool). x && f i || some_of (bit_or a (2 ^ k)) f n (i + 1)) z
      ∙ ap (λ (x : Bool). f i || x) (same y)
      ∙ both (holds a i) (f i) (some_of a f n (i + 1))
      ∙ ap (λ (j : ℕ). (holds a i && f i || some_of a f n (i + 1)) || f j) (sym y)
]
  where
    same : k ≡ i → some_of (bit_or a (2 ^ k)) f n (i + 1) ≡ some_of a f n (i + 1)
    same y = any_places (λ j. holds (bit_or a (2 ^ k)) j && f j) (λ j. holds a j && f j) n (i + 1)
        (λ j u v. ap (λ (x : Bool). x && f j)
        (holds_with a k j ∙ ap (λ (x : Bool). holds a j || x) (ne_eqb k j (λ e. omega arith)) ∙ or_false (holds a j)))

    both : (x y z : Bool) → (y || z) ≡ ((x && y || z) || y)
    both true true z = refl
    both true false true = refl
    both true false false = refl
    both false true true = refl
    both false true false = refl
    both false false true = refl
    both false false false = refl

pub some_none : (f : ℕ → Bool) (n i : ℕ) → some_of 0 f n i ≡ false
unfolding some_of any places
some_none f zero i = refl
some_none f (suc n) i = rw (holds_none i) (some_none f n (i + 1))

-- ---- the rounds

module _ {s : List ℕ} {d : Names} {rs : Section} {ts : List Text} {m : Model} (st : Stage s d rs ts m) where
  abbrev n : ℕ
  n = length m.rules

  abbrev R : ℕ → Automation
  R = rule_of st

  abbrev W : ℕ → ℕ
  W i = writes_m s d.entities (walk_m s (rule_start st i))

  abbrev N : ℕ → ℕ
  N i = needs_m s d.entities (rule_start st i) (walk_m s (rule_start st i))

  -- what the sets hold, against the lists
  pub record Kept (as' ins : List Text) (c : ConeSets) : Type 0 where
    pub small : c.entities < 2 ^ 32
    pub inside : Inside s d.entities ts (es st) st.grounds c.entities
    pub declared : (j : ℕ) → j < length (es st) → holds c.entities j ≡ mem_t (name_at (es st) j) as'
    pub few : c.automations < 2 ^ 32
    pub beyond : (i : ℕ) → n ≤ i → i < 32 → holds c.automations i ≡ false
    pub taken : (i : ℕ) → i < n → holds c.automations i ≡ mem_t (R i).id ins
    pub strange : (t : Text) → Strange st t → mem_t t as' ≡ some_of c.automations (λ i. mem_t t (reads_of (R i))) n 0

  -- ---- one round

  few_rules : n ≤ 32
  few_rules = st.lawful.few_rules

  few_entities : d.entities.count ≤ 32
  few_entities = omega (arith, st.grounds.counts, st.grounds.few)

  toggle_bounded : (p : ℕ) → Bounded (add_toggle_m s d.entities p)
  unfolding Bounded add_toggle_m
  toggle_bounded p x b =
      if_bounded s d.entities few_entities (eqb (kind_m s p) 1) _ _
      (entity_bounded s d.entities few_entities (place_m s (past s p 9)) x b) b

  needs_small : (i : ℕ) → N i < 2 ^ 32
  unfolding needs_m Bounded
  needs_small i =
      over_bounded s d.entities few_entities (add_toggle_m s d.entities) toggle_bounded
      (walk_m s (rule_start st i)).list (walk_m s (rule_start st i)).count 0 _
      (reads_small s d.entities few_entities (rule_start st i) (walk_m s (rule_start st i)))

  effect_not : (t : Text) → Strange st t → (a : Action) → FineA (es st) a → mem_t t (toggles a.effect) ≡ false
  unfolding toggles
  effect_not t h a f = cases a.effect f
    where
      cases : (x : Effect) → Fine (es st) x → mem_t t (toggles x) ≡ false
      cases (Effect.set x v) f = mem_none t
      cases (toggle x) f = one_not st t x h f
      cases (delay x) f = mem_none t
      cases (condition x) f = mem_none t
      cases (choose bs b) f = mem_none t
      cases (wait u y z) f = mem_none t
      cases (Effect.unknown x) f = mem_none t

  -- of undeclared names an automation needs those that it reads
  needs_not : (t : Text) → Strange st t → (i : ℕ) → i < n → mem_t t (needs (R i)) ≡ mem_t t (reads_of (R i))
  unfolding needs toggles_of
  needs_not t h i b =
      let l = flat (λ a. toggles a.effect) (touches.actions_of (R i)) in
      mem_append t (reads_of (R i)) (sorted_t l)
      ∙ ap (λ (x : Bool). mem_t t (reads_of (R i)) || x)
      (mem_sorted t l ∙ flat_not st t (λ a. toggles a.effect) (FineA (es st)) (effect_not t h)
      (touches.actions_of (R i)) (legal_at st i b).actions)
      ∙ or_false (mem_t t (reads_of (R i)))

  inside_or : (x y : ℕ) → Inside s d.entities ts (es st) st.grounds x
      → Inside s d.entities ts (es st) st.grounds y
      → Inside s d.entities ts (es st) st.grounds (bit_or x y)
  unfolding Inside
  inside_or x y f g j u v = holds_or x y j ∙ rw (f j u v) (g j u v)

  module _ (writes needed : List ℕ) (w-is : (k : ℕ) → k < n → get_or writes k 0 ≡ W k)
      (n-is : (k : ℕ) → k < n → get_or needed k 0 ≡ N k) where
    -- the k-th automation comes in
    taken_step : (l ins : List Text) (c : ConeSets) → Kept l ins c → (k : ℕ) → k < n
        → Kept (l ++ needs (R k)) ((R k).id ∷ ins) (taken_m writes needed n c k)
    unfolding taken_m
    taken_step l ins c h k b =
        subst (λ (y : ℕ). Kept (l ++ needs (R k)) ((R k).id ∷ ins)
        (record { entities = bit_or c.entities y; automations = bit_or c.automations (2 ^ k) })) (sym (n-is k b))
        (record {
          small = or_lt 32 c.entities (N k) h.small (needs_small k);
          inside = inside_or c.entities (N k) h.inside in_needs;
          declared = λ j u. holds_or c.entities (N k) j
              ∙ ap (λ (x : Bool). x || holds (N k) j) (h.declared j u)
              ∙ ap (λ (x : Bool). mem_t (name_at (es st) j) l || x) (held j u)
              ∙ sym (mem_append (name_at (es st) j) l (needs (R k)));
          few = or_lt 32 c.automations (2 ^ k) h.few (pow-lt {j = 32} (omega (arith, few_rules)));
          beyond = λ i u v. holds_with c.automations k i ∙ rw (h.beyond i u v) (ne_eqb k i (λ z. omega arith));
          taken = λ i u. holds_with c.automations k i
              ∙ ap (λ (x : Bool). x || eqb k i) (h.taken i u)
              ∙ or_comm (mem_t (R i).id ins) (eqb k i)
              ∙ ap (λ (x : Bool). x || mem_t (R i).id ins) (eqb_sym k i ∙ sym (ids_apart st i k u b))
              ∙ sym (mem_cons (R i).id (R k).id ins);
          strange = λ t z. mem_append t l (needs (R k))
              ∙ ap (λ (x : Bool). x || mem_t t (needs (R k))) (h.strange t z)
              ∙ ap (λ (x : Bool). some_of c.automations (λ i. mem_t t (reads_of (R i))) n 0 || x) (needs_not t z k b)
              ∙ sym (some_with c.automations k (λ i. mem_t t (reads_of (R i))) n 0 (omega arith) (omega arith));
        })
      where
        in_needs : Inside s d.entities ts (es st) st.grounds (N k)
        in_needs = needs_inside s d.entities ts (es st) st.grounds (rule_start st k) (walk_m s (rule_start st k))
            (R k) (rule_at_lem st k b) (walked_at st k b)

        held : (j : ℕ) → j < length (es st) → holds (N k) j ≡ mem_t (name_at (es st) j) (needs (R k))
        held j u = needs_hold s d.entities ts (es st) st.grounds (rule_start st k) (walk_m s (rule_start st k))
            (R k) (rule_at_lem st k b) (walked_at st k b) j u

    -- whether an automation comes in
    writes_is : (l ins : List Text) (c : ConeSets) → Kept l ins c → (j : ℕ) → j < n
        → not (eqb (bit_and (get_or writes j 0) c.entities) 0) ≡ writes_one l (R j)
    unfolding writes_one
    writes_is l ins c h j b =
        let below : members (W j) ≡ keep (holds (W j)) (places (length (es st)) 0)
        = members_below s d.entities ts (es st) st.grounds (W j)
        (writes_inside s d.entities ts (es st) st.grounds (rule_start st j) (walk_m s (rule_start st j))
        (R j) (rule_at_lem st j b) (walked_at st j b)) in
        ap (λ (x : ℕ). not (eqb (bit_and x c.entities) 0)) (w-is j b)
        ∙ meets (W j) c.entities (writes_small s d.entities few_entities (walk_m s (rule_start st j))) h.small
        ∙ ap (any (holds c.entities)) below
        ∙ any_range (holds (W j)) (holds c.entities) (λ i. mem_t (name_at (es st) i) l) (length (es st)) 0
        (λ i u v. h.declared i (omega arith))
        ∙ ap (any (λ i. mem_t (name_at (es st) i) l)) (sym below)
        ∙ sym (ap (any (λ t. mem_t t l)) (writes_listed st j b) ∙ any_each (λ t. mem_t t l) (name_at (es st)) (members (W j)))

    adds_is : (l ins : List Text) (c : ConeSets) → Kept l ins c → (j : ℕ) → j < n
        → adds_m writes c j ≡ (not (holds c.automations j) && writes_one l (R j))
    unfolding adds_m
    adds_is l ins c h j b =
        ap (λ (x : Bool). if holds c.automations j then false else x) (writes_is l ins c h j b)
        ∙ go (holds c.automations j) (writes_one l (R j))
      where
        go : (x y : Bool) → (if x then false else y) ≡ (not x && y)
        go true y = refl
        go false y = refl

    -- ---- all rounds

    stays : (r : ℕ) (c : ConeSets) → round_m writes needed n c ≡ c → rounds_m writes needed n r c ≡ c
    unfolding rounds_m
    stays zero c e = refl
    stays (suc r) c e = ap (rounds_m writes needed n r) e ∙ stays r c e

    round_none : (c : ConeSets) → first_m writes c n 0 ≡ 0 + n → round_m writes needed n c ≡ c
    unfolding round_m
    round_none c e = rw (e, le-ltb (0 + n) n (omega arith))

    round_some : (c : ConeSets) (k : ℕ) → first_m writes c n 0 ≡ k → k < n
        → round_m writes needed n c ≡ taken_m writes needed n c k
    unfolding round_m
    round_some c k e b = rw (e, lt-ltb k n b)

    close_none : (r : ℕ) (l ins : List Text) (left : List Automation) → pick l left ≡ none
        → close (suc r) l ins left ≡ record { entities = l; automations = ins }
    unfolding close
    close_none r l ins left e = rw (e, close)

    close_some : (r : ℕ) (l ins : List Text) (left : List Automation) (q : Automation) (rest : List Automation)
        → pick l left ≡ some (q, rest)
        → close (suc r) l ins left ≡ close r (l ++ needs q) (q.id ∷ ins) rest
    unfolding close
    close_some r l ins left q rest e = rw (e, close)

    left_but : (c : ConeSets) (k : ℕ)
        → keep (λ i. not (holds c.automations i) && not (eqb k i)) (places n 0) ≡ keep
        (λ i. not (holds (bit_or c.automations (2 ^ k)) i)) (places n 0)
    left_but c k = keep_same _ _ n 0 (λ i u v. go (holds c.automations i) (eqb k i)
        ∙ ap not (sym (holds_with c.automations k i)))
      where
        go : (a b : Bool) → (not a && not b) ≡ not (a || b)
        go true b = refl
        go false b = refl

    pub closing : (r : ℕ) (l ins : List Text) (left : List Automation) (c : ConeSets) → Kept l ins c
        → left ≡ each R (keep (λ i. not (holds c.automations i)) (places n 0))
        → Kept (close r l ins left).entities (close r l ins left).automations (rounds_m writes needed n r c)
    unfolding close rounds_m
    closing zero l ins left c h e = h
    closing (suc r) l ins left c h e =
        by (picks writes c (λ j. writes_one l (R j)) n 0 (λ j u v. adds_is l ins c h j (omega arith)))
        (λ l ins left c h e. closing r l ins left c h e)
      where
        picked : pick l left ≡ lifted R
            (pick_n (λ j. writes_one l (R j)) (keep (λ i. not (holds c.automations i)) (places n 0)))
        picked = ap (pick l) e ∙ pick_is R l (keep (λ i. not (holds c.automations i)) (places n 0))

        Goal : Cone → ConeSets → Type 0
        Goal x y = Kept x.entities x.automations y

        IH : Type 0
        IH = (l ins : List Text) (left : List Automation) (c : ConeSets) → Kept l ins c
            → left ≡ each R (keep (λ i. not (holds c.automations i)) (places n 0))
            → Goal (close r l ins left) (rounds_m writes needed n r c)

        by : Picks writes c (λ j. writes_one l (R j)) n 0 → IH
            → Goal (close (suc r) l ins left) (rounds_m writes needed n (suc r) c)
        by (no_pick u v) ih =
            subst (λ (x : Cone). Goal x (rounds_m writes needed n (suc r) c))
            (sym (close_none r l ins left (picked ∙ ap (lifted R) v)))
            (subst (λ (y : ConeSets). Kept l ins y) (sym (stays (suc r) c (round_none c u))) h)
        by (a_pick k a b u v w) ih =
            let q : k < n = omega arith in
            subst (λ (x : Cone). Goal x (rounds_m writes needed n (suc r) c))
            (sym (close_some r l ins left (R k) _ (picked ∙ ap (lifted R) v)))
            (subst (λ (y : ConeSets). Goal
            (close r (l ++ needs (R k)) ((R k).id ∷ ins)
            (each R (keep (λ i. not (holds c.automations i) && not (eqb k i)) (places n 0))))
            (rounds_m writes needed n r y)) (sym (round_some c k u q))
            (ih (l ++ needs (R k)) ((R k).id ∷ ins) _ (taken_m writes needed n c k) (taken_step l ins c h k q)
            (ap (each R) (left_but c k ∙ taken_out k))))
          where
            taken_out : (k : ℕ) → keep (λ i. not (holds (bit_or c.automations (2 ^ k)) i)) (places n 0) ≡ keep
                (λ i. not (holds (taken_m writes needed n c k).automations i)) (places n 0)
            taken_out k = unfold taken_m in refl
