-- The search: neither search lists a reason, so each case of both was checked to the end, and case by case both say the
-- same. So do the searches: status, number of cases, and the witness's events (`verified_same`).
use Rattle.std.specs.Prelude.{if◌then◌else◌}
use Prim.Native.Nat.{ℕ, zero, suc, ◌+◌}
use mathlib.Core.Bool.{Bool, true, false, ◌||◌, true≢false, false≢true}
use mathlib.Core.List.{List, [], ◌∷◌, ◌++◌}
use mathlib.Core.Option.{Option, none, some}
use mathlib.Core.Path.{◌≡◌, refl, sym, ap, ◌∙◌, subst}
use lib.Dec.{ltb, leb}
use Rattle.texts.specs.Lists.{is_empty, each}
use Rattle.texts.specs.Texts.{Text, text, sorted_t}
use Rattle.model_spec.specs.Answer.{Answer, answer, ◌>>=◌}
use Rattle.model_spec.specs.Model.{Input, Event, Model}
use Rattle.engine_spec.specs.Cells.{Cell}
use Rattle.engine_spec.specs.Records.{Areas}
use Rattle.engine_spec.specs.Unsupported.{unsupported}
use Rattle.checker_spec.specs.Check.{Violation, Check, is_violation, status_of, judged, checked}
use Rattle.checker_spec.specs.Verify.{
  Witness,
  Search,
  Verification,
  last_at,
  after_case,
  out_of_budget,
  unless_stopped,
  Visitor,
  each_input,
  each_gap,
  try_case,
  visit,
  deepen,
  searched,
  found_of,
  verification_of,
  verified,
}
use Rattle.cone_judge.specs.Reading.{violation_told}
use Rattle.noninterference.specs.Demand.{witness_events, witness_incomplete, SameVerification}
use Rattle.cone_engine.proofs.Base.{none_some}
use Rattle.cone_engine.proofs.Slice.{cons_nil}
use Rattle.engine_spec.proofs.Distinct.{answer_eq, bind_inv}
use Rattle.cone_judge.proofs.Check.{nil_l, nil_r, nil_sorted, checked_is}

-- what a witness leaves open, and its events
unfoldable left_open : Option Witness → List Text
left_open none = []
left_open (some w) = w.check.incomplete

unfoldable events_of : Option Witness → Option (List Event)
events_of none = none
events_of (some w) = some w.events

record Clean (o : Search) : Type 0 where
  no_reason : o.reasons ≡ []
  whole : o.stopped ≡ true → left_open o.witness ≡ []

record Twin (o o' : Search) : Type 0 where
  same_cases : o.cases ≡ o'.cases
  same_events : events_of o.witness ≡ events_of o'.witness
  same_stop : o.stopped ≡ o'.stopped

abbrev unsearched : Model → Search
unsearched m = record {
  cases = 0;
  total_steps = 0;
  reasons = unsupported m.rules;
  witness = none;
  shortest =
      false;
  stopped = false;
}

abbrev Go : Type 0
Go = Search → Answer Search

-- a search that is clean after it was clean before
abbrev Fine : Go → Type 0
Fine F = (o o₁ : Search) → F o ≡ answer o₁ → Clean o₁ → Clean o

abbrev Agree : Go → Go → Type 0
Agree F F' = (o o' o₁ o₁' : Search) → Twin o o' → F o ≡ answer o₁ → F' o' ≡ answer o₁' → Clean o₁ → Clean o₁' → Twin o₁ o₁'

-- the same, for one that is called only before the end
abbrev FineGo : Go → Type 0
FineGo F = (o o₁ : Search) → o.stopped ≡ false → F o ≡ answer o₁ → Clean o₁ → o.reasons ≡ []

abbrev AgreeGo : Go → Go → Type 0
AgreeGo F F' = (o o' o₁ o₁' : Search) → o.stopped ≡ false → o'.stopped ≡ false → Twin o o' → F o ≡ answer o₁
    → F' o' ≡ answer o₁' → Clean o₁ → Clean o₁' → Twin o₁ o₁'

answer_fine : Fine (λ o. answer o)
answer_fine o o₁ e c = subst Clean (sym (answer_eq e)) c

answer_agree : Agree (λ o. answer o) (λ o. answer o)
answer_agree o o' o₁ o₁' t e e' c c' = subst (λ (x : Search). Twin x o₁') (answer_eq e) (subst (Twin o) (answer_eq e') t)

unless_fine : (go : Go) → FineGo go → Fine (unless_stopped go)
unfolding unless_stopped
unless_fine go f o o₁ e c = by o.stopped refl e
  where
    by : (b : Bool) → o.stopped ≡ b → elim b [ true ↦ answer o | false ↦ go o ] ≡ answer o₁ → Clean o
    by true s p = answer_fine o o₁ p c
    by false s p = record { no_reason = f o o₁ s p c; whole = λ q. absurd (true≢false (sym q ∙ s)) }

unless_agree : (go go' : Go) → AgreeGo go go' → Agree (unless_stopped go) (unless_stopped go')
unfolding unless_stopped
unless_agree go go' f o o' o₁ o₁' t e e' c c' = by o.stopped o'.stopped refl refl e e'
  where
    by : (b b' : Bool) → o.stopped ≡ b → o'.stopped ≡ b' → elim b [ true ↦ answer o | false ↦ go o ] ≡ answer o₁
        → elim b' [ true ↦ answer o' | false ↦ go' o' ] ≡ answer o₁' → Twin o₁ o₁'
    by true true s s' p p' = answer_agree o o' o₁ o₁' t p p' c c'
    by false false s s' p p' = f o o' o₁ o₁' s s' t p p' c c'
    by true false s s' p p' = absurd (true≢false (sym s ∙ t.same_stop ∙ s'))
    by false true s s' p p' = absurd (false≢true (sym s ∙ t.same_stop ∙ s'))

then_fine : (F G : Go) → Fine F → Fine G → Fine (λ o. F o >>= G)
then_fine F G f g o o₁ e c =
    let b : (n : Search) × ((F o ≡ answer n) × (G n ≡ answer o₁)) = bind_inv (F o) G o₁ e in
    f o b.0 b.1.0 (g b.0 o₁ b.1.1 c)

then_agree : (F F' G G' : Go) → Agree F F' → Fine G → Fine G' → Agree G G' → Agree (λ o. F o >>= G) (λ o. F' o >>= G')
then_agree F F' G G' f g g' h o o' o₁ o₁' t e e' c c' =
    let b : (n : Search) × ((F o ≡ answer n) × (G n ≡ answer o₁)) = bind_inv (F o) G o₁ e in
    let b' : (n : Search) × ((F' o' ≡ answer n) × (G' n ≡ answer o₁')) = bind_inv (F' o') G' o₁' e' in
    h b.0 b'.0 o₁ o₁' (f o o' b.0 b'.0 t b.1.0 b'.1.0 (g b.0 o₁ b.1.1 c)
    (g' b'.0 o₁' b'.1.1 c')) b.1.1 b'.1.1 c c'

-- ---- inputs and gaps

inputs_fine : (go : Visitor) → ((l : List Event) → FineGo (go l)) → (l : List Event) (at : ℕ) (is : List Input)
    → Fine (each_input go l at is)
unfolding each_input
inputs_fine go f l at [] = answer_fine
inputs_fine go f l at (i ∷ is) =
    then_fine (unless_stopped (go (l ++ record { at = at; input = i } ∷ []))) (each_input go l at is)
    (unless_fine (go (l ++ record { at = at; input = i } ∷ [])) (f (l ++ record { at = at; input = i } ∷ [])))
    (inputs_fine go f l at is)

inputs_agree : (go go' : Visitor) → ((l : List Event) → FineGo (go l)) → ((l : List Event) → FineGo (go' l))
    → ((l : List Event) → AgreeGo (go l) (go' l)) → (l : List Event) (at : ℕ) (is : List Input)
    → Agree (each_input go l at is) (each_input go' l at is)
unfolding each_input
inputs_agree go go' f f' h l at [] = answer_agree
inputs_agree go go' f f' h l at (i ∷ is) =
    then_agree (unless_stopped (go (l ++ record { at = at; input = i } ∷ [])))
    (unless_stopped (go' (l ++ record { at = at; input = i } ∷ []))) (each_input go l at is) (each_input go' l at is)
    (unless_agree (go (l ++ record { at = at; input = i } ∷ [])) (go' (l ++ record { at = at; input = i } ∷ []))
    (h (l ++ record { at = at; input = i } ∷ [])))
    (inputs_fine go f l at is) (inputs_fine go' f' l at is) (inputs_agree go go' f f' h l at is)

-- one gap, if it stays within the horizon
abbrev one_gap : Bool → Go → Go
one_gap b F o = elim b [ true ↦ answer o | false ↦ F o ]

gap_fine : (b : Bool) (F : Go) → Fine F → Fine (one_gap b F)
gap_fine true F f = answer_fine
gap_fine false F f = f

gap_agree : (b : Bool) (F F' : Go) → Agree F F' → Agree (one_gap b F) (one_gap b F')
gap_agree true F F' f = answer_agree
gap_agree false F F' f = f

gaps_fine : (go : Visitor) → ((l : List Event) → FineGo (go l))
    → (l : List Event) (h : ℕ) (is : List Input) (gs : List ℕ) → Fine (each_gap go l h is gs)
unfolding each_gap
gaps_fine go f l h is [] = answer_fine
gaps_fine go f l h is (g ∷ gs) =
    then_fine (one_gap (ltb h (last_at l + g)) (each_input go l (last_at l + g) is)) (each_gap go l h is gs)
    (gap_fine (ltb h (last_at l + g)) (each_input go l (last_at l + g) is)
    (inputs_fine go f l (last_at l + g) is)) (gaps_fine go f l h is gs)

gaps_agree : (go go' : Visitor) → ((l : List Event) → FineGo (go l)) → ((l : List Event) → FineGo (go' l))
    → ((l : List Event) → AgreeGo (go l) (go' l)) → (l : List Event) (h : ℕ) (is : List Input) (gs : List ℕ)
    → Agree (each_gap go l h is gs) (each_gap go' l h is gs)
unfolding each_gap
gaps_agree go go' f f' k l h is [] = answer_agree
gaps_agree go go' f f' k l h is (g ∷ gs) =
    then_agree (one_gap (ltb h (last_at l + g)) (each_input go l (last_at l + g) is))
    (one_gap (ltb h (last_at l + g)) (each_input go' l (last_at l + g) is)) (each_gap go l h is gs)
    (each_gap go' l h is gs)
    (gap_agree (ltb h (last_at l + g)) (each_input go l (last_at l + g) is) (each_input go' l (last_at l + g) is)
    (inputs_agree go go' f f' k l (last_at l + g) is))
    (gaps_fine go f l h is gs) (gaps_fine go' f' l h is gs) (gaps_agree go go' f f' k l h is gs)

-- ---- one case

-- the search after a case, by what was found
abbrev after_as : Bool → List Event → Check → Search → Search
after_as found events c o = record {
  cases = o.cases + 1;
  total_steps = o.total_steps + c.simulation.steps;
  reasons = if found then o.reasons else sorted_t (o.reasons ++ c.unknown ++ c.incomplete);
  witness = if found then some (record { events = events; check = c }) else o.witness;
  shortest = if found then is_empty o.reasons else o.shortest;
  stopped = found;
}

after_is : (events : List Event) (c : Check) (o : Search)
    → after_case events c o ≡ after_as (is_violation c.status) events c o
unfolding after_case
after_is events c o = refl

spent_unclean : (o : Search) → Clean (out_of_budget o) → ⊥
unfolding out_of_budget
spent_unclean o c = cons_nil (nil_r o.reasons (text "search budget exhausted" ∷ []) c.no_reason)

case_inv : (areas : Areas) (m : Model) (cells : List Cell) (events : List Event) (o o₁ : Search)
    → try_case areas m cells events o ≡ answer o₁ → Clean o₁
    → (c : Check) × ((checked areas m cells events ≡ answer c) × (o₁ ≡ after_as (is_violation c.status) events c o))
unfolding try_case
case_inv areas m cells events o o₁ e k =
    go (leb m.scenario.limits.max_cases o.cases || leb 200000 o.total_steps) e
  where
    go : (b : Bool) → elim b [
      | true ↦ answer (out_of_budget o)
      | false ↦ checked areas m cells events >>=
          λ c. answer (after_case events c o)
    ] ≡ answer o₁
        → (c : Check) × ((checked areas m cells events ≡ answer c) × (o₁ ≡ after_as (is_violation c.status) events c o))
    go true p = absurd (spent_unclean o (subst Clean (sym (answer_eq p)) k))
    go false p =
        let b : (c : Check) × ((checked areas m cells events ≡ answer c)
        × (answer (after_case events c o) ≡ answer o₁)) =
        bind_inv (checked areas m cells events) (λ c. answer (after_case events c o)) o₁ p in
        (b.0, (b.1.0, sym (answer_eq b.1.1) ∙ after_is events b.0 o))

case_fine : (areas : Areas) (m : Model) (cells : List Cell) (events : List Event) → FineGo (try_case areas m cells events)
case_fine areas m cells events o o₁ s e k =
    let b : (c : Check) × ((checked areas m cells events ≡ answer c)
    × (o₁ ≡ after_as (is_violation c.status) events c o)) = case_inv areas m cells events o o₁ e k in
    go b.0 (is_violation b.0.status) (subst Clean b.1.1 k)
  where
    go : (c : Check) (f : Bool) → Clean (after_as f events c o) → o.reasons ≡ []
    go c true q = q.no_reason
    go c false q = nil_l o.reasons c.unknown
        (nil_l (o.reasons ++ c.unknown) c.incomplete
        (nil_sorted (o.reasons ++ c.unknown ++ c.incomplete) q.no_reason))

-- what a check's status says
record Judged (c : Check) : Type 0 where
  status_is : c.status ≡ status_of c.violations c.unknown c.incomplete
  complete : c.incomplete ≡ [] → c.simulation.incomplete ≡ []

is_judged : (areas : Areas) (m : Model) (cells : List Cell) (events : List Event) (c : Check)
    → checked areas m cells events ≡ answer c → Judged c
unfolding judged
is_judged areas m cells events c e =
    subst Judged (sym (checked_is areas m cells events c e))
    (record { status_is = refl; complete = λ q. nil_l _ _ (nil_sorted _ q) })

no_violation : (us is : List Text) → is_violation (status_of [] us is) ≡ false
unfolding status_of is_empty is_violation
no_violation [] [] = refl
no_violation [] (i ∷ is) = refl
no_violation (u ∷ us) is = refl

not_violated : (vs : List Violation) (is : List Text) → is_violation (status_of vs [] is) ≡ false → vs ≡ []
unfolding status_of is_empty is_violation
not_violated [] is e = refl
not_violated (v ∷ vs) is e = absurd (true≢false e)

told_nil : (vs vs' : List Violation) → each violation_told vs ≡ each violation_told vs' → vs' ≡ [] → vs ≡ []
unfolding each
told_nil [] vs' e z = refl
told_nil (v ∷ vs) [] e z = absurd (cons_nil e)
told_nil (v ∷ vs) (w ∷ ws) e z = absurd (cons_nil z)

clash : (c c' : Check) → Judged c → Judged c' → is_violation c.status ≡ true → is_violation c'.status ≡ false
    → c'.unknown ≡ []
    → each violation_told c.violations ≡ each violation_told c'.violations → ⊥
clash c c' j j' v v' u t =
    true≢false (sym v ∙ ap is_violation j.status_is
    ∙ ap (λ (l : List Violation). is_violation (status_of l c.unknown c.incomplete)) none_here
    ∙ no_violation c.unknown c.incomplete)
  where
    none_there : c'.violations ≡ []
    none_there = not_violated c'.violations c'.incomplete
        (sym (ap (λ (l : List Text). is_violation (status_of c'.violations l c'.incomplete)) u)
        ∙ sym (ap is_violation j'.status_is) ∙ v')

    none_here : c.violations ≡ []
    none_here = told_nil c.violations c'.violations t none_there

module _ (areas areas' : Areas) (m m' : Model) (cells cells' : List Cell)
    (agree : (events : List Event) (c c' : Check) → checked areas m cells events ≡ answer c
    → checked areas' m' cells' events ≡ answer c' → c.simulation.incomplete ≡ [] → c'.simulation.incomplete ≡ []
    → each violation_told c.violations ≡ each violation_told c'.violations)
    (same_depth : m.scenario.limits.search_depth ≡ m'.scenario.limits.search_depth)
    (same_horizon : m.scenario.limits.horizon ≡ m'.scenario.limits.horizon)
    (same_alphabet : m.scenario.alphabet ≡ m'.scenario.alphabet)
    (same_gaps : m.scenario.gaps ≡ m'.scenario.gaps) where
  case_agree : (events : List Event) → AgreeGo (try_case areas m cells events) (try_case areas' m' cells' events)
  case_agree events o o' o₁ o₁' s s' t e e' k k' =
      let b : (c : Check) × ((checked areas m cells events ≡ answer c)
      × (o₁ ≡ after_as (is_violation c.status) events c o)) = case_inv areas m cells events o o₁ e k in
      let b' : (c : Check) × ((checked areas' m' cells' events ≡ answer c)
      × (o₁' ≡ after_as (is_violation c.status) events c o')) = case_inv areas' m' cells' events o' o₁' e' k' in
      subst (λ (x : Search). Twin x o₁') (sym b.1.1)
      (subst (Twin (after_as (is_violation b.0.status) events b.0 o)) (sym b'.1.1)
      (go b.0 b'.0 b.1.0 b'.1.0 (is_violation b.0.status) (is_violation b'.0.status) refl refl
      (subst Clean b.1.1 k) (subst Clean b'.1.1 k')))
    where
      go : (c c' : Check) → checked areas m cells events ≡ answer c → checked areas' m' cells' events ≡ answer c'
          → (f f' : Bool) → is_violation c.status ≡ f → is_violation c'.status ≡ f'
          → Clean (after_as f events c o) → Clean (after_as f' events c' o')
          → Twin (after_as f events c o) (after_as f' events c' o')
      go c c' p p' true true v v' q q' =
          record {
            same_cases = ap (λ (n : ℕ). n + 1) t.same_cases;
            same_events = unfold events_of in
                refl;
            same_stop = refl;
          }
      go c c' p p' false false v v' q q' =
          record { same_cases = ap (λ (n : ℕ). n + 1) t.same_cases; same_events = t.same_events; same_stop = refl }
      go c c' p p' true false v v' q q' =
          let n : o'.reasons ++ c'.unknown ++ c'.incomplete ≡ [] =
          nil_sorted (o'.reasons ++ c'.unknown ++ c'.incomplete) q'.no_reason in
          absurd (clash c c' (is_judged areas m cells events c p) (is_judged areas' m' cells' events c' p') v v'
          (nil_r o'.reasons c'.unknown (nil_l (o'.reasons ++ c'.unknown) c'.incomplete n))
          (agree events c c' p p' ((is_judged areas m cells events c p).complete
          (unfold left_open in (q.whole refl)))
          ((is_judged areas' m' cells' events c' p').complete (nil_r (o'.reasons ++ c'.unknown) c'.incomplete n))))
      go c c' p p' false true v v' q q' =
          let n : o.reasons ++ c.unknown ++ c.incomplete ≡ [] =
          nil_sorted (o.reasons ++ c.unknown ++ c.incomplete) q.no_reason in
          absurd (clash c' c (is_judged areas' m' cells' events c' p') (is_judged areas m cells events c p) v' v
          (nil_r o.reasons c.unknown (nil_l (o.reasons ++ c.unknown) c.incomplete n))
          (sym (agree events c c' p p'
          ((is_judged areas m cells events c p).complete (nil_r (o.reasons ++ c.unknown) c.incomplete n))
          ((is_judged areas' m' cells' events c' p').complete (unfold left_open in (q'.whole refl))))))

  -- ---- all cases

  visit_fine : (areas : Areas) (m : Model) (cells : List Cell) (n : ℕ) (events : List Event)
      → FineGo (visit areas m cells n events)
  unfolding visit
  visit_fine areas m cells zero events o o₁ s e k = case_fine areas m cells events o o₁ s e k
  visit_fine areas m cells (suc n) events o o₁ s e k =
      (gaps_fine (visit areas m cells n) (visit_fine areas m cells n) events m.scenario.limits.horizon
      m.scenario.alphabet m.scenario.gaps o o₁ e k).no_reason

  visit_agree : (n : ℕ) (events : List Event) → AgreeGo (visit areas m cells n events) (visit areas' m' cells' n events)
  unfolding visit
  visit_agree zero events o o' o₁ o₁' s s' t e e' k k' = case_agree events o o' o₁ o₁' s s' t e e' k k'
  visit_agree (suc n) events o o' o₁ o₁' s s' t e e' k k' =
      gaps_agree (visit areas m cells n) (visit areas' m' cells' n) (visit_fine areas m cells n)
      (visit_fine areas' m' cells' n) (visit_agree n) events m.scenario.limits.horizon
      m.scenario.alphabet m.scenario.gaps
      o o' o₁ o₁' t e (rw (same_horizon, same_alphabet, same_gaps) e') k k'

  deepen_fine : (areas : Areas) (m : Model) (cells : List Cell) (n d : ℕ) → Fine (deepen areas m cells n d)
  unfolding deepen
  deepen_fine areas m cells zero d = answer_fine
  deepen_fine areas m cells (suc n) d =
      then_fine (unless_stopped (visit areas m cells d [])) (deepen areas m cells n (d + 1))
      (unless_fine (visit areas m cells d []) (visit_fine areas m cells d [])) (deepen_fine areas m cells n (d + 1))

  deepen_agree : (n d : ℕ) → Agree (deepen areas m cells n d) (deepen areas' m' cells' n d)
  unfolding deepen
  deepen_agree zero d = answer_agree
  deepen_agree (suc n) d =
      then_agree (unless_stopped (visit areas m cells d [])) (unless_stopped (visit areas' m' cells' d []))
      (deepen areas m cells n (d + 1)) (deepen areas' m' cells' n (d + 1))
      (unless_agree (visit areas m cells d []) (visit areas' m' cells' d []) (visit_agree d []))
      (deepen_fine areas m cells n (d + 1)) (deepen_fine areas' m' cells' n (d + 1)) (deepen_agree n (d + 1))

  searched_agree : (o o' : Search) → searched areas m cells ≡ answer o → searched areas' m' cells' ≡ answer o'
      → Clean o → Clean o' → Twin o o'
  unfolding searched
  searched_agree o o' e e' k k' =
      deepen_agree (m.scenario.limits.search_depth + 1) 0 (unsearched m) (unsearched m') o o'
      (record { same_cases = refl; same_events = refl; same_stop = refl }) e (rw same_depth e') k k'

  found_same : (w w' : Option Witness) → events_of w ≡ events_of w' → found_of w [] ≡ found_of w' []
  unfolding events_of found_of
  found_same none none e = refl
  found_same none (some w) e = absurd (none_some e)
  found_same (some w) none e = absurd (none_some (sym e))
  found_same (some w) (some w') e = refl

  reasons_nil : (k : Model) (o : Search) → (verification_of k o).reasons ≡ [] → sorted_t o.reasons ≡ []
  unfolding verification_of
  reasons_nil k o r = r

  status_is : (k : Model) (o : Search) → (verification_of k o).reasons ≡ [] →
      (verification_of k o).status ≡ found_of o.witness []
  unfolding verification_of
  status_is k o r = ap (found_of o.witness) r

  pub verified_same : (v v' : Verification) → verified areas m cells ≡ answer v
      → verified areas' m' cells' ≡ answer v' → v.reasons ≡ [] → v'.reasons ≡ [] → witness_incomplete v ≡ []
      → witness_incomplete v' ≡ []
      → SameVerification v v'
  unfolding verified
  verified_same v v' e e' =
      let b : (o : Search) × ((searched areas m cells ≡ answer o) × (answer (verification_of m o) ≡ answer v)) =
      bind_inv (searched areas m cells) (λ o. answer (verification_of m o)) v e in
      let b' : (o : Search) × ((searched areas' m' cells' ≡ answer o) × (answer (verification_of m' o) ≡ answer v')) =
      bind_inv (searched areas' m' cells') (λ o. answer (verification_of m' o)) v' e' in
      rw (← (answer_eq b.1.1), ← (answer_eq b'.1.1)) (go b.0 b'.0 b.1.0 b'.1.0)
    where
      open_is : (k : Model) (o : Search) → witness_incomplete (verification_of k o) ≡ left_open o.witness
      open_is k o = unfold witness_incomplete verification_of in (by o.witness)
        where
          by : (w : Option Witness) → elim w [ none ↦ [] | some w ↦ w.check.incomplete ] ≡ left_open w
          by none = unfold left_open in refl
          by (some w) = unfold left_open in refl

      events_is : (k : Model) (o : Search) → witness_events (verification_of k o) ≡ events_of o.witness
      events_is k o = unfold witness_events verification_of in (by o.witness)
        where
          by : (w : Option Witness) → elim w [ none ↦ none | some w ↦ some w.events ] ≡ events_of w
          by none = unfold events_of in refl
          by (some w) = unfold events_of in refl

      clean : (k : Model) (o : Search) → (verification_of k o).reasons ≡ [] → witness_incomplete (verification_of k o) ≡ []
          → Clean o
      clean k o r w = record {
        no_reason = nil_sorted o.reasons (reasons_nil k o r);
        whole =
            λ q. sym (open_is k o) ∙ w;
      }

      cases_is : (k : Model) (o : Search) → (verification_of k o).cases ≡ o.cases
      cases_is k o = unfold verification_of in refl

      go : (o o' : Search) → searched areas m cells ≡ answer o → searched areas' m' cells' ≡ answer o'
          → (verification_of m o).reasons ≡ [] → (verification_of m' o').reasons ≡ []
          → witness_incomplete (verification_of m o) ≡ [] → witness_incomplete (verification_of m' o') ≡ []
          → SameVerification (verification_of m o) (verification_of m' o')
      go o o' p p' r r' w w' =
          let t : Twin o o' = searched_agree o o' p p' (clean m o r w) (clean m' o' r' w') in
          record {
            status = status_is m o r ∙ found_same o.witness o'.witness t.same_events ∙ sym (status_is m' o' r');
            cases = cases_is m o ∙ t.same_cases ∙ sym (cases_is m' o');
            events = events_is m o ∙ t.same_events ∙ sym (events_is m' o');
          }
