-- What a search checks are cases, and what a reduction leaves are some of the events that it began with.
use Rattle.std.specs.Prelude.{if◌then◌else◌}
use Prim.Native.Nat.{ℕ, zero, suc, ◌+◌, ◌≤◌}
use mathlib.Core.Path.{◌≡◌, refl, subst}
use mathlib.Core.Bool.{Bool, true, false, ◌||◌}
use mathlib.Core.List.{List, [], ◌∷◌, ◌++◌, Memᴰ}
use mathlib.Core.Option.{Option, none, some}
use native.Mathlib.Omega.{arith}
use lib.Dec.{ltb, leb}
use lib.ListN.{length, length-append}
use borrow.Author.Tests.{ltb-false}
use Rattle.texts.specs.Lists.{is_empty}
use Rattle.texts.specs.Texts.{Text}
use Rattle.model_spec.specs.Answer.{Answer, answer, ◌>>=◌, ◌and◌, ◌when◌}
use Rattle.model_spec.specs.Model.{Input, Event, Scenario, Model}
use Rattle.model_spec.specs.Events.{Some}
use Rattle.model_spec.specs.Validate.{accepted}
use Rattle.engine_spec.specs.Cells.{Cell, initial_cells}
use Rattle.engine_spec.specs.Records.{Areas}
use Rattle.engine_spec.proofs.Lists as lists
use Rattle.engine_spec.proofs.Validated.{answer_eq, and_inv, bind_inv}
use Rattle.checker_spec.specs.Check.{Check, is_violation, checked}
use Rattle.checker_spec.specs.Verify.{
  Witness,
  Search,
  Verification,
  last_at,
  after_case,
  out_of_budget,
  unless_stopped,
  each_input,
  each_gap,
  try_case,
  visit,
  deepen,
  searched,
  verification_of,
  verified,
  short_of_room,
  verify,
}
use Rattle.checker_spec.specs.Minimize.{Reduced, Minimized, remove, violates, reduce, minimized, minimize}
use Rattle.checker_spec.specs.Candidates.{Placed, nothing_yet, one_more, Case}
use Rattle.checker_spec.proofs.Some.{some_all, some_some, remove_some}

-- ---- a search checks nothing but cases: what each check of a case keeps, it keeps

module _ (areas : Areas) (m : Model) (cells : List Cell) (P : Search → Type 0)
    (keeps : (vs : List Event) → Case m vs → (o next : Search) → P o → try_case areas m cells vs o ≡ answer next →
    P next) where
  abbrev s : Scenario
  s = m.scenario

  abbrev Kept : (Search → Answer Search) → Type 0
  Kept go = (o next : Search) → P o → go o ≡ answer next → P next

  unless_keeps : (go : Search → Answer Search) → Kept go → Kept (unless_stopped go)
  unfolding unless_stopped
  unless_keeps go k o next h = by o.stopped
    where
      by : (b : Bool) → elim b [ true ↦ answer o | false ↦ go o ] ≡ answer next → P next
      by true e = subst P (answer_eq e) h
      by false e = k o next h e

  -- n more events are placed behind vs
  abbrev VisitKeeps : ℕ → List Event → Type 0
  VisitKeeps n vs = Placed s vs → length vs + n ≤ s.limits.search_depth → Kept (visit areas m cells n vs)

  module _ (n : ℕ) (below : (vs : List Event) → VisitKeeps n vs) (vs : List Event) (p : Placed s vs)
      (room : length vs + suc n ≤ s.limits.search_depth) where
    longer : (e : Event) → length (vs ++ e ∷ []) + n ≤ s.limits.search_depth
    longer e = omega (arith, length-append vs (e ∷ []), room)

    inputs_keep : (g : ℕ) → Memᴰ g s.gaps → last_at vs + g ≤ s.limits.horizon → (is : List Input) →
        ((i : Input) → Memᴰ i is → Memᴰ i s.alphabet) →
        Kept (each_input (visit areas m cells n) vs (last_at vs + g) is)
    unfolding each_input
    inputs_keep g a h [] in-alphabet o next k e = subst P (answer_eq e) k
    inputs_keep g a h (i ∷ is) in-alphabet o next k e =
        let b = bind_inv _ _ next e in
        let v : Event = record { at = last_at vs + g; input = i } in
        let q = one_more p a (in-alphabet i (Memᴰ.head refl)) h in
        let one = unless_keeps (visit areas m cells n (vs ++ v ∷ [])) (below (vs ++ v ∷ []) q (longer v))
        o b.0 k b.1.0 in
        inputs_keep g a h is (λ i t. in-alphabet i (Memᴰ.tail t)) b.0 next one b.1.1

    gaps_keep : (gs : List ℕ) → ((g : ℕ) → Memᴰ g gs → Memᴰ g s.gaps) →
        Kept (each_gap (visit areas m cells n) vs s.limits.horizon s.alphabet gs)
    unfolding each_gap
    gaps_keep [] in-gaps o next k e = subst P (answer_eq e) k
    gaps_keep (g ∷ gs) in-gaps o next k e =
        let b = bind_inv _ _ next e in
        let one = by (lists.case (ltb s.limits.horizon (last_at vs + g))) b.0 b.1.0 in
        gaps_keep gs (λ g t. in-gaps g (Memᴰ.tail t)) b.0 next one b.1.1
      where
        by : lists.Case (ltb s.limits.horizon (last_at vs + g)) → (x : Search) →
            elim (ltb s.limits.horizon (last_at vs + g)) [
              | true ↦ answer o
              | false ↦ each_input (visit areas m cells n) vs (last_at vs + g) s.alphabet o
            ] ≡ answer x → P x
        by (lists.is_true c) x e = let z : answer o ≡ answer x = rw c at e in subst P (answer_eq z) k
        by (lists.is_false c) x e =
            let z : each_input (visit areas m cells n) vs (last_at vs + g) s.alphabet o ≡ answer x = rw c at e in
            let h = ltb-false s.limits.horizon (last_at vs + g) c in
            inputs_keep g (in-gaps g (Memᴰ.head refl)) h s.alphabet (λ i t. t) o x k z

  visit_keeps : (n : ℕ) (vs : List Event) → VisitKeeps n vs
  unfolding visit
  visit_keeps zero vs p room o next k e = keeps vs (record { placed = p; depth = omega arith }) o next k e
  visit_keeps (suc n) vs p room o next k e =
      gaps_keep n (λ us q r. visit_keeps n us q r) vs p room s.gaps (λ g t. t) o next k e

  pub deepen_keeps : (left d : ℕ) → left + d ≤ s.limits.search_depth + 1 → Kept (deepen areas m cells left d)
  unfolding deepen
  deepen_keeps zero d h o next k e = subst P (answer_eq e) k
  deepen_keeps (suc n) d h o next k e =
      let b = bind_inv _ _ next e in
      let one = unless_keeps (visit areas m cells d []) (visit_keeps d [] nothing_yet (omega arith)) o b.0 k b.1.0 in
      deepen_keeps n (d + 1) (omega arith) b.0 next one b.1.1

-- a witness's events are a case, and its check is theirs
pub record OfCase (areas : Areas) (m : Model) (cells : List Cell) (w : Witness) : Type 0 where
  pub events : Case m w.events
  pub check : checked areas m cells w.events ≡ answer w.check

abbrev Found : Areas → Model → List Cell → Option Witness → Type 0
Found areas m cells none = Unit {0}
Found areas m cells (some w) = OfCase areas m cells w

tried_case : (areas : Areas) (m : Model) (cells : List Cell) (vs : List Event) → Case m vs → (o next : Search) →
    Found areas m cells o.witness → try_case areas m cells vs o ≡ answer next → Found areas m cells next.witness
unfolding try_case
tried_case areas m cells vs c o next h = by (leb m.scenario.limits.max_cases o.cases || leb 200000 o.total_steps)
  where
    after : (b : Bool) (k : Check) → checked areas m cells vs ≡ answer k →
        Found areas m cells (if b then some (record { events = vs; check = k }) else o.witness)
    after true k e = record { events = c; check = e }
    after false k e = h

    by : (b : Bool) → elim b [
      | true ↦ answer (out_of_budget o)
      | false ↦ checked areas m cells vs >>= λ k. answer (after_case vs k o)
    ] ≡ answer next → Found areas m cells next.witness
    by true e = subst (λ (x : Search). Found areas m cells x.witness) (answer_eq e) (unfold out_of_budget in h)
    by false e =
        let b = bind_inv _ _ next e in
        subst (λ (x : Search). Found areas m cells x.witness) (answer_eq b.1.1)
        (unfold after_case in after (is_violation b.0.status) b.0 b.1.0)

verified_case : (areas : Areas) (m : Model) (cells : List Cell) (v : Verification) → verified areas m cells ≡ answer v →
    Found areas m cells v.witness
unfolding verified searched verification_of
verified_case areas m cells v e =
    let b = bind_inv _ _ v e in
    let k = deepen_keeps areas m cells (λ (x : Search). Found areas m cells x.witness) (tried_case areas m cells)
    (m.scenario.limits.search_depth + 1) 0 (omega arith) _ b.0 tt b.1.0 in
    subst (λ (x : Verification). Found areas m cells x.witness) (answer_eq b.1.1) k

-- of an accepted file
module _ (areas : Areas) (output : ℕ) (f : List ℕ) (m : Model) (acc : accepted f ≡ answer m) where
  pub witness_case : (v : Verification) → verify areas output f ≡ answer v → (w : Witness) → v.witness ≡ some w →
      OfCase areas m (initial_cells m.scenario.entities) w
  unfolding verify ◌>>=◌
  witness_case v e w h =
      let r : (20 when is_empty m.scenario.invariants and 44 when short_of_room output f
      and verified areas m (initial_cells m.scenario.entities)) ≡ answer v = rw acc at e in
      let c = verified_case areas m (initial_cells m.scenario.entities) v (and_inv _ _ v (and_inv _ _ v r)) in
      subst (Found areas m (initial_cells m.scenario.entities)) h c

  -- ---- a reduction

  reduced_some : (cells : List Cell) (target : Text) (left made i : ℕ) (vs : List Event) (r : Reduced) →
      reduce areas m cells target left made i vs ≡ answer r → Some r.events vs
  unfolding reduce
  reduced_some cells target zero made i vs r e = subst (λ (x : Reduced). Some x.events vs) (answer_eq e) (some_all vs)
  reduced_some cells target (suc n) made i vs r e =
      by (λ j us x. reduced_some cells target n (made + 1) j us x) (ltb i (length vs)) e
    where
      Below : Type 0
      Below = (j : ℕ) (us : List Event) (x : Reduced) → reduce areas m cells target n (made + 1) j us ≡ answer x →
          Some x.events us

      by : Below → (b : Bool) → elim b [
        | false ↦ answer (record { events = vs; attempts = made; reached = i })
        | true ↦ checked areas m cells (remove i vs) >>= λ c. elim (violates target c) [
          | true ↦ reduce areas m cells target n (made + 1) 0 (remove i vs)
          | false ↦ reduce areas m cells target n (made + 1) (i + 1) vs
        ]
      ] ≡ answer r → Some r.events vs
      by below false e = subst (λ (x : Reduced). Some x.events vs) (answer_eq e) (some_all vs)
      by below true e =
          let b = bind_inv _ _ r e in
          next below (violates target b.0) b.1.1
        where
          next : Below → (b : Bool) → elim b [
            | true ↦ reduce areas m cells target n (made + 1) 0 (remove i vs)
            | false ↦ reduce areas m cells target n (made + 1) (i + 1) vs
          ] ≡ answer r → Some r.events vs
          next below true e = some_some (below 0 (remove i vs) r e) (remove_some i vs)
          next below false e = below (i + 1) vs r e

  -- what is left are some of the events, and the answer's check is theirs
  pub record LeftOf (cells : List Cell) (vs : List Event) (d : Minimized) : Type 0 where
    pub events : Some d.events vs
    pub check : checked areas m cells d.events ≡ answer d.check

  minimized_left : (cells : List Cell) (vs : List Event) (d : Minimized) → minimized areas m cells vs ≡ answer d →
      LeftOf cells vs d
  unfolding minimized
  minimized_left cells vs d e =
      let c = bind_inv _ _ d e in
      let t = bind_inv _ _ d c.1.1 in
      let y = bind_inv _ _ d t.1.1 in
      let k = bind_inv _ _ d y.1.1 in
      subst (LeftOf cells vs) (answer_eq k.1.1)
      (record { events = reduced_some cells t.0 200 0 0 vs y.0 y.1.0; check = k.1.0 })

  pub events_left : (d : Minimized) → minimize areas output f ≡ answer d →
      LeftOf (initial_cells m.scenario.entities) m.scenario.events d
  unfolding minimize ◌>>=◌
  events_left d e =
      let r : (44 when short_of_room output f
      and minimized areas m (initial_cells m.scenario.entities) m.scenario.events) ≡ answer d = rw acc at e in
      minimized_left (initial_cells m.scenario.entities) m.scenario.events d (and_inv _ _ d r)
