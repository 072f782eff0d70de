-- A witness's events are made of the alphabet's inputs: what holds of each of those holds of each input of the witness
-- (`chosen`).
use Prim.Native.Nat.{ℕ, zero, suc, ◌+◌}
use mathlib.Core.Bool.{Bool, true, false, ◌||◌}
use mathlib.Core.List.{List, [], ◌∷◌, ◌++◌}
use mathlib.Core.Option.{Option, none, some}
use mathlib.Core.Path.{◌≡◌, subst}
use lib.Dec.{ltb, leb}
use Rattle.model_spec.specs.Answer.{Answer, answer, ◌>>=◌}
use Rattle.model_spec.specs.Model.{Input, Event, Model}
use Rattle.engine_spec.specs.Cells.{Cell}
use Rattle.engine_spec.specs.Records.{Areas}
use Rattle.engine_spec.proofs.Lists.{Each, if_prop, each_end}
use Rattle.engine_spec.proofs.Distinct.{answer_eq, bind_inv}
use Rattle.checker_spec.specs.Check.{is_violation, checked}
use Rattle.checker_spec.specs.Verify.{
  Witness,
  Search,
  Verification,
  last_at,
  after_case,
  out_of_budget,
  unless_stopped,
  Visitor,
  each_input,
  each_gap,
  try_case,
  visit,
  deepen,
  searched,
  verification_of,
  verified,
}

module _ (P : Input → Type 0) where
  abbrev Made : List Event → Type 0
  Made = Each (λ (e : Event). P e.input)

  abbrev pub Held : Option Witness → Type 0
  Held none = Unit {0}
  Held (some w) = Made w.events

  -- a step of the search that keeps it
  abbrev Keeps : (Search → Answer Search) → Type 0
  Keeps F = (o o₁ : Search) → F o ≡ answer o₁ → Held o.witness → Held o₁.witness

  answer_keeps : Keeps (λ o. answer o)
  answer_keeps o o₁ e h = subst (λ (x : Search). Held x.witness) (answer_eq e) h

  unless_keeps : (go : Search → Answer Search) → Keeps go → Keeps (unless_stopped go)
  unfolding unless_stopped
  unless_keeps go f o o₁ e h = by o.stopped e
    where
      by : (b : Bool) → elim b [ true ↦ answer o | false ↦ go o ] ≡ answer o₁ → Held o₁.witness
      by true p = answer_keeps o o₁ p h
      by false p = f o o₁ p h

  then_keeps : (F G : Search → Answer Search) → Keeps F → Keeps G → Keeps (λ o. F o >>= G)
  then_keeps F G f g o o₁ e h =
      let b = bind_inv (F o) G o₁ e in
      g b.0 o₁ b.1.1 (f o b.0 b.1.0 h)

  inputs_keep : (go : Visitor) → ((l : List Event) → Made l → Keeps (go l))
      → (l : List Event) → Made l → (at : ℕ) (is : List Input) → Each P is → Keeps (each_input go l at is)
  unfolding each_input
  inputs_keep go f l h at [] k = answer_keeps
  inputs_keep go f l h at (i ∷ is) k =
      let e : Event = record { at = at; input = i } in
      then_keeps (unless_stopped (go (l ++ e ∷ []))) (each_input go l at is)
      (unless_keeps (go (l ++ e ∷ [])) (f (l ++ e ∷ []) (each_end (λ (e : Event). P e.input) l e h k.0)))
      (inputs_keep go f l h at is k.1)

  gap_keeps : (b : Bool) (F : Search → Answer Search) → Keeps F → Keeps (λ o. elim b [ true ↦ answer o | false ↦ F o ])
  gap_keeps true F f = answer_keeps
  gap_keeps false F f = f

  gaps_keep : (go : Visitor) → ((l : List Event) → Made l → Keeps (go l))
      → (l : List Event) → Made l → (n : ℕ) (is : List Input) → Each P is → (gs : List ℕ) → Keeps (each_gap go l n is gs)
  unfolding each_gap
  gaps_keep go f l h n is k [] = answer_keeps
  gaps_keep go f l h n is k (g ∷ gs) =
      let F : Search → Answer Search = each_input go l (last_at l + g) is in
      then_keeps (λ o. elim (ltb n (last_at l + g)) [ true ↦ answer o | false ↦ F o ]) (each_gap go l n is gs)
      (gap_keeps (ltb n (last_at l + g)) F (inputs_keep go f l h (last_at l + g) is k))
      (gaps_keep go f l h n is k gs)

  module _ (areas : Areas) (m : Model) (cells : List Cell) (inputs : Each P m.scenario.alphabet) where
    case_keeps : (l : List Event) → Made l → Keeps (try_case areas m cells l)
    unfolding try_case
    case_keeps l k o o₁ e h = by (leb m.scenario.limits.max_cases o.cases || leb 200000 o.total_steps) e
      where
        by : (b : Bool) → elim b [
          | true ↦ answer (out_of_budget o)
          | false ↦ checked areas m cells l >>= λ c. answer (after_case l c o)
        ] ≡ answer o₁ → Held o₁.witness
        by true p = subst (λ (x : Search). Held x.witness) (answer_eq p) (unfold out_of_budget in h)
        by false p =
            let b = bind_inv (checked areas m cells l) (λ c. answer (after_case l c o)) o₁ p in
            subst (λ (x : Search). Held x.witness) (answer_eq b.1.1)
            (unfold after_case in (if_prop Held (is_violation b.0.status) (λ v. k) (λ v. h)))

    visit_keeps : (n : ℕ) (l : List Event) → Made l → Keeps (visit areas m cells n l)
    unfolding visit
    visit_keeps zero l k = case_keeps l k
    visit_keeps (suc n) l k =
        gaps_keep (visit areas m cells n) (visit_keeps n) l k m.scenario.limits.horizon m.scenario.alphabet inputs
        m.scenario.gaps

    deepen_keeps : (n d : ℕ) → Keeps (deepen areas m cells n d)
    unfolding deepen
    deepen_keeps zero d = answer_keeps
    deepen_keeps (suc n) d =
        then_keeps (unless_stopped (visit areas m cells d [])) (deepen areas m cells n (d + 1))
        (unless_keeps (visit areas m cells d []) (visit_keeps d [] tt)) (deepen_keeps n (d + 1))

    pub chosen : (v : Verification) → verified areas m cells ≡ answer v → Held v.witness
    unfolding verified searched
    chosen v e =
        let b = bind_inv (searched areas m cells) (λ o. answer (verification_of m o)) v e in
        subst (λ (x : Verification). Held x.witness) (answer_eq b.1.1)
        (unfold verification_of in (deepen_keeps (m.scenario.limits.search_depth + 1) 0 _ b.0 b.1.0 tt))
