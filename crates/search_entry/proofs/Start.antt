-- What a search of an accepted model goes by, and where it starts.
use Prim.Native.Nat.{ℕ, ◌+◌, ◌≤◌, ◌<◌}
use mathlib.Core.Path.{◌≡◌, refl, sym, ap, subst, ◌∙◌}
use mathlib.Core.Bool.{false}
use mathlib.Core.List.{List, [], ◌∷◌}
use mathlib.Core.Option.{none}
use native.Mathlib.Omega.{arith}
use lib.ListN.{get_or, replicate, length-append}
use Rattle.layout.specs.Sizes.{simulation_reasons}
use Rattle.texts.specs.Lists.{flat}
use Rattle.texts.specs.Texts.{Text}
use Rattle.reasons.specs.Lists.{listed, insert_all, Holds}
use Rattle.reasons.proofs.Listing.{grown}
use Rattle.reasons.proofs.Cleaning.{zeros, holds_zeros}
use Rattle.reasons.proofs.Sorting.{one_by_one}
use Rattle.model_spec.specs.Answer.{answer}
use Rattle.model_spec.specs.Model.{Limits, Model}
use Rattle.model_spec.specs.File.{u32, limits}
use Rattle.model_spec.specs.Validate.{accepted}
use Rattle.model_walk.proofs.Found.{bound, given, u32_wide}
use Rattle.model_index.specs.declared.Index.{Index}
use Rattle.model_index.specs.Indexed.{Indexed}
use Rattle.engine_spec.specs.Reasons.{unsupported_wait}
use Rattle.engine_spec.specs.Unsupported.{unsupported}
use Rattle.engine_fields.specs.Fields.{four, cap}
use Rattle.engine_state.specs.declared.Cells.{Cells}
use Rattle.engine_refinement.specs.Meaning.{rule_pool, pool_of}
use Rattle.engine_refinement.proofs.Accepted.{accepted_lawful, accepted_small}
use Rattle.engine_refinement.proofs.Numbers.{four_is, cap_is, most_is}
use Rattle.engine_entry.specs.Prepared.{prepared_of, PreparedFrom}
use Rattle.engine_entry.proofs.Refines.{tb, notes_held}
use Rattle.checker_spec.specs.Verify as verify
use Rattle.checker_entry.proofs.Pool.{notes_among}
use Rattle.search_inputs.proofs.Lawful.{Searchable, accepted_searchable}
use Rattle.search_inputs.proofs.Refines.{alphabet_is, gaps_are}
use Rattle.search_cases.specs.declared.Plan.{Plan}
use Rattle.search_cases.specs.declared.Search.{Search}
use Rattle.search_cases.specs.Promises.{limit_m, Plans, Fitted, Begins}
use Rattle.search.specs.Meaning.{cells_of, Entire, entire, Setting, Held}
use Rattle.search.proofs.Cases.{widen}

-- ---- the limits

module _ (f : List ℕ) (i : Index) (m : Model) (acc : accepted f ≡ answer m) (o : Indexed f i m) where
  pub record LimitsAre : Type 0 where
    pub horizon : limit_m f i.limits 0 ≡ m.scenario.limits.horizon
    pub steps : limit_m f i.limits 4 ≡ m.scenario.limits.max_steps
    pub depth : limit_m f i.limits 8 ≡ m.scenario.limits.search_depth
    pub cases : limit_m f i.limits 12 ≡ m.scenario.limits.max_cases

  pub limits_are : LimitsAre
  unfolding limits limit_m
  limits_are =
      let h = bound u32 _ o.limits_at.1 in
      let n = bound u32 _ h.rest in
      let d = bound u32 _ n.rest in
      let c = bound u32 _ d.rest in
      let z = given _ _ _ c.rest in
      let wh = u32_wide f i.limits h.first in
      let wn = u32_wide f h.next n.first in
      let wd = u32_wide f n.next d.first in
      let p : cap i.limits ≡ i.limits = cap_is i.limits (omega (arith, (accepted_small f m acc).0, wh.inside)) in
      let a₀ : cap i.limits + 0 ≡ i.limits = omega (arith, p) in
      let a₁ : cap i.limits + 4 ≡ h.next = omega (arith, p, wh.ends) in
      let a₂ : cap i.limits + 8 ≡ n.next = omega (arith, p, wh.ends, wn.ends) in
      let a₃ : cap i.limits + 12 ≡ d.next = omega (arith, p, wh.ends, wn.ends, wd.ends) in
      record {
        horizon = ap (four f) a₀ ∙ four_is f i.limits h.first ∙ ap (λ (l : Limits). l.horizon) z.0;
        steps = ap (four f) a₁ ∙ four_is f h.next n.first ∙ ap (λ (l : Limits). l.max_steps) z.0;
        depth = ap (four f) a₂ ∙ four_is f n.next d.first ∙ ap (λ (l : Limits). l.search_depth) z.0;
        cases = ap (four f) a₃ ∙ four_is f d.next c.first ∙ ap (λ (l : Limits). l.max_cases) z.0;
      }

  -- ---- the plan

  module _ (p : Plan) {c : Cells} {n : ℕ} (h : Plans f i c n p) where
    pub few : Searchable m
    few = accepted_searchable f m acc

    abbrev pub setting : (bytes : (k : ℕ) → get_or f k 0 < 256) (x w : List ℕ) → PreparedFrom f i (prepared_of x c n w) →
        (q a u : ℕ)
        → Setting f (entire p x i.invariants.starts w) q a u
    setting bytes x w gr q a u = record {
      m = m;
      is_accepted = acc;
      index = i;
      starts_are = refl;
      invariants_are = h.invariants;
      indexed = o;
      bytes = bytes;
      prepared_from = subst (λ (k : Cells). PreparedFrom f i (prepared_of x k p.shared.notes w)) (sym h.cells)
          (subst (λ (k : ℕ). PreparedFrom f i (prepared_of x c k w)) (sym h.notes_are) gr);
      inputs = h.alphabet.count ∙ most_is i.alphabet.count 12
          (omega (arith, o.alphabet.counts, few.few_inputs)) ∙ o.alphabet.counts;
      words = alphabet_is f i m acc o p.alphabet h.alphabet;
      gaps = h.gaps.count ∙ most_is i.gaps.count 4 (omega (arith, o.gaps.counts, few.few_gaps))
          ∙ o.gaps.counts;
      seconds = gaps_are f i m acc o p.gaps h.gaps;
      few_inputs = few.few_inputs;
      few_gaps = few.few_gaps;
      short = few.short;
      horizon = h.horizon ∙ limits_are.horizon;
      day_long = (accepted_lawful f m acc).day_long;
      cases = h.cases.same (omega (arith, limits_are.cases, few.cases)) ∙ limits_are.cases;
    }

    pub fitted : {n : ℕ} → n ≡ 4000 → Fitted p n
    fitted e = record {
      inputs = omega (
        arith,
        h.alphabet.count,
        most_is i.alphabet.count 12 (omega (arith, o.alphabet.counts, few.few_inputs)),
        o.alphabet.counts,
        few.few_inputs,
      );
      gaps = omega (
        arith,
        h.gaps.count,
        most_is i.gaps.count 4 (omega (arith, o.gaps.counts, few.few_gaps)),
        o.gaps.counts,
        few.few_gaps,
      );
      cases = h.cases.most;
      area = e;
    }

-- ---- the start

abbrev pub start_of : Model → verify.Search
start_of m = record {
  cases = 0;
  total_steps = 0;
  reasons = unsupported m.rules;
  witness = none;
  shortest = false;
  stopped = false;
}

module _ {f : List ℕ} {p : Entire} {q a u : ℕ} (x : Setting f p q a u) where
  few_notes : p.prepared.count ≤ simulation_reasons
  unfolding pool_of
  few_notes =
      omega (
        arith,
        (notes_held f x.index x.m x.is_accepted x.indexed x.bytes p.prepared
            x.prepared_from).many,
        (tb f x.index x.m x.is_accepted x.indexed x.bytes p.prepared
            x.prepared_from).few_reasons,
        length-append (unsupported x.m.rules)
            (unsupported_wait ∷ flat rule_pool x.m.rules),
      )

  pub start_held : {o : Search} {w : List ℕ} → Begins f p.prepared.count p.prepared.reasons (replicate 4000 0) o w →
      Held x (start_of x.m) o w
  start_held {o} {w} b = record {
    fine = b.refused;
    cases = b.cases;
    steps = b.steps;
    reasons =
        subst (λ (l : List Text). Holds f l o.reasons w)
        (ap (λ (l : List Text). insert_all l [])
        (notes_held f x.index x.m x.is_accepted x.indexed x.bytes p.prepared x.prepared_from).texts
        ∙ one_by_one (unsupported x.m.rules))
        (grown f (insert_all (listed f p.prepared.count p.prepared.reasons)) (b.reasons few_notes)
        (notes_held f x.index x.m x.is_accepted x.indexed x.bytes p.prepared x.prepared_from).clean
        (holds_zeros f (zeros 4000)));
    within = widen x (unsupported x.m.rules)
        (notes_among x.m (cells_of x.m)
        (record { trace = []; final_state = []; unknown = []; incomplete = []; steps = 0; horizon = 0 }));
    shortest = b.shortest;
    stopped = b.stopped;
    witness = b.found;
  }
