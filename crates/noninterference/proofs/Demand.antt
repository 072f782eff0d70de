-- Demand 3, as Demand.antt of specs states it (`demand3`): two whole model files, each with lent areas of any
-- sizes. `demand3_strong` needs less: neither the bound on cases nor where the alphabet's entities lie matters.
use Prim.Native.Nat.{ℕ}
use mathlib.Core.List.{List, []}
use mathlib.Core.Path.{◌≡◌, refl, sym, ◌∙◌}
use Rattle.model_spec.specs.Answer.{Answer, answer, ◌>>=◌}
use Rattle.model_spec.specs.Model.{Model}
use Rattle.model_spec.specs.Validate.{accepted}
use Rattle.engine_spec.specs.Cells.{Cell, initial_cells}
use Rattle.engine_spec.specs.Records.{Areas}
use Rattle.checker_spec.specs.Check.{checked, check}
use Rattle.checker_spec.specs.Verify.{Verification, verified, verify}
use Rattle.noninterference.specs.Alike.{Alike}
use Rattle.noninterference.specs.Demand.{
  reading_for,
  about_all,
  witness_incomplete,
  SameCheck,
  SameVerification,
  CheckClaim,
  Demand3,
}
use Rattle.cone_judge.proofs.Check.{Inside, Common, check_same}
use Rattle.engine_spec.proofs.Distinct.{and_inv, accepted_fresh}
use Rattle.cone_engine.proofs.Closure.{in_entities, in_automations}
use Rattle.noninterference.proofs.Alike.{inside_of_alike, events_same}
use Rattle.noninterference.proofs.Readings.{of_checked}
use Rattle.noninterference.proofs.Search.{verified_same}

bind_is : {A B : Type 0} (x : Answer A) (a : A) (f : A → Answer B) → x ≡ answer a → (x >>= f) ≡ f a
unfolding ◌>>=◌
bind_is x a f e = rw e

-- two searches over the same event lists
pub record Sought (m m' : Model) : Type 0 where
  pub depth : m.scenario.limits.search_depth ≡ m'.scenario.limits.search_depth
  pub alphabet : m.scenario.alphabet ≡ m'.scenario.alphabet
  pub gaps : m.scenario.gaps ≡ m'.scenario.gaps

abbrev start : Model → List Cell
start m = initial_cells m.scenario.entities

-- what `verify` answers is the search of the model
pub verify_is : (areas : Areas) (output : ℕ) (file : List ℕ) (m : Model) (v : Verification) → accepted file ≡ answer m
    → verify areas output file ≡ answer v → verified areas m (start m) ≡ answer v
unfolding verify
verify_is areas output file m v q e = and_inv _ _ v (and_inv _ _ v (sym (bind_is (accepted file) m _ q) ∙ e))

module _ (file file' : List ℕ) (m m' : Model) (p : accepted file ≡ answer m) (p' : accepted file' ≡ answer m')
    (a : Alike m m') where
  inside : Inside (in_entities m) (in_automations m) m m' (start m) (start m')
  inside = inside_of_alike m m' a (accepted_fresh file m p) (accepted_fresh file' m' p')

  check_is : (areas : Areas) (file : List ℕ) (m : Model) → accepted file ≡ answer m
      → check areas file ≡ checked areas m (start m) m.scenario.events
  unfolding check
  check_is areas file m q = bind_is (accepted file) m _ q

  check_claim : CheckClaim file file' m m'
  check_claim areas areas' c c' e e' z z' =
      go (check_same (in_entities m) (in_automations m) m m' (start m) (start m') inside areas areas'
      m.scenario.events m'.scenario.events (events_same m m' a) c c' q q' z z')
    where
      q : checked areas m (start m) m.scenario.events ≡ answer c
      q = sym (check_is areas file m p) ∙ e

      q' : checked areas' m' (start m') m'.scenario.events ≡ answer c'
      q' = sym (check_is areas' file' m' p') ∙ e'

      go : Common m m' (start m) (start m') c c' → SameCheck m m' c c'
      go h = record {
        answers = unfold about_all reading_for in h.answers;
        returned = h.returned;
        readings = of_checked areas m m.scenario.events c q;
        readings' = of_checked areas' m' m'.scenario.events c' q';
      }

  verify_claim : Sought m m' → (areas areas' : Areas) (output output' : ℕ) (v v' : Verification)
      → verify areas output file ≡ answer v → verify areas' output' file' ≡ answer v'
      → v.reasons ≡ [] → v'.reasons ≡ [] → witness_incomplete v ≡ [] → witness_incomplete v' ≡ [] → SameVerification v v'
  verify_claim s areas areas' output output' v v' e e' r r' w w' =
      verified_same areas areas' m m' (start m) (start m')
      (λ events c c' q q' z z'. (check_same (in_entities m) (in_automations m) m m' (start m)
      (start m') inside areas areas' events events refl c c' q q' z z').returned)
      s.depth a.same_horizon s.alphabet s.gaps v v' (verify_is areas output file m v p e)
      (verify_is areas' output' file' m' v' p' e') r r' w w'

-- stronger than stated: neither the bound on cases nor where the alphabet's entities lie matters
abbrev pub Demand3Strong : Type 0
Demand3Strong =
    (file file' : List ℕ) (m m' : Model) → accepted file ≡ answer m → accepted file' ≡ answer m' → Alike m m'
    → CheckClaim file file' m m'
    × (Sought m m' → (areas areas' : Areas) (output output' : ℕ) (v v' : Verification)
    → verify areas output file ≡ answer v → verify areas' output' file' ≡ answer v'
    → v.reasons ≡ [] → v'.reasons ≡ [] → witness_incomplete v ≡ [] → witness_incomplete v' ≡ [] → SameVerification v v')

pub demand3_strong : Demand3Strong
demand3_strong file file' m m' p p' a = (check_claim file file' m m' p p' a, verify_claim file file' m m' p p' a)

-- the theorem
pub demand3 : Demand3
demand3 file file' m m' p p' a = (
  check_claim file file' m m' p p' a,
  λ s. verify_claim file file' m m' p p' a
      (record { depth = s.same_depth; alphabet = s.same_alphabet; gaps = s.same_gaps }),
)
