-- What is computed of a file, and that two files of which this is computed meet all premises of demand 3.
use Prim.Native.Nat.{ℕ}
use mathlib.Core.Bool.{Bool, true}
use mathlib.Core.List.{List, [], ◌∷◌}
use mathlib.Core.Option.{Option}
use mathlib.Core.Path.{◌≡◌, refl, sym, ap, ◌∙◌}
use lib.ListN.{length}
use Rattle.texts.specs.Lists.{all}
use Rattle.texts.specs.Texts.{Text}
use Rattle.model_spec.specs.Answer.{Answer, answer, refused, ◌>>=◌}
use Rattle.model_spec.specs.Model.{Entity, Moment, Automation, Input, Event, Invariant, Model}
use Rattle.model_spec.specs.Validate.{accepted}
use Rattle.engine_spec.specs.Records.{Areas}
use Rattle.engine_spec.proofs.Distinct.{answer_eq, refused_answer}
use Rattle.checker_spec.specs.Check.{Violation, Status, Check, check}
use Rattle.checker_spec.specs.Verify.{Found, Verification, verify}
use Rattle.cone_spec.specs.Cone.{cone_of}
use Rattle.cone_judge.specs.Reading.{About}
use Rattle.noninterference.specs.Alike.{Alike, SameSearch, input_in, cone_declarations, cone_automations, cone_events}
use Rattle.noninterference.specs.Demand.{about_all, witness_events, witness_incomplete, SameCheck, SameVerification}
use Rattle.noninterference.proofs.Demand.{demand3}

-- room for every entry
unfoldable pub plenty : Areas
plenty = record { queue = 100; records = 100; runs = 100 }

-- ---- an answer that isn't a refusal

unfoldable pub answered : {A B : Type 0} → (A → B) → Answer A → Answer B
answered g (answer a) = answer (g a)
answered g (refused n) = refused n

found : {A B : Type 0} (g : A → B) (x : Answer A) {b : B} → answered g x ≡ answer b → (a : A) × ((x ≡ answer a) × (g a ≡ b))
unfolding answered
found g (answer a) e = (a, (refl, answer_eq e))
found g (refused n) e = absurd (refused_answer e)

told_by : {A B : Type 0} (g : A → B) (x : Answer A) (a : A) {b : B} → x ≡ answer a → answered g x ≡ answer b → g a ≡ b
unfolding answered
told_by g x a p e = answer_eq (sym (ap (answered g) p) ∙ e)

both : {A B : Type 0} (g : A → B) (x y : Answer A) (a b : A) → x ≡ answer a → y ≡ answer b → answered g x ≡ answered g y
    → g a ≡ g b
unfolding answered
both g x y a b p q e = answer_eq (sym (ap (answered g) p) ∙ e ∙ ap (answered g) q)

-- ---- one file

-- how many automations and events there are, and how many of them lie in the cone
unfoldable pub counts : Model → List ℕ
counts m =
    length m.rules ∷ length (cone_automations m) ∷ length m.scenario.events ∷ length (cone_events m) ∷ []

-- what a check tells, and what a search finds
pub record Verdict : Type 0 where
  pub status : Status
  pub steps : ℕ
  pub records : ℕ
  pub violations : List Violation
  pub unknown : List Text

abbrev pub verdict : Check → Verdict
verdict c = record {
  status = c.status;
  steps = c.simulation.steps;
  records = length c.simulation.trace;
  violations = c.violations;
  unknown = c.unknown;
}

pub record Outcome : Type 0 where
  pub status : Found
  pub cases : ℕ
  pub events : Option (List Event)

abbrev pub outcome : Verification → Outcome
outcome v = record { status = v.status; cases = v.cases; events = witness_events v }

-- with the reasons that must not be there
abbrev pub whole_verdict : Check → List Text × Verdict
whole_verdict c = (c.simulation.incomplete, verdict c)

abbrev pub whole_outcome : Verification → List Text × (List Text × Outcome)
whole_outcome v = (v.reasons, (witness_incomplete v, outcome v))

-- of each invariant of the file, by its check
abbrev pub about_by : (file : List ℕ) → Model → Answer (List About)
about_by file m = answered (λ c. about_all m c.simulation) (check plenty file)

unfoldable pub abouts : (file : List ℕ) → Answer (List About)
abouts file = accepted file >>= about_by file

-- what is computed of a file
pub record Computed (file sizes : List ℕ) (told : Verdict) (each : List About) (end : Outcome) : Type 0 where
  pub accepts : answered counts (accepted file) ≡ answer sizes
  pub checks : answered whole_verdict (check plenty file) ≡ answer ([], told)
  pub tells : abouts file ≡ answer each
  pub verifies : answered whole_outcome (verify plenty 1000 file) ≡ answer ([], ([], end))

-- its model, its check and its search, which are complete and list no reason but unknown ones
pub record One (file sizes : List ℕ) (told : Verdict) (each : List About) (end : Outcome) : Type 0 where
  pub m : Model
  pub accepts : accepted file ≡ answer m
  pub sized : counts m ≡ sizes
  pub c : Check
  pub checks : check plenty file ≡ answer c
  pub complete : c.simulation.incomplete ≡ []
  pub tells : verdict c ≡ told
  pub about : about_all m c.simulation ≡ each
  pub v : Verification
  pub verifies : verify plenty 1000 file ≡ answer v
  pub no_reason : v.reasons ≡ []
  pub whole : witness_incomplete v ≡ []
  pub finds : outcome v ≡ end

pub one : {file sizes : List ℕ} {told : Verdict} {each : List About} {end : Outcome} → Computed file sizes told each end
    → One file sizes told each end
unfolding abouts ◌>>=◌
one {file} {sizes} {told} {each} {end} k =
    let p = found counts (accepted file) k.accepts in
    let c = found whole_verdict (check plenty file) k.checks in
    let v = found whole_outcome (verify plenty 1000 file) k.verifies in
    record {
      m = p.0;
      accepts = p.1.0;
      sized = p.1.1;
      c = c.0;
      checks = c.1.0;
      complete = ap (λ (x : List Text × Verdict). x.0) c.1.1;
      tells = ap (λ (x : List Text × Verdict). x.1) c.1.1;
      about = told_by (λ d. about_all p.0 d.simulation) (check plenty file) c.0 c.1.0
          (sym (ap (λ (x : Answer Model). x >>= about_by file) p.1.0) ∙ k.tells);
      v = v.0;
      verifies = v.1.0;
      no_reason = ap (λ (x : List Text × (List Text × Outcome)). x.0) v.1.1;
      whole = ap (λ (x : List Text × (List Text × Outcome)). x.1.0) v.1.1;
      finds = ap (λ (x : List Text × (List Text × Outcome)). x.1.1) v.1.1;
    }

-- ---- two files

-- what alike models share, and what searches with the same settings do
abbrev Shared : Type 0
Shared = List Invariant × (ℕ × (Moment × (List Text × (List Entity × (List Automation × List Event)))))

abbrev pub shared : Model → Shared
shared m = (
  m.scenario.invariants,
  (
    m.scenario.limits.horizon,
    (m.start, ((cone_of m).entities, (cone_declarations m, (cone_automations m, cone_events m)))),
  ),
)

abbrev Settings : Type 0
Settings = ℕ × (ℕ × (List Input × List ℕ))

abbrev pub settings : Model → Settings
settings m = (
  m.scenario.limits.search_depth,
  (m.scenario.limits.max_cases, (m.scenario.alphabet, m.scenario.gaps)),
)

abbrev pub inputs_inside : Model → Bool
inputs_inside m = all (input_in (cone_of m)) m.scenario.alphabet

pub record Agree (file file' : List ℕ) : Type 0 where
  pub cones : answered shared (accepted file) ≡ answered shared (accepted file')
  pub searches : answered settings (accepted file) ≡ answered settings (accepted file')
  pub inside : answered inputs_inside (accepted file) ≡ answer true

module _ {file file' : List ℕ} (a : Agree file file') (m m' : Model) (p : accepted file ≡ answer m)
    (p' : accepted file' ≡ answer m') where
  alike : Alike m m'
  alike = go (both shared (accepted file) (accepted file') m m' p p' a.cones)
    where
      go : shared m ≡ shared m' → Alike m m'
      go e = record {
        same_invariants = ap (λ (x : Shared). x.0) e;
        same_horizon = ap (λ (x : Shared). x.1.0) e;
        same_start = ap (λ (x : Shared). x.1.1.0) e;
        same_entities = ap (λ (x : Shared). x.1.1.1.0) e;
        same_declarations = ap (λ (x : Shared). x.1.1.1.1.0) e;
        same_automations = ap (λ (x : Shared). x.1.1.1.1.1.0) e;
        same_events = ap (λ (x : Shared). x.1.1.1.1.1.1) e;
      }

  same_search : SameSearch m m'
  same_search = go (both settings (accepted file) (accepted file') m m' p p' a.searches)
    where
      go : settings m ≡ settings m' → SameSearch m m'
      go e = record {
        same_depth = ap (λ (x : Settings). x.0) e;
        same_cases = ap (λ (x : Settings). x.1.0) e;
        same_alphabet = ap (λ (x : Settings). x.1.1.0) e;
        same_gaps = ap (λ (x : Settings). x.1.1.1) e;
        inputs_in = told_by inputs_inside (accepted file) m p a.inside;
      }

-- all premises, met by the two files
pub record Met (file file' sizes sizes' : List ℕ) (told told' : Verdict) (each : List About) (end : Outcome) : Type 0 where
  pub first : One file sizes told each end
  pub second : One file' sizes' told' each end
  pub alikes : Alike first.m second.m
  pub searches : SameSearch first.m second.m
  -- so the theorem says of the two checks and of the two searches that they tell the same
  pub same : SameCheck first.m second.m first.c second.c × SameVerification first.v second.v

pub meet : {file file' sizes sizes' : List ℕ} {told told' : Verdict} {each : List About} {end : Outcome}
    → Computed file sizes told each end → Computed file' sizes' told' each end → Agree file file'
    → Met file file' sizes sizes' told told' each end
meet {file} {file'} k k' e =
    let a = one k in
    let b = one k' in
    let alikes = alike e a.m b.m a.accepts b.accepts in
    let searches = same_search e a.m b.m a.accepts b.accepts in
    let d = demand3 file file' a.m b.m a.accepts b.accepts alikes in
    record {
      first = a;
      second = b;
      alikes = alikes;
      searches = searches;
      same = (
        d.0 plenty plenty a.c b.c a.checks b.checks a.complete b.complete,
        d.1 searches plenty plenty 1000 1000 a.v b.v a.verifies b.verifies a.no_reason b.no_reason
            a.whole b.whole,
      );
    }
