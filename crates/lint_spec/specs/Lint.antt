-- lint.rs: the answer and the entry `lint`.
use Rattle.std.specs.Prelude.{ℕ, zero, suc, List, [], ◌∷◌, if◌then◌else◌}
use Rattle.std.proofs.Math.Option.{Option, none, some}
use Rattle.texts.specs.Lists.{each, flat}
use Rattle.texts.specs.Texts.{Text, lt_t}
use Rattle.model_spec.specs.Answer.{Answer, answer, refused, ◌>>=◌}
use Rattle.model_spec.specs.Model.{Automation, Model}
use Rattle.model_spec.specs.Validate.{accepted}
use Rattle.lint_spec.specs.Touches.{reads_of, writes_of}
use Rattle.lint_spec.specs.Findings.{Finding, Interaction, Entry, finding, interaction, entries, cycles}

-- an automation's identifier and its set of entities
pub record Touched : Type 0 where
  pub automation : Text
  pub entities : List Text

pub record Lint : Type 0 where
  pub findings : List Finding
  pub interactions : List Interaction
  pub components : List (List Text)
  pub reads : List Touched
  pub writes : List Touched

unfoldable pub finding_in : Entry → List Finding
finding_in (finding f) = f ∷ []
finding_in (interaction i) = []

unfoldable pub interaction_in : Entry → List Interaction
interaction_in (finding f) = []
interaction_in (interaction i) = i ∷ []

-- the first insertion that its area has no place for: 45 findings, 46 interactions
unfoldable pub overflow : List Entry → (findings interactions : ℕ) → Option ℕ
overflow [] f i = none
overflow (finding x ∷ l) zero i = some 45
overflow (finding x ∷ l) (suc f) i = overflow l f i
overflow (interaction x ∷ l) f zero = some 46
overflow (interaction x ∷ l) f (suc i) = overflow l f i

-- by identifier, ascending: Rust's map
unfoldable pub insert : Touched → List Touched → List Touched
insert t [] = t ∷ []
insert t (x ∷ l) = if lt_t t.automation x.automation then t ∷ x ∷ l else x ∷ insert t l

unfoldable pub by_id : (Automation → List Text) → List Automation → List Touched
by_id f [] = []
by_id f (r ∷ rs) = insert (record { automation = r.id; entities = f r }) (by_id f rs)

-- of an accepted model; 45, 46
unfoldable pub linted : (findings interactions : ℕ) → Model → Answer Lint
linted f i m =
    let l = entries m.scenario m.rules in
    elim (overflow l f i) [
      | some n ↦ refused n
      | none ↦ answer (record {
        findings = flat finding_in l;
        interactions = flat interaction_in l;
        components = each (each (λ r. r.id)) (cycles m.rules);
        reads = by_id reads_of m.rules;
        writes = by_id writes_of m.rules;
      })
    ]

-- the entry, with the entries that the two areas hold
unfoldable pub lint : (findings interactions : ℕ) → (file : List ℕ) → Answer Lint
lint f i file = do
  m ← accepted file
  linted f i m
