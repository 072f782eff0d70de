-- The cone: the entities that invariants name, each automation that writes one, what such an automation reads or toggles,
-- and so on. Automations are taken in one by one: the first of those left that writes what is in.
use Rattle.std.specs.Prelude.{ℕ, zero, suc, ◌≡◌, Bool, true, List, [], ◌∷◌, ◌++◌, length, if◌then◌else◌}
use Rattle.std.proofs.Math.Option.{Option, none, some}
use Rattle.texts.specs.Lists.{any, all, keep, each, flat, all_lists}
use Rattle.texts.specs.Texts.{Text, mem_t, sorted_t, all_texts}
use Rattle.model_spec.specs.Answer.{Answer, answer, all_answers, ◌>>=◌}
use Rattle.model_spec.specs.Model.{Automation, Invariant, never, guard, transition, response, Model}
use Rattle.model_spec.specs.Validate.{accepted, all_checks}
use Rattle.lint_spec.specs.Touches.{predicate_reads, reads_of, writes_of, toggles_of, all_touches}

-- the entities, ascending; the automations' identifiers, in the file's order
pub record Cone : Type 0 where
  pub entities : List Text
  pub automations : List Text

-- the entities that an invariant names
unfoldable pub names : Invariant → List Text
names (never i ps) = flat predicate_reads ps
names (guard i x v ps) = x ∷ flat predicate_reads ps
names (transition i x f t) = x ∷ []
names (response i p q n) = predicate_reads p ++ predicate_reads q

-- what an automation in the cone brings in
unfoldable pub needs : Automation → List Text
needs r = reads_of r ++ toggles_of r

-- the automation writes one of the entities
unfoldable pub writes_one : List Text → Automation → Bool
writes_one es r = any (λ x. mem_t x es) (writes_of r)

-- r stays among the others
unfoldable pub passing : Automation → Option (Automation × List Automation) → Option (Automation × List Automation)
passing r none = none
passing r (some (q, l)) = some (q, r ∷ l)

-- the first of the automations that writes one of the entities, and the others
unfoldable pub pick : List Text → List Automation → Option (Automation × List Automation)
pick es [] = none
pick es (r ∷ rs) = if writes_one es r then some (r, rs) else passing r (pick es rs)

-- the entities and the identifiers that are in once nothing is left to add; each round takes in one of the automations left
unfoldable pub close : (rounds : ℕ) → (entities automations : List Text) → (left : List Automation) → Cone
close zero es as' left = record { entities = es; automations = as' }
close (suc n) es as' left = elim (pick es left) [
  | none ↦ record { entities = es; automations = as' }
  | some (r, rest) ↦ close n (es ++ needs r) (r.id ∷ as') rest
]

unfoldable pub cone_of : Model → Cone
cone_of m =
    let c = close (length m.rules) (flat names m.scenario.invariants) [] m.rules in
    record {
      entities = sorted_t c.entities;
      automations = keep (λ id. mem_t id c.automations) (each (λ r. r.id) m.rules);
    }

-- the entry
unfoldable pub cone : (file : List ℕ) → Answer Cone
cone file = do
  m ← accepted file
  answer (cone_of m)

-- ---- what it is for: the least pair of sets that holds the start and needs nothing added

pub data Among {A : Type 0} (a : A) : List A → Type 0 where
  here : {l : List A} → Among a (a ∷ l)
  later : {b : A} {l : List A} → Among a l → Among a (b ∷ l)

-- a pair of sets, given by tests, that holds the start and needs nothing added
pub record Closed (m : Model) (entity automation : Text → Bool) : Type 0 where
  pub start : (i : Invariant) → Among i m.scenario.invariants → all entity (names i) ≡ true
  pub writers : (r : Automation) → Among r m.rules → any entity (writes_of r) ≡ true → automation r.id ≡ true
  pub needed : (r : Automation) → Among r m.rules → automation r.id ≡ true → all entity (needs r) ≡ true

pub record Least (m : Model) (c : Cone) : Type 1 where
  pub closed : Closed m (λ x. mem_t x c.entities) (λ id. mem_t id c.automations)
  pub least : (entity automation : Text → Bool) → Closed m entity automation
      → (all entity c.entities ≡ true) × (all automation c.automations ≡ true)

-- to be proved
abbrev pub ConeIsLeast : Type 1
ConeIsLeast = (file : List ℕ) (m : Model) → accepted file ≡ answer m → Least m (cone_of m)

-- opens the file, for proofs by computation
unfoldable pub all_cone : Unit {0}
unfolding all_lists all_texts all_answers all_checks all_touches names needs writes_one passing pick close cone_of cone
all_cone = tt
