-- What the parts of the entry promise.
use Rattle.std.specs.Prelude.{ℕ, ◌≡◌, List, length, get_or, replicate}
use Rattle.model_spec.specs.Answer.{answer}
use Rattle.model_spec.specs.Model.{Model}
use Rattle.model_spec.specs.Validate.{accepted}
use Rattle.model_index.specs.declared.Index.{Index}
use Rattle.model_index.specs.Indexed.{Indexed}
use Rattle.model_parts.specs.declared.Section.{Section}
use Rattle.texts.specs.Texts.{text}
use Rattle.model_order.specs.Order.{place_from}
use Rattle.lint_spec.specs.Memory.{Lent}
use Rattle.model_parts.specs.declared.Extent.{Extent}
use Rattle.lint_conditions.specs.declared.Given.{Given}
use Rattle.lint_areas.specs.declared.Out.{Out}
use Rattle.lint_reach.specs.declared.Components.{Components}
use Rattle.lint_walk.specs.Walks.{walk_m}
use Rattle.lint_access.specs.Sets.{reads_m, writes_m}
use Rattle.lint_undeclared.specs.Undeclared.{undeclared_m}
use Rattle.lint_areas.specs.Areas.{Board, board}
use Rattle.lint_collect.specs.Collect.{fill_m, Lints}
use Rattle.lint_collect.specs.declared.Linted.{Linted}
use Rattle.lint_notes.specs.Notes.{AllNotes}
use Rattle.lint_refinement.specs.Context.{names_of}
pub use Rattle.lint_refinement.specs.Context.{Bounds}
use Rattle.lint_entry.specs.declared.Report.{Report}
use Rattle.lint_entry.specs.Contract.{Answers}

-- what the tests need of a model with so many texts, beside positions
abbrev pub given_by : List ℕ → (entities invariants rules : Extent) → (texts : ℕ) → Given
given_by s e i r n = record {
  entities = e;
  invariants = i;
  rules = r;
  on = place_from n 0 (text "on") s 6;
  off = place_from n 0 (text "off") s 6;
  star = place_from n 0 (text "*") s 6;
}

-- the first n, then zeros
unfoldable pub first_m : List ℕ → (n : ℕ) → List ℕ
first_m l n = fill_m (λ i. get_or l i 0) n 0 (replicate 32 0)

unfoldable pub read_sets : List ℕ → (entities rules : Section) → List ℕ
read_sets s e rules = fill_m (λ i. reads_m s e (get_or rules.starts i 0) (walk_m s (get_or rules.starts i 0))) rules.count 0
    (replicate 32 0)

unfoldable pub write_sets : List ℕ → (entities rules : Section) → List ℕ
write_sets s e rules = fill_m (λ i. writes_m s e (walk_m s (get_or rules.starts i 0))) rules.count 0 (replicate 32 0)

-- the entries of the model are inserted into areas of zeros, as long as F and I
pub record Inserts (s : List ℕ) (i : Index) (F I : List ℕ) (r : Linted) (e : Board) : Type 0 where
  pub first : Linted
  pub between : Board
  pub entries : Lints s (names_of s i) i.rules (board (replicate (length F) 0) (replicate (length I) 0)
      (record { findings = 0; interactions = 0; refusal = 0 })) first between
  pub found : r.found ≡ first.found
  pub notes : AllNotes s i.rules i.rules.count 0 between e

pub record Tells (s : List ℕ) (i : Index) (o : Out) (c : Components) (r : Report) : Type 0 where
  pub accepted : r.refused ≡ 0
  pub findings : r.findings ≡ o.findings
  pub interactions : r.interactions ≡ o.interactions
  pub components : r.components ≡ c.count
  pub cycles : r.cycles ≡ first_m c.sets c.count
  pub reads : r.reads ≡ read_sets s i.entities i.rules
  pub writes : r.writes ≡ write_sets s i.entities i.rules
  pub undeclared : r.undeclared ≡ (undeclared_m s i.entities i.rules i.texts.count).count
  pub names : r.names ≡ (undeclared_m s i.entities i.rules i.texts.count).names
  pub readers : r.readers ≡ (undeclared_m s i.entities i.rules i.texts.count).readers

-- the lint of the model whose index this is
abbrev pub AnswersAs : (f : List ℕ) → Index → Report → (before after : Lent) → Type 0
AnswersAs f i r before after = (m : Model) → accepted f ≡ answer m → Indexed f i m → Answers f r before after
