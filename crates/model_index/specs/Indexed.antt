-- What the reader's answer says of a file: the model that `decode` finds, and where its parts stand.
use Rattle.std.specs.Prelude.{Some, ℕ, ◌≡◌, true, List, length}
use Rattle.texts.specs.Lists.{each}
use Rattle.texts.specs.Texts.{Text}
use Rattle.model_spec.specs.Answer.{Answer, answer, refused}
use Rattle.model_spec.specs.Model.{Model, midnight}
use Rattle.model_spec.specs.File.{
  u32,
  or_zeros,
  start,
  limits,
  texts,
  one_text,
  place,
  entity,
  event,
  invariant,
  input,
  automation,
  ascending,
}
use Rattle.model_parts.specs.declared.Section.{Section}
use Rattle.model_parts.specs.Stand.{Reads, Stand}
use Rattle.model_spec.specs.File.{Reader}
use Rattle.model_index.specs.declared.File.{File}
use Rattle.model_index.specs.declared.Status.TheVariants as status
use Rattle.model_index.specs.declared.Index.{Index}
use Rattle.model_index.specs.Index.{refused_m, read_m}

-- the section's parts are these values: as many, and the first hundred of them at its positions
pub record Holds {A : Type 0} (r : Reader A) (s : List ℕ) (x : Section) (l : List A) : Type 0 where
  pub counts : x.count ≡ length l
  pub stand : Stand r s x.starts l

-- the index is the model's: each position in it is where the reader of `File` finds that part of the model, and the start
-- stands where the automations end
pub record Indexed (s : List ℕ) (i : Index) (m : Model) : Type 0 where
  pub ts : List Text
  pub all_texts : Reads texts s 4 ts
  pub each_text : Holds one_text s i.texts ts
  pub version : i.version ≡ m.scenario.version
  pub title : Reads (place ts) s i.title m.scenario.title
  pub entities : Holds (entity ts) s i.entities m.scenario.entities
  pub names : ascending (each (λ e. e.name) m.scenario.entities) ≡ true
  pub events : Holds (event ts) s i.events m.scenario.events
  pub invariants : Holds (invariant ts) s i.invariants m.scenario.invariants
  pub alphabet : Holds (input ts) s i.alphabet m.scenario.alphabet
  pub gaps : Holds u32 s i.gaps m.scenario.gaps
  pub limits_at : Reads limits s i.limits m.scenario.limits
  pub rules : Holds (automation ts) s i.rules m.rules
  pub behind_rules : ℕ
  pub notes : ℕ
  pub rules_end : i.rules.end ≡ Some (behind_rules, notes)
  pub start_at : Reads (or_zeros midnight start) s behind_rules m.start

-- the answer for a file that decodes to a model: all that the walk over the file finds, with the ends of the sections and
-- the zeros behind the last positions, and its index is the model's
pub record Read (s : List ℕ) (r : File) (m : Model) : Type 0 where
  pub whole : r ≡ read_m s
  pub is_read : r.status ≡ status.Read
  pub indexed : Indexed s r.index m

-- or for one that is refused
abbrev pub Says : List ℕ → File → Answer Model → Type 0
Says s r (answer m) = Read s r m
Says s r (refused n) = r ≡ refused_m n
