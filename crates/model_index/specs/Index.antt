-- The walk over a whole file.
use Rattle.std.specs.Prelude.{Some, None, ℕ, ◌≡◌, false, List, ltb, length, if◌then◌else◌}
use Rattle.model_spec.specs.File.{got, broken, u32}
use Rattle.model_walk.specs.Walk.{Walked, place_m, bytes_m, or_zeros_m}
use Rattle.model_parts.specs.declared.Section.{Section}
use Rattle.model_parts.specs.declared.Extent.{Extent}
use Rattle.model_parts.specs.declared.Part.TheVariants as part
use Rattle.model_parts.specs.Parts.{part_m, no_starts, section_m, section}
use Rattle.model_order.specs.Order.{ascending_m, texts_m}
use Rattle.model_index.specs.declared.File.{File}
use Rattle.model_index.specs.declared.Status.TheVariants as status
use Rattle.model_index.specs.declared.Index.{Index}
use Rattle.model_index.specs.declared.Front.{Front}
use Rattle.model_index.specs.declared.Outline.{Outline}

abbrev pub empty : Section
empty = record { count = 0; starts = no_starts; end = None }

unfoldable pub refused_m : ℕ → File
refused_m n = record {
  status = status.Refused n;
  index = record {
    version = 0;
    texts = empty;
    title = 0;
    entities = empty;
    events = empty;
    invariants = empty;
    alphabet = empty;
    gaps = empty;
    limits = 0;
    rules = empty;
  };
}

abbrev pub no_extent : Extent
no_extent = record { count = 0; end = None }

-- the outline of a refused file
abbrev pub refusal_m : ℕ → Outline
refusal_m n = record {
  status = status.Refused n;
  front = record {
    version = 0;
    texts = no_extent;
    title = 0;
    entities = no_extent;
    events = no_extent;
    invariants =
        no_extent;
  };
  alphabet = no_extent;
  gaps = no_extent;
  limits = 0;
  rules = no_extent;
}

abbrev pub whole_m : Index → File
whole_m i = record { status = status.Read; index = i }

-- go on behind a walk, or refuse
unfoldable pub on : Walked → (ℕ → ℕ → File) → File
on (Some (p, n)) f = f p n
on None f = refused_m 30

-- go on behind a section
unfoldable pub on_section : Section → (Section → ℕ → ℕ → File) → File
on_section x f = on x.end (f x)

-- a section that was walked already
unfoldable pub given : Section → (Section → File) → File
given x f = f x

unfoldable pub closed : List ℕ → ℕ → ℕ → Index → File
closed s p n i = if ltb 64 n then refused_m 30 else if ltb p (length s) then refused_m 31 else whole_m i

-- an index from the front, the positions of its sections, and what follows it
abbrev pub index_of : Front → (texts entities events invariants : List ℕ) → (alphabet gaps : Section) → (limits : ℕ) →
    (rules : Section) → Index
index_of f t e v i alphabet gaps limits rules = record {
  version = f.version;
  texts = section f.texts t;
  title = f.title;
  entities = section f.entities e;
  events = section f.events v;
  invariants = section f.invariants i;
  alphabet = alphabet;
  gaps = gaps;
  limits = limits;
  rules = rules;
}

-- the file of an outline and its positions; a refused one has none
unfoldable pub file_of : Outline → (texts entities events invariants alphabet gaps rules : List ℕ) → File
file_of o t e v i a g r = elim o.status [
  | status.Read ↦
      whole_m (index_of o.front t e v i (section o.alphabet a) (section o.gaps g) o.limits (section o.rules r))
  | status.Refused n ↦ refused_m n
]

-- three arrays of zeros
pub record Zeros (a b c : List ℕ) : Type 0 where
  pub first : a ≡ no_starts
  pub second : b ≡ no_starts
  pub third : c ≡ no_starts

-- what follows the invariants, for a file with so many texts
unfoldable pub rest_m : List ℕ → (texts : ℕ) → ((alphabet gaps : Section) → ℕ → (rules : Section) → Index) → ℕ → ℕ → File
rest_m s c f p₃ n₃ =
    on_section (section_m (part_m c part.Input) s p₃ n₃) λ alphabet p₄ n₄.
    on_section (section_m (part_m c part.Gap) s p₄ n₄) λ gaps p₅ n₅.
    on (bytes_m 16 s p₅ n₅) λ p₆ n₆.
    on_section (section_m (part_m c part.Rule) s p₆ n₆) λ rules p₇ n₇.
    on (or_zeros_m (bytes_m 8) s p₇ n₇) λ p₈ n₈.
    closed s p₈ n₈ (f alphabet gaps p₅ rules)

-- what follows the texts
unfoldable pub body_m : List ℕ → (version : ℕ) → Section → ℕ → File
body_m s v texts at =
    on (place_m texts.count s at 0) λ p₀ n₀.
    on (ascending_m texts.count part.Entity false s p₀) λ p₁ n₁.
    given (section_m (part_m texts.count part.Entity) s p₀ 0) λ entities.
    on_section (section_m (part_m texts.count part.Event) s p₁ 0) λ events p₂ n₂.
    on_section (section_m (part_m texts.count part.Invariant) s p₂ n₂) λ invariants p₃ n₃.
    rest_m s texts.count (λ alphabet gaps limits rules. record {
      version = v;
      texts = texts;
      title = at;
      entities =
          entities;
      events = events;
      invariants = invariants;
      alphabet = alphabet;
      gaps = gaps;
      limits = limits;
      rules =
          rules;
    }) p₃ n₃

unfoldable pub read_m : List ℕ → File
read_m s =
    if ltb 32768 (length s) then refused_m 30
    else elim (u32 s 0) [
      | got v p ↦ on (texts_m s p) λ p₁ n₁. given (section_m (part_m 0 part.Text) s p 0) λ texts. body_m s v texts p₁
      | broken ↦ refused_m 30
    ]
