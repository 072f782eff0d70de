-- The laws of the walk over a file that the proofs of functions cite.
use Rattle.std.specs.Prelude.{Some, None}
use mathlib.Core.Path.{◌≡◌, refl, sym, ap, ◌∙◌}
use mathlib.Core.List.{List}
use mathlib.Core.Bool.{false}
use Prim.Native.Nat.{ℕ, ◌≤◌, ◌<◌}
use lib.ListN.{length}
use borrow.Author.Tests.{lt-ltb, le-ltb}
use Rattle.model_spec.specs.File.{u32}
use Rattle.model_walk.specs.Walk.{Num, Walked, found, place_m, bytes_m, or_zeros_m}
use Rattle.model_walk.proofs.Laws.{is_got, is_broken}
use Rattle.model_parts.specs.declared.Section.{Section}
use Rattle.model_parts.specs.declared.Part.TheVariants as part
use Rattle.model_parts.specs.Parts.{part_m, section_m, section}
use Rattle.model_order.specs.Order.{ascending_m, texts_m}
use Rattle.model_index.specs.declared.File.{File}
use Rattle.model_index.specs.declared.Status.{Status}
use Rattle.model_index.specs.declared.Status.TheVariants as status
use Rattle.model_index.specs.declared.Index.{Index}
use Rattle.model_index.specs.declared.Outline.{Outline}
use Rattle.model_index.specs.Index.{
  empty,
  refused_m,
  refusal_m,
  whole_m,
  index_of,
  file_of,
  on,
  on_section,
  given,
  closed,
  rest_m,
  body_m,
  read_m,
}

module _ (w : Walked) (f : ℕ → ℕ → File) {x : Walked} (e : x ≡ w) where
  pub on_to : {p n : ℕ} → x ≡ Some (p, n) → on w f ≡ f p n
  unfolding on
  on_to h = ap (λ (y : Walked). on y f) (sym e ∙ h)

  pub on_broken : x ≡ None → on w f ≡ refused_m 30
  unfolding on
  on_broken h = ap (λ (y : Walked). on y f) (sym e ∙ h)

module _ (w : Section) (f : Section → ℕ → ℕ → File) {x : Section} (e : x ≡ w) where
  pub sec_to : {p n : ℕ} → x.end ≡ Some (p, n) → on_section w f ≡ f x p n
  unfolding on_section on
  sec_to h = ap (λ (y : Section). on y.end (f y)) (sym e) ∙ ap (λ (y : Walked). on y (f x)) h

  pub sec_broken : x.end ≡ None → on_section w f ≡ refused_m 30
  unfolding on_section on
  sec_broken h = ap (λ (y : Section). on y.end (f y)) (sym e) ∙ ap (λ (y : Walked). on y (f x)) h

pub given_is : (w : Section) (f : Section → File) {x : Section} → x ≡ w → given w f ≡ f x
unfolding given
given_is w f e = ap f (sym e)

module _ (s : List ℕ) (p n : ℕ) (i : Index) where
  pub too_many : 64 < n → closed s p n i ≡ refused_m 30
  unfolding closed
  too_many h = rw (lt-ltb 64 n h)

  pub left_over : n ≤ 64 → p < length s → closed s p n i ≡ refused_m 31
  unfolding closed
  left_over h k = rw (le-ltb 64 n h, lt-ltb p (length s) k)

  pub whole : n ≤ 64 → length s ≤ p → closed s p n i ≡ whole_m i
  unfolding closed
  whole h k = rw (le-ltb 64 n h, le-ltb p (length s) k)

-- a refusal's index, from the section that it repeats
pub refused_with : (number : ℕ) {x : Section} → x ≡ empty →
    ◌≡◌ {A = File} (record {
      status = status.Refused number;
      index =
          record {
            version = 0;
            texts = x;
            title = 0;
            entities = x;
            events = x;
            invariants = x;
            alphabet = x;
            gaps = x;
            limits = 0;
            rules = x;
          };
    }) (refused_m number)
unfolding refused_m
refused_with number e =
    ap {B = File} (λ (x : Section). record {
      status = status.Refused number;
      index =
          record {
            version = 0;
            texts = x;
            title = 0;
            entities = x;
            events = x;
            invariants = x;
            alphabet = x;
            gaps = x;
            limits = 0;
            rules = x;
          };
    }) e

-- a file by its outline's status
module _ (o : Outline) (t e v i a g r : List ℕ) where
  pub file_refused : {k : ℕ} → o.status ≡ status.Refused k → file_of o t e v i a g r ≡ refused_m k
  unfolding file_of
  file_refused h = rw (h, file_of)

  pub file_refusal : {k : ℕ} → o ≡ refusal_m k → file_of o t e v i a g r ≡ refused_m k
  file_refusal h = file_refused (ap (λ (x : Outline). x.status) h)

  pub file_read : o.status ≡ status.Read → file_of o t e v i a g r
      ≡ whole_m (index_of o.front t e v i (section o.alphabet a) (section o.gaps g) o.limits
      (section o.rules r))
  unfolding file_of
  file_read h = rw (h, file_of)

  -- from the sections
  pub file_made : o.status ≡ status.Read → {x₁ x₂ x₃ x₄ x₅ x₆ x₇ : Section} →
      x₁ ≡ section o.front.texts t → x₂ ≡ section o.front.entities e → x₃ ≡ section o.front.events v →
      x₄ ≡ section o.front.invariants i → x₅ ≡ section o.alphabet a → x₆ ≡ section o.gaps g →
      x₇ ≡ section o.rules r →
      ◌≡◌ {A = File} (record {
        status = o.status;
        index =
            record {
              version = o.front.version;
              texts = x₁;
              title = o.front.title;
              entities = x₂;
              events = x₃;
              invariants =
                  x₄;
              alphabet = x₅;
              gaps = x₆;
              limits = o.limits;
              rules = x₇;
            };
      }) (file_of o t e v i a g r)
  file_made h e₁ e₂ e₃ e₄ e₅ e₆ e₇ =
      rw (e₁, e₂, e₃, e₄, e₅, e₆, e₇)
      (ap {B = File} (λ (x : Status). record {
        status = x;
        index =
            index_of o.front t e v i (section o.alphabet a) (section o.gaps g) o.limits (section o.rules r);
      }) h
      ∙ sym (file_read h))

pub rest_is : (s : List ℕ) (c : ℕ) (f : Section → Section → ℕ → Section → Index) (p₃ n₃ : ℕ) → rest_m s c f p₃ n₃ ≡ (
    on_section (section_m (part_m c part.Input) s p₃ n₃) λ alphabet p₄ n₄.
    on_section (section_m (part_m c part.Gap) s p₄ n₄) λ gaps p₅ n₅.
    on (bytes_m 16 s p₅ n₅) λ p₆ n₆.
    on_section (section_m (part_m c part.Rule) s p₆ n₆) λ rules p₇ n₇.
    on (or_zeros_m (bytes_m 8) s p₇ n₇) λ p₈ n₈.
    closed s p₈ n₈ (f alphabet gaps p₅ rules)
    )
unfolding rest_m
rest_is s c f p₃ n₃ = refl

pub body_is : (s : List ℕ) (v : ℕ) (texts : Section) (at : ℕ) → body_m s v texts at ≡ (
    on (place_m texts.count s at 0) λ p₀ n₀.
    on (ascending_m texts.count part.Entity false s p₀) λ p₁ n₁.
    given (section_m (part_m texts.count part.Entity) s p₀ 0) λ entities.
    on_section (section_m (part_m texts.count part.Event) s p₁ 0) λ events p₂ n₂.
    on_section (section_m (part_m texts.count part.Invariant) s p₂ n₂) λ invariants p₃ n₃.
    rest_m s texts.count (λ alphabet gaps limits rules. record {
      version = v;
      texts = texts;
      title = at;
      entities =
          entities;
      events = events;
      invariants = invariants;
      alphabet = alphabet;
      gaps = gaps;
      limits = limits;
      rules =
          rules;
    }) p₃ n₃
    )
unfolding body_m
body_is s v texts at = refl

module _ (s : List ℕ) where
  pub too_long : 32768 < length s → read_m s ≡ refused_m 30
  unfolding read_m
  too_long h = rw (lt-ltb 32768 (length s) h)

  module _ (h : length s ≤ 32768) {x : Num} (e : found x ≡ u32 s 0) where
    pub no_version : x ≡ None → read_m s ≡ refused_m 30
    unfolding read_m
    no_version g = rw (le-ltb 32768 (length s) h, is_broken e g, read_m)

    pub version_is : {v p : ℕ} → x ≡ Some (v, p) → read_m s
        ≡ on (texts_m s p) (λ p₁ n₁. given (section_m (part_m 0 part.Text) s p 0) λ texts. body_m s v texts p₁)
    unfolding read_m
    version_is g = rw (le-ltb 32768 (length s) h, is_got e g, read_m)
