-- A record's words: what the machine writes is what the definition's record says, word for word.
-- Texts stand as their places, automations as their numbers: both differ, so a text is found where it stands.
use mathlib.Core.Path.{◌≡◌, refl, ap, ◌∙◌}
use mathlib.Core.List.{List, [], ◌∷◌}
use mathlib.Core.Bool.{false}
use Prim.Native.Nat.{ℕ, ◌<◌}
use native.Mathlib.Omega.{arith}
use lib.ListN.{length, get_or}
use borrow.Author.Tests.{ne_eqb}
use Rattle.areas.specs.Areas.{words, area}
use Rattle.texts.specs.Lists.{each}
use Rattle.texts.specs.Texts.{Text, eq_t}
use Rattle.model_spec.specs.Model.{Automation, Model}
use Rattle.records.specs.Records.{rule_words, where_words, change_words, record_words}
use Rattle.records.specs.declared.Source.{Source as RecordSource}
use Rattle.records.specs.declared.Write.{Write}
use Rattle.std.specs.Prelude.{Option, Some, None}
use Rattle.records.specs.declared.Record.{Record}
use Rattle.engine_spec.specs.Records.{Kind}
use Rattle.model_spec.specs.Rewrite.{place_of}
use Rattle.model_spec.proofs.Places.{place_first}
use Rattle.engine_spec.specs.Words.{kind_number, detail_number, automation_words, source_words, words_of_change, trace_words}
use Rattle.engine_spec.proofs.Lists.{Each, eq_t_same}
use Rattle.engine_state.specs.Changes.{entry, saying}
use Rattle.engine_refinement.specs.Meaning.{Placed, id_at, kind_of, rule_of, where_of, change_of, record_of, Tabled}
use Rattle.engine_refinement.proofs.Relation.{Worded, same_rule, no_rule}
use Rattle.engine_refinement.proofs.Lists as lists

-- ---- areas with the same words

module _ {A B : Type 0} (a : A → List ℕ) (b : B → List ℕ) (g : A → B) where
  same_words : (l : List A) → Each (λ (y : A). a y ≡ b (g y)) l → words a l ≡ words b (each g l)
  unfolding words each
  same_words [] h = refl
  same_words (y ∷ l) h = rw (h.0, same_words l h.1)

  same_area : (n : ℕ) (l : List A) → Each (λ (y : A). a y ≡ b (g y)) l → area a n l ≡ area b n (each g l)
  unfolding area
  same_area n l h = rw (same_words l h)

-- the record area, by the definition's records
pub record_area : (x : List ℕ) (ts : List Text) (mo : Model) (n : ℕ) (l : List Record) → Each (Worded x ts mo) l →
    area record_words n l ≡ area (trace_words ts (each (λ (a : Automation). a.id) mo.rules)) n (each (record_of x ts) l)
record_area x ts mo n l h =
    same_area record_words (trace_words ts (each (λ (a : Automation). a.id) mo.rules)) (record_of x ts) n l
    (lists.each_imp (Worded x ts mo) _ (λ r w. w.words) l h)

-- ---- places

module _ (f x : List ℕ) (ts : List Text) (mo : Model) (tb : Tabled f x ts mo) where
  abbrev ids : List Text
  ids = each (λ (a : Automation). a.id) mo.rules

  pub text_place : (v : ℕ) → v < length ts → place_of (get_or ts v []) ts ≡ v
  text_place v h =
      place_first (get_or ts v []) ts v h (eq_t_same (get_or ts v []))
      (λ j o. tb.same v j h (omega arith) ∙ ne_eqb v j (λ e. absurd (omega arith)))

  id_among : (i : ℕ) → i < length mo.rules → get_or ids i [] ≡ id_at x ts i
  unfolding id_at no_rule
  id_among i h = lists.each_at (λ (a : Automation). a.id) mo.rules i no_rule ∙ (tb.rows no_rule i h).id

  pub rule_place : (i : ℕ) → i < length mo.rules → place_of (id_at x ts i) ids ≡ i
  rule_place i h =
      place_first (id_at x ts i) ids i (omega (arith, lists.each_length (λ (a : Automation). a.id) mo.rules))
      (ap (eq_t (id_at x ts i)) (id_among i h) ∙ eq_t_same (id_at x ts i))
      (λ j o. ap (eq_t (id_at x ts i)) (id_among j (omega arith)) ∙ others j o)
    where
      others : (j : ℕ) → j < i → eq_t (id_at x ts i) (id_at x ts j) ≡ false
      others j o = same_rule f x ts mo tb i j h (omega arith) ∙ ne_eqb i j (λ e. absurd (omega arith))

  -- ---- the parts of a record

  -- the kind's number k and its detail d say K
  pub record Tells (k d : ℕ) (K : Kind) : Type 0 where
    pub is : kind_of x ts k d ≡ K
    pub number : kind_number K ≡ k
    pub detail : detail_number ts ids K ≡ d

  abbrev pub GoodRule : Option ℕ → Type 0
  GoodRule None = Unit {0}
  GoodRule (Some a) = a < length mo.rules

  rule_words_lem : (u : Option ℕ) → GoodRule u → automation_words ts ids (rule_of x ts u) ≡ rule_words u
  unfolding automation_words
  rule_words_lem None g = refl
  rule_words_lem (Some a) g = rw (rule_place a g)

  where_words_lem : (w : Option RecordSource) → source_words (where_of w) ≡ where_words w
  unfolding source_words
  where_words_lem None = refl
  where_words_lem (Some s) = refl

  changed_words : (c : Option Write) → Placed ts c → words_of_change ts ids (change_of x ts c) ≡ change_words c
  unfolding words_of_change
  changed_words None g = refl
  changed_words (Some w) g = rw (text_place w.entity g.0, text_place w.before g.1.0, text_place w.after g.1.1)

  pub worded : (now k d : ℕ) (u : Option ℕ) (w : Option RecordSource) (c : Option Write) (K : Kind) → Tells k d K → GoodRule u → Placed ts c →
      Worded x ts mo (entry now (saying k d) u w c)
  unfolding record_words trace_words record_of
  worded now k d u w c K t g h = record {
    words = rw (t.is, t.number, t.detail, rule_words_lem u g, where_words_lem w, changed_words c h);
    placed = h;
  }
