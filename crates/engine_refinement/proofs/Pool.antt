-- The reasons that an automation can give are among those that a simulation may give.
-- Each is rendered from the place of its text as the definition writes it.
use mathlib.Core.Path.{◌≡◌, refl, ap, subst}
use mathlib.Core.List.{List, [], ◌∷◌, ◌++◌, append-nil}
use mathlib.Core.Bool.{Bool, true, false, ◌||◌}
use Prim.Native.Nat.{ℕ, zero, suc, ◌≤◌, ◌<◌}
use native.Mathlib.Omega.{arith}
use lib.ListN.{length, get_or}
use lib.Dec.{eqb}
use borrow.Author.Tests.{lt-ltb}
use Rattle.texts.proofs.Bool.{or_left, or_right}
use Rattle.texts.specs.Lists.{any, flat}
use Rattle.texts.specs.Texts.{Text, text, eq_t, mem_t}
use Rattle.texts.specs.Places.{text_at, start_from}
use Rattle.model_spec.specs.Model.{Automation, Model}
use Rattle.model_spec.specs.Notes.{of_actions}
use Rattle.reasons.specs.Kinds as kinds
use Rattle.reasons.specs.Reasons.{render, body, words}
use Rattle.reasons.specs.Readable.{text_count, HasText}
use Rattle.engine_spec.specs.Reasons.{
  unknown_trigger_condition,
  toggle_of_unknown,
  unknown_action_condition,
  unknown_choose_condition,
  unsupported_wait,
}
use Rattle.engine_spec.specs.Unsupported.{unsupported}
use Rattle.engine_spec.proofs.Lists.{eq_t_same}
use Rattle.engine_fields.specs.Fields.{text_position, word, about_rule, alone, note_reason}
use Rattle.engine_fields.proofs.Readable.{start_low}
use Rattle.engine_refinement.specs.Meaning.{id_at, rule_pool, pool_of, Tabled}
use Rattle.engine_refinement.specs.Events.{Among}
use Rattle.engine_refinement.proofs.Numbers.{cap_is}
use Rattle.engine_refinement.proofs.Relation.{no_rule, id_in}

pub mem_right : (t : Text) (l m : List Text) → mem_t t m ≡ true → mem_t t (l ++ m) ≡ true
unfolding mem_t any
mem_right t [] m h = h
mem_right t (y ∷ l) m h = or_right (eq_t t y) _ (mem_right t l m h)

or_both : (a b c : Bool) → (a || b) ≡ true → (b ≡ true → c ≡ true) → (a || c) ≡ true
or_both true b c h g = refl
or_both false b c h g = g h

pub mem_left : (t : Text) (l m : List Text) → mem_t t l ≡ true → mem_t t (l ++ m) ≡ true
unfolding mem_t any
mem_left t [] m h = let z : ◌≡◌ {A = ℕ} 0 1 = cc in absurd (omega arith)
mem_left t (y ∷ l) m h = or_both (eq_t t y) (any (eq_t t) l) (any (eq_t t) (l ++ m)) h (mem_left t l m)

pub among_to : (k l m : List Text) → ((t : Text) → mem_t t l ≡ true → mem_t t m ≡ true) → Among l k → Among m k
among_to [] l m g h = tt
among_to (t ∷ k) l m g h = (g t h.0, among_to k l m g h.1)

pub among_self : (l : List Text) → Among l l
unfolding mem_t any
among_self [] = tt
among_self (t ∷ l) = (or_left (eq_t t t) _ (eq_t_same t), among_to l l (t ∷ l) (λ y h. or_right (eq_t y t) _ h) (among_self l))

in_flat : (d : Automation) (l : List Automation) (i : ℕ) → i < length l → Among (flat rule_pool l) (rule_pool (get_or l i d))
unfolding flat
in_flat d [] i h = absurd (omega arith)
in_flat d (r ∷ l) zero h =
    among_to (rule_pool r) (rule_pool r) (rule_pool r ++ flat rule_pool l)
    (λ t g. mem_left t (rule_pool r) (flat rule_pool l) g) (among_self (rule_pool r))
in_flat d (r ∷ l) (suc i) h =
    among_to (rule_pool (get_or l i d)) (flat rule_pool l) (rule_pool r ++ flat rule_pool l)
    (λ t g. mem_right t (rule_pool r) (flat rule_pool l) g) (in_flat d l i (omega arith))

pub wait_in : (mo : Model) → mem_t unsupported_wait (pool_of mo) ≡ true
unfolding pool_of mem_t any
wait_in mo =
    mem_right unsupported_wait (unsupported mo.rules) (unsupported_wait ∷ flat rule_pool mo.rules)
    (or_left (eq_t unsupported_wait unsupported_wait) _ (eq_t_same unsupported_wait))

pub rule_in : (mo : Model) (i : ℕ) → i < length mo.rules → Among (pool_of mo) (rule_pool (get_or mo.rules i no_rule))
unfolding pool_of mem_t any
rule_in mo i h =
    among_to (rule_pool (get_or mo.rules i no_rule)) (flat rule_pool mo.rules)
    (unsupported mo.rules ++ unsupported_wait ∷ flat rule_pool mo.rules)
    (λ t g. mem_right t (unsupported mo.rules) (unsupported_wait ∷ flat rule_pool mo.rules)
    (or_right (eq_t t unsupported_wait) _ g))
    (in_flat no_rule mo.rules i h)

-- the reasons of the automation with the identifier t
pub record RulePool (mo : Model) (t : Text) (r : Automation) : Type 0 where
  pub trigger : mem_t (unknown_trigger_condition t) (pool_of mo) ≡ true
  pub toggle : mem_t (toggle_of_unknown t) (pool_of mo) ≡ true
  pub action : mem_t (unknown_action_condition t) (pool_of mo) ≡ true
  pub choose : mem_t (unknown_choose_condition t) (pool_of mo) ≡ true
  pub told : Among (pool_of mo) (of_actions r.actions)

module _ (f x : List ℕ) (ts : List Text) (mo : Model) (tb : Tabled f x ts mo) where
  pub pool_is : (i : ℕ) → i < length mo.rules → RulePool mo (id_at x ts i) (get_or mo.rules i no_rule)
  unfolding rule_pool id_at
  pool_is i h =
      let a = rule_in mo i h in
      let e : (get_or mo.rules i no_rule).id ≡ get_or ts (word x i 0) [] = (tb.rows no_rule i h).id in
      record {
        trigger = subst (λ (t : Text). mem_t (unknown_trigger_condition t) (pool_of mo) ≡ true) e a.0;
        toggle = subst (λ (t : Text). mem_t (toggle_of_unknown t) (pool_of mo) ≡ true) e a.1.0;
        action = subst (λ (t : Text). mem_t (unknown_action_condition t) (pool_of mo) ≡ true) e a.1.1.0;
        choose = subst (λ (t : Text). mem_t (unknown_choose_condition t) (pool_of mo) ≡ true) e a.1.1.1.0;
        told = a.1.1.1.1;
      }

  -- ---- how reasons are rendered

  -- no text stands past the file's end
  past : (l : List ℕ) (at : ℕ) → length l ≤ at → get_or l at 0 ≡ 0
  past [] zero h = refl
  past [] (suc at) h = refl
  past (y ∷ l) zero h = absurd (omega arith)
  past (y ∷ l) (suc at) h = past l at (omega arith)

  pub no_text : text_at f 4294967295 ≡ []
  unfolding text_at
  no_text = rw (past f 4294967295 (omega (arith, tb.size)))

  pub has_text : HasText f
  has_text = record { bytes = tb.bytes; some = omega (arith, tb.counted, tb.on.is_in) }

  pub position_is : (k : ℕ) → k < length ts → text_at f (text_position f k) ≡ get_or ts k []
  unfolding text_position
  position_is k h =
      rw (
        lt-ltb k (text_count f) (omega (arith, tb.counted)),
        cap_is (start_from f 6 k) (omega (arith, start_low f tb.bytes k 6 6 (omega arith), tb.few_texts)),
      )
      (tb.placed_text k h)

  pub note_is : (k : ℕ) → k < length ts → render f (note_reason f k) ≡ get_or ts k []
  unfolding render body note_reason words
  note_is k h = rw (no_text, position_is k h) (append-nil (get_or ts k []))

  -- a reason about an automation
  about_is : (i k : ℕ) (t : Text) → i < length mo.rules → eqb k kinds.source_note_kind ≡ false → words k ≡ t →
      render f (about_rule f x i k) ≡ id_at x ts i ++ t
  unfolding render body about_rule id_at
  about_is i k t h n e =
      rw (n, no_text, position_is (word x i 0) (id_in f x ts mo tb i h), e)
      (ap (λ (y : Text). get_or ts (word x i 0) [] ++ y) (append-nil t))

  module _ (i : ℕ) (h : i < length mo.rules) where
    pub trigger_reason : render f (about_rule f x i kinds.trigger_condition) ≡ unknown_trigger_condition (id_at x ts i)
    unfolding unknown_trigger_condition words
    trigger_reason = about_is i kinds.trigger_condition (text ": unknown trigger condition") h refl refl

    pub toggle_reason : render f (about_rule f x i kinds.toggle) ≡ toggle_of_unknown (id_at x ts i)
    unfolding toggle_of_unknown words
    toggle_reason = about_is i kinds.toggle (text ": toggle of unknown state") h refl refl

    pub choose_reason : render f (about_rule f x i kinds.choose_condition) ≡ unknown_choose_condition (id_at x ts i)
    unfolding unknown_choose_condition words
    choose_reason = about_is i kinds.choose_condition (text ": unknown choose condition") h refl refl

    pub action_reason : render f (about_rule f x i kinds.action_condition) ≡ unknown_action_condition (id_at x ts i)
    unfolding unknown_action_condition words
    action_reason = about_is i kinds.action_condition (text ": unknown action condition") h refl refl

  wait_words : words kinds.wait ≡ text "unsupported wait trigger"
  unfolding words
  wait_words = refl

  pub wait_reason : render f (alone kinds.wait) ≡ unsupported_wait
  unfolding render body alone unsupported_wait
  wait_reason = rw (no_text, wait_words)
