-- Words, names, messages and sets, put together from their parts.
use Rattle.std.specs.Prelude.{if◌then◌else◌}
use mathlib.Core.Path.{◌≡◌, refl, sym, ap, ◌∙◌}
use mathlib.Core.Bool.{Bool, true, false}
use mathlib.Core.Logic.{⊎_elim}
use mathlib.Core.List.{List, [], ◌∷◌, ◌++◌, append_assoc}
use Prim.Native.Nat.{ℕ, ◌+◌, ◌-◌, ◌/◌, ◌≤◌, ◌<◌}
use native.Mathlib.Omega.{arith}
use borrow.Author.Tests.{lt-ltb, le-ltb}
use lib.Count.{ones}
use lib.ListN.{length, get_or, take, get_or-eq_default}
use Rattle.engine_spec.proofs.Bounds.{length_each}
use Rattle.texts.specs.Lists.{each, flat}
use Rattle.texts.specs.Texts.{Text, text, decimal}
use Rattle.texts.specs.Places.{text_at, start_from}
use Rattle.texts.proofs.Ordering.{lt_or_ge}
use Rattle.model_parts.specs.declared.Section.{Section}
use Rattle.lint_spec.specs.Findings.{unsupported_note, code_name, message}
use Rattle.lint_spec.specs.Words.{tiers}
use Rattle.lint_reach.specs.Sets.{members}
use Rattle.lint_reach.proofs.Bits.{ones_members}
use Rattle.lint_walk.specs.Raw.{place_m}
use Rattle.show.specs.Lines.{escape, quoted, all_lines}
use Rattle.show.proofs.Laws as show
use Rattle.lint_words.specs.Lines.{spaced, listed, quoted_list}
use Rattle.lint_words.specs.Numbers.{
  placed_text,
  start_at,
  name_place,
  name_of,
  names_of,
  problems,
  problem_of,
  certainty_of,
  tier_of,
}

-- ---- choices

pub chosen : (b : Bool) (t : Text) → b ≡ true → t ≡ (if b then t else [])
chosen b t e = rw e

pub not_chosen : (b : Bool) (t : Text) → b ≡ false → [] ≡ (if b then t else [])
not_chosen b t e = rw e

above : (k n : ℕ) → k ≤ n → (n ≡ k → ⊥) → k + 1 ≤ n
above k n h d = ⊎_elim (λ q. absurd (d (omega arith))) (λ q. q) (lt_or_ge n (k + 1))

-- ---- words

module _ (x t : Text) (n : ℕ) where
  pub code_at : (k : ℕ) → n ≡ k → code_name (problem_of x t k) ≡ code_name (problem_of x t n)
  code_at k e = rw e

  pub message_at : (k : ℕ) → n ≡ k → quoted (message (problem_of x t k)) ≡ quoted (message (problem_of x t n))
  message_at k e = rw e

  pub noted : 9 ≤ n → problem_of x t n ≡ unsupported_note t
  unfolding problem_of
  noted h = get_or-eq_default (problems x) (unsupported_note t) h

module _ (x t : Text) where
  pub code_0 : text "unreachable_conditions" ≡ code_name (problem_of x t 0)
  unfolding problem_of code_name
  code_0 = refl

  pub code_1 : text "trigger_condition_mismatch" ≡ code_name (problem_of x t 1)
  unfolding problem_of code_name
  code_1 = refl

  pub code_2 : text "delayed_write" ≡ code_name (problem_of x t 2)
  unfolding problem_of code_name
  code_2 = refl

  pub code_3 : text "unreachable_branch" ≡ code_name (problem_of x t 3)
  unfolding problem_of code_name
  code_3 = refl

  pub code_4 : text "high_fanout" ≡ code_name (problem_of x t 4)
  unfolding problem_of code_name
  code_4 = refl

  pub code_5 : text "trigger_cycle" ≡ code_name (problem_of x t 5)
  unfolding problem_of code_name
  code_5 = refl

  pub code_6 : text "freshness_assumption" ≡ code_name (problem_of x t 6)
  unfolding problem_of code_name
  code_6 = refl

  pub code_7 : text "missing_safety_guard" ≡ code_name (problem_of x t 7)
  unfolding problem_of code_name
  code_7 = refl

  pub code_8 : text "opposing_writes" ≡ code_name (problem_of x t 8)
  unfolding problem_of code_name
  code_8 = refl

  note_name : text "unsupported" ≡ code_name (unsupported_note t)
  unfolding code_name
  note_name = refl

  pub code_other : (n : ℕ) → (n ≡ 0 → ⊥) → (n ≡ 1 → ⊥) → (n ≡ 2 → ⊥) → (n ≡ 3 → ⊥) → (n ≡ 4 → ⊥) → (n ≡ 5 → ⊥) →
      (n ≡ 6 → ⊥) → (n ≡ 7 → ⊥) → (n ≡ 8 → ⊥) → text "unsupported" ≡ code_name (problem_of x t n)
  code_other n a b c d e f g h i =
      note_name
      ∙ ap code_name
      (sym (noted x t n
      (above 8 n (above 7 n
      (above 6 n (above 5 n (above 4 n (above 3 n (above 2 n (above 1 n (above 0 n (omega arith) a) b) c) d) e) f) g) h)
      i)))

module _ (n : ℕ) where
  pub certainty_0 : n ≡ 0 → text "static" ≡ certainty_of n
  unfolding certainty_of
  certainty_0 e = rw e

  pub certainty_1 : n ≡ 1 → text "potential" ≡ certainty_of n
  unfolding certainty_of
  certainty_1 e = rw e

  pub certainty_other : (n ≡ 0 → ⊥) → (n ≡ 1 → ⊥) → text "unknown" ≡ certainty_of n
  unfolding certainty_of
  certainty_other a b =
      sym (get_or-eq_default (text "static" ∷ text "potential" ∷ []) (text "unknown")
      (above 1 n (above 0 n (omega arith) a) b))

  pub tier_0 : n ≡ 0 → text "observational" ≡ tier_of n
  unfolding tier_of
  tier_0 e = rw e

  pub tier_1 : n ≡ 1 → text "comfort" ≡ tier_of n
  unfolding tier_of
  tier_1 e = rw e

  pub tier_2 : n ≡ 2 → text "property" ≡ tier_of n
  unfolding tier_of
  tier_2 e = rw e

  pub tier_3 : n ≡ 3 → text "access_safety" ≡ tier_of n
  unfolding tier_of
  tier_3 e = rw e

  pub tier_4 : n ≡ 4 → text "accesssafety" ≡ tier_of n
  unfolding tier_of
  tier_4 e = rw e

  pub tier_other : (n ≡ 0 → ⊥) → (n ≡ 1 → ⊥) → (n ≡ 2 → ⊥) → (n ≡ 3 → ⊥) → (n ≡ 4 → ⊥) → text "unknown" ≡ tier_of n
  unfolding tier_of
  tier_other a b c d e =
      let h : 5 ≤ n = above 4 n (above 3 n (above 2 n (above 1 n (above 0 n (omega arith) a) b) c) d) e in
      ⊎_elim (λ q. let z : n ≡ 5 = omega arith in rw z) (λ q. sym (get_or-eq_default tiers (text "unknown") q))
      (lt_or_ge n 6)

-- ---- names

module _ (s : Section) (i : ℕ) where
  pub start_in : i < 100 → get_or s.starts i 0 ≡ start_at s i
  unfolding start_at
  start_in h = rw (lt-ltb i 100 h)

  pub start_out : 100 ≤ i → 0 ≡ start_at s i
  unfolding start_at
  start_out h = rw (le-ltb i 100 h)

  module _ (f : List ℕ) where
    pub place_is : (p r : ℕ) → p ≡ start_at s i → r ≡ place_m f p → r ≡ name_place f s i
    unfolding name_place
    place_is p r e h = h ∙ ap (place_m f) e

    name_is : (q at : ℕ) → q ≡ name_place f s i → at ≡ start_from f 6 q → text_at f at ≡ name_of f s i
    unfolding name_of placed_text
    name_is q at e h = rw (h, e)

    pub quoted_name : (q at : ℕ) → q ≡ name_place f s i → at ≡ start_from f 6 q →
        quoted (text_at f at) ≡ quoted (name_of f s i)
    quoted_name q at e h = ap quoted (name_is q at e h)

    pub inner_name : (q at : ℕ) → q ≡ name_place f s i → at ≡ start_from f 6 q →
        flat escape (text_at f at) ≡ flat escape (name_of f s i)
    inner_name q at e h = ap (flat escape) (name_is q at e h)

pub whole_escaped : (t : Text) (i : ℕ) → i ≤ length t → length t ≤ i → flat escape (take i t) ≡ flat escape t
whole_escaped t i h k = ap (flat escape) (show.whole t i h k)

pub no_inner : (f : List ℕ) (at : ℕ) → length f ≤ at → [] ≡ flat escape (text_at f at)
no_inner f at h = show.no_bytes ∙ ap (flat escape) (show.no_text f at h)

-- ---- messages: their own words have no quotes and no backslashes

flat_append : (s t : Text) → flat escape (s ++ t) ≡ flat escape s ++ flat escape t
unfolding flat
flat_append [] t = refl
flat_append (x ∷ s) t = rw (flat_append s t) (sym (append_assoc (escape x) (flat escape s) (flat escape t)))

after_name : (x s : Text) → flat escape s ≡ s → 34 ∷ (flat escape x ++ (s ++ (34 ∷ []))) ≡ quoted (x ++ s)
unfolding quoted
after_name x s h = rw (flat_append x s, h, append_assoc (flat escape x) s (34 ∷ []))

around_name : (b x s : Text) → flat escape b ≡ b → flat escape s ≡ s →
    34 ∷ (b ++ (flat escape x ++ (s ++ (34 ∷ [])))) ≡ quoted (b ++ x ++ s)
unfolding quoted
around_name b x s e h =
    rw (
      flat_append (b ++ x) s,
      flat_append b x,
      e,
      h,
      append_assoc (b ++ flat escape x) s (34 ∷ []),
      append_assoc b (flat escape x) (s ++ (34 ∷ [])),
    )

fresh_words : flat escape (text " has modeled freshness expiry") ≡ text " has modeled freshness expiry"
unfolding flat all_lines
fresh_words = refl

guard_words : flat escape (text " write has no matching action-guard invariant")
    ≡ text " write has no matching action-guard invariant"
unfolding flat all_lines
guard_words = refl

opposing_words : flat escape (text "Opposing or toggling intents for ") ≡ text "Opposing or toggling intents for "
unfolding flat all_lines
opposing_words = refl

exclusive_words : flat escape (text "; conditions may make them mutually exclusive")
    ≡ text "; conditions may make them mutually exclusive"
unfolding flat all_lines
exclusive_words = refl

module _ (x t : Text) where
  pub message_0 : quoted (text "Admission conditions require contradictory states") ≡ quoted (message (problem_of x t 0))
  unfolding problem_of message
  message_0 = refl

  pub message_1 : quoted (text "Trigger target differs from admission conditions; same-time event ordering can matter")
      ≡ quoted (message (problem_of x t 1))
  unfolding problem_of message
  message_1 = refl

  pub message_2 : quoted (text "Delayed writes may outlive trigger-time safety conditions; replay with changed state")
      ≡ quoted (message (problem_of x t 2))
  unfolding problem_of message
  message_2 = refl

  pub message_3 : quoted (text "Choose branch has contradictory state predicates") ≡ quoted (message (problem_of x t 3))
  unfolding problem_of message
  message_3 = refl

  pub message_4 : quoted (text "More than eight literal entity targets") ≡ quoted (message (problem_of x t 4))
  unfolding problem_of message
  message_4 = refl

  pub message_5 : quoted
      (text "Cyclic trigger/write interaction; simulate to distinguish stable states from repeated toggling")
      ≡ quoted (message (problem_of x t 5))
  unfolding problem_of message
  message_5 = refl

  pub message_6 : 34 ∷ (flat escape x ++ text " has modeled freshness expiry\"") ≡ quoted (message (problem_of x t 6))
  unfolding problem_of message
  message_6 = after_name x (text " has modeled freshness expiry") fresh_words

  pub message_7 : 34 ∷ (flat escape x ++ text " write has no matching action-guard invariant\"")
      ≡ quoted (message (problem_of x t 7))
  unfolding problem_of message
  message_7 = after_name x (text " write has no matching action-guard invariant") guard_words

  pub message_8 : text "\"Opposing or toggling intents for " ++ (flat escape x ++ text
      "; conditions may make them mutually exclusive\"") ≡ quoted (message (problem_of x t 8))
  unfolding problem_of message
  message_8 = around_name (text "Opposing or toggling intents for ") x (text "; conditions may make them mutually exclusive")
      opposing_words exclusive_words

  note_text : quoted t ≡ quoted (message (unsupported_note t))
  unfolding message
  note_text = refl

  pub message_9 : (n : ℕ) → 9 ≤ n → quoted t ≡ quoted (message (problem_of x t n))
  message_9 n h = note_text ∙ ap (λ p. quoted (message p)) (sym (noted x t n h))

pub is_5 : (n : ℕ) → n < 6 → (n ≡ 0 → ⊥) → (n ≡ 1 → ⊥) → (n ≡ 2 → ⊥) → (n ≡ 3 → ⊥) → (n ≡ 4 → ⊥) → n ≡ 5
is_5 n h a b c d e =
    let k : 5 ≤ n = above 4 n (above 3 n (above 2 n (above 1 n (above 0 n (omega arith) a) b) c) d) e in
    omega arith

pub is_8 : (n : ℕ) → (6 ≤ n) × (n < 9) → (n ≡ 6 → ⊥) → (n ≡ 7 → ⊥) → n ≡ 8
is_8 n h a b =
    let k : 8 ≤ n = above 7 n (above 6 n h.0 a) b in
    let l : n < 9 = h.1 in
    omega arith

-- ---- sets

pub each_each : {A B C : Type 0} (g : B → C) (h : A → B) (l : List A) → each g (each h l) ≡ each (λ x. g (h x)) l
unfolding each
each_each g h [] = refl
each_each {C = C} g h (x ∷ l) = ap {B = List C} (λ k. g (h x) ∷ k) (each_each g h l)

-- a number of texts, and the texts
pub counted : {A : Type 0} (h : A → Text) (l : List A) (k : ℕ) → k ≡ length l →
    decimal k ++ spaced (each h l) ≡ listed (each h l)
unfolding listed
counted h l k e = rw (length_each h l, e)

pub many : (x k : ℕ) → k ≡ ones x → x < 4294967296 → k ≡ length (members x)
many x k e small = e ∙ ones_members x small

pub names_listed : (f : List ℕ) (s : Section) (x k : ℕ) → k ≡ ones x → x < 4294967296 →
    decimal k ++ spaced (each (λ i. quoted (name_of f s i)) (members x)) ≡ quoted_list (names_of f s x)
unfolding quoted_list names_of
names_listed f s x k e small = counted (λ i. quoted (name_of f s i)) (members x) k (many x k e small)
    ∙ ap listed (sym (each_each quoted (name_of f s) (members x)))
