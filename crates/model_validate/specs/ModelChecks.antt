-- The checks of a whole model, on places: the tests before the sections, and the sections in their order.
-- `proofs/Refines` has that they say what `Validate` says of the model that the file holds.
use Rattle.model_walk.specs.Walk.{Walked}
use Rattle.std.specs.Prelude.{Some, None, ℕ, ◌≤◌, Bool, false, ◌||◌, not, List, ltb, eqb, length, if◌then◌else◌}
use Rattle.texts.specs.Texts.{text}
use Rattle.model_spec.specs.Model.{midnight}
use Rattle.model_spec.specs.File.{got, broken, u16, u32, or_zeros, start, limits}
use Rattle.model_spec.specs.Validate.{bad_limits, bad_start}
use Rattle.model_order.specs.Order.{place_from}
use Rattle.model_index.specs.declared.Index.{Index}
use Rattle.model_check.specs.declared.Checked.{Checked}
use Rattle.model_check.specs.declared.Checked.TheVariants as checked
use Rattle.model_check.specs.declared.Declared.{Declared}
use Rattle.model_check.specs.Checks.{Declaration, declaration, Check, ◌⨾◌, refuse_if}
use Rattle.model_validate.specs.declared.Numbers.{Numbers}
use Rattle.model_sections.specs.declared.Part.TheVariants as part
use Rattle.model_sections.specs.Sections.{text_of, seconds_bad, gaps_bad, section_m}

-- ---- the tests before the sections

unfoldable pub title_bad : List ℕ → Numbers → Bool
title_bad s i = elim (u16 s i.title) [
  | got x q ↦ not (eqb i.version 1) || ltb 200 (length (text_of s x))
  | broken ↦ false
]

unfoldable pub size_bad : (entities : ℕ) → Numbers → Bool
size_bad c i = eqb c 0 || ltb 32 c || ltb 32 i.rules || ltb 100 i.events || ltb 32 i.invariants

unfoldable pub limits_bad : List ℕ → ℕ → Bool
limits_bad s p = elim (limits s p) [ got l q ↦ bad_limits l | broken ↦ false ]

-- the start stands where the automations end
unfoldable pub start_bad : List ℕ → Walked → Bool
start_bad s (Some (p, n)) = elim (or_zeros midnight start s p) [ got m q ↦ bad_start m | broken ↦ false ]
start_bad s None = false

unfoldable pub alphabet_bad : List ℕ → Numbers → (gaps : List ℕ) → Bool
alphabet_bad s i gaps = ltb 12 i.alphabet || eqb i.gaps 0 || ltb 4 i.gaps || gaps_bad gaps s i.gaps 0

-- 9
unfoldable pub orders_m : Numbers → (events : List ℕ) → Check
orders_m i events s p n = elim (u32 s i.limits) [
  | got h q ↦ refuse_if 9 (seconds_bad h events s i.events 0 0) s p n
  | broken ↦ checked.Refused 30
]

-- a model that isn't too large
pub record Small (count : ℕ) (i : Numbers) : Type 0 where
  pub events : i.events ≤ 100
  pub entities : count ≤ 100
  pub alphabet : i.alphabet ≤ 100
  pub invariants : i.invariants ≤ 100
  pub rules : i.rules ≤ 100

unfoldable pub sections_m : Declaration → Numbers → (events invariants alphabet rules : List ℕ) → Check
sections_m d i events invariants alphabet rules =
    section_m d part.Entity d.count d.starts
    ⨾ section_m d part.Event i.events events
    ⨾ section_m d part.Input i.alphabet alphabet
    ⨾ orders_m i events
    ⨾ section_m d part.Invariant i.invariants invariants
    ⨾ section_m d part.Rule i.rules rules

-- all of it, in the order of `validate`
unfoldable pub model_m : Declaration → Numbers → (events invariants alphabet gaps rules : List ℕ) → List ℕ → Checked
model_m d i events invariants alphabet gaps rules s =
    if title_bad s i then checked.Refused 1
    else if size_bad d.count i then checked.Refused 2
    else if limits_bad s i.limits then checked.Refused 3
    else if start_bad s i.behind then checked.Refused 3
    else if alphabet_bad s i gaps then checked.Refused 4
    else sections_m d i events invariants alphabet rules s 0 0

-- ---- the index

-- what a model of so many texts and entities declares, beside the positions of its entities
unfoldable pub declared_in : List ℕ → (texts entities : ℕ) → Declared
declared_in s t e = record {
  count = e;
  on = place_from t 0 (text "on") s 6;
  off = place_from t 0 (text "off") s 6;
  unknown = place_from t 0 (text "unknown") s 6;
  unavailable = place_from t 0 (text "unavailable") s 6;
}

abbrev pub declared_of : List ℕ → Index → Declaration
declared_of s i = declaration (declared_in s i.texts.count i.entities.count) i.entities.starts

abbrev pub numbers_of : Index → Numbers
numbers_of i = record {
  version = i.version;
  title = i.title;
  limits = i.limits;
  events = i.events.count;
  invariants = i.invariants.count;
  alphabet = i.alphabet.count;
  gaps = i.gaps.count;
  rules = i.rules.count;
  behind = i.rules.end;
}

-- the check of the model that the index finds
abbrev pub index_m : Index → List ℕ → Checked
index_m i s = model_m (declared_of s i) (numbers_of i) i.events.starts i.invariants.starts i.alphabet.starts
    i.gaps.starts i.rules.starts s
