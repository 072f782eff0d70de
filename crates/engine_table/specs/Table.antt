-- The table that the engine goes by: what each of its 336 words is, from the file s and its index.
use Rattle.std.specs.Prelude.{Some, None, ℕ, ◌+◌, ◌-◌, ◌*◌, ◌/◌, ◌%◌, ◌<◌, ◌≡◌, List, ltb, eqb, length, get_or, if◌then◌else◌}
use Rattle.texts.specs.Texts.{text}
use Rattle.model_walk.specs.declared.Piece.TheVariants as piece
use Rattle.model_walk.specs.Walk.{Walked, pieces_m, actions_m}
use Rattle.model_order.specs.Order.{place_from}
use Rattle.model_index.specs.declared.Index.{Index}
use Rattle.bounds.specs.Bounds.{at_most}
use Rattle.engine_fields.specs.Fields.{two, four, cap}

-- where a walk ended; a file that was read has all its parts
unfoldable pub end_of : Walked → (at : ℕ) → ℕ
end_of (Some (p, n)) at = p
end_of None at = at

-- ---- an entity at p: name, count and values, initial, tier, stale_after

unfoldable pub stale_at : List ℕ → (p : ℕ) → ℕ
stale_at s p = four s (p + 7 + 2 * two s (p + 2))

-- ---- an automation at p: id, mode, max, triggers of 16 bytes, conditions, actions, source, notes

unfoldable pub conditions_at : List ℕ → (p : ℕ) → ℕ
conditions_at s p = p + 9 + 16 * two s (p + 7)

unfoldable pub actions_at : (texts : ℕ) → List ℕ → (p : ℕ) → ℕ
actions_at ts s p = end_of (pieces_m ts piece.Predicate s (conditions_at s p) 0) (conditions_at s p)

unfoldable pub source_at : (texts : ℕ) → List ℕ → (p : ℕ) → ℕ
source_at ts s p = end_of (actions_m ts 18 s (actions_at ts s p) 0) (actions_at ts s p)

-- the k-th word of the automation at p
unfoldable pub rule_word : (texts : ℕ) → List ℕ → (p k : ℕ) → ℕ
rule_word ts s p k =
    if eqb k 0 then two s p else
    if eqb k 1 then get_or s (p + 2) 0 else
    if eqb k 2 then four s (p + 3) else
    if eqb k 3 then cap (p + 7) else
    if eqb k 4 then cap (conditions_at s p) else
    if eqb k 5 then cap (actions_at ts s p) else
    if eqb k 6 then cap (source_at ts s p) else
    cap (source_at ts s p + 8)

-- ---- the words

-- the counts: 0 entities, 1 automations, 8 events, 9 texts
unfoldable pub count_word : Index → (k : ℕ) → ℕ
count_word i k =
    if eqb k 0 then i.entities.count else
    if eqb k 1 then i.rules.count else
    if eqb k 8 then i.events.count else
    if eqb k 9 then i.texts.count else 0

-- the places of the fixed texts
unfoldable pub fixed_word : List ℕ → Index → (k : ℕ) → ℕ
fixed_word s i k =
    if eqb k 4 then place_from i.texts.count 0 (text "on") s 6 else
    if eqb k 5 then place_from i.texts.count 0 (text "off") s 6 else
    if eqb k 6 then place_from i.texts.count 0 (text "unknown") s 6 else
    place_from i.texts.count 0 (text "unavailable") s 6

-- the start, at the k-th byte behind the automations; past the end of the file it is 0
unfoldable pub start_word : List ℕ → Index → (k : ℕ) → ℕ
start_word s i k = four s (cap (end_of i.rules.end 0) + k)

-- the first sixteen words: 10 and 11 are the weekday and the second of second 0
unfoldable pub head_word : List ℕ → Index → (k : ℕ) → ℕ
head_word s i k =
    if ltb k 2 then count_word i k else
    if eqb k 2 then four s (cap i.limits + 0) else
    if eqb k 3 then four s (cap i.limits + 4) else
    if ltb k 8 then fixed_word s i k else
    if eqb k 10 then start_word s i 0 else
    if eqb k 11 then start_word s i 4 else count_word i k

-- entities' names, then when their values are stale, then eight words for each automation
unfoldable pub part_word : (texts : ℕ) → List ℕ → (names rules : List ℕ) → (k : ℕ) → ℕ
part_word ts s names rules k =
    if ltb k 48 then two s (cap (get_or names (k - 16) 0)) else
    if ltb k 80 then stale_at s (cap (get_or names (k - 48) 0)) else
    rule_word ts s (cap (get_or rules ((k - 80) / 8) 0)) ((k - 80) % 8)

unfoldable pub table_word : List ℕ → Index → (k : ℕ) → ℕ
table_word s i k =
    if ltb k 16 then head_word s i k else part_word i.texts.count s i.entities.starts i.rules.starts k

pub record Headed (s : List ℕ) (i : Index) (x : List ℕ) : Type 0 where
  pub long : length x ≡ 336
  pub words : (k : ℕ) → k < 16 → get_or x k 0 ≡ head_word s i k

-- the table of the index, up to the last automation
pub record TableOf (s : List ℕ) (i : Index) (x : List ℕ) : Type 0 where
  pub words : (k : ℕ) → k < 80 + at_most i.rules.count 32 * 8 → get_or x k 0 ≡ table_word s i k
