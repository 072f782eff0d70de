-- The notes of the automations as reasons, listed from the file: of actions, and of whole automations, as engine_notes has
-- it of their other parts. `proofs/Refines` has, for each listing, that it adds the reasons of the part that the reader of
-- `File` finds there.
use Rattle.std.specs.Prelude.{ℕ, zero, suc, ◌+◌, List, [], eqb, if◌then◌else◌}
use Rattle.layout.specs.Table.{actions_word, conditions_word, id_word, notes_word, triggers_word}
use Rattle.texts.specs.Texts.{Text}
use Rattle.model_spec.specs.File.{u8, u16, u32}
use Rattle.reasons.specs.Kinds as kinds
use Rattle.reasons.specs.declared.Reason.{Reason}
use Rattle.reasons.specs.Reasons.{render}
use Rattle.engine_fields.specs.Fields.{word, rules, text_position}
use Rattle.engine_unsupported.specs.declared.Head.{Head}
use Rattle.engine_notes.specs.declared.Part.TheVariants as part
use Rattle.engine_notes.specs.Listing.{
  after,
  Listing,
  ◌⨾◌,
  read,
  by,
  stay,
  skip_m,
  times_m,
  insert_m,
  trigger_m,
  predicate_m,
  parts_m,
}

-- ---- actions

abbrev pub no_head : ℕ → Head
no_head p = record { line = 0; column = 0; kind = 0; next = p }

-- an action's source and its kind
unfoldable pub head_of : List ℕ → ℕ → Head
head_of f p =
    read u32 (no_head p) (λ l q. read u32 (no_head p)
    (λ c t. read u8 (no_head p) (λ k o. record { line = l; column = c; kind = k; next = o }) f t) f q) f p

unfoldable pub source_note : List ℕ → (line column note : ℕ) → Reason
source_note f l c m = record { kind = kinds.source_note_kind; first = 4294967295; second = text_position f m; line = l; column = c }

unfoldable pub source_m : (line column note : ℕ) → Listing
source_m l c m f p t = after p (insert_m (render f (source_note f l c m)) t)

unfoldable pub unknown_m : (line column : ℕ) → Listing
unknown_m l c = by u16 (source_m l c)

unfoldable pub wait_m : Listing
wait_m = trigger_m 65535 ⨾ skip_m 5

-- an effect that holds no list
unfoldable pub simple_m : Head → Listing
simple_m h =
    if eqb h.kind 3 then predicate_m 65535
    else if eqb h.kind 5 then wait_m
    else if eqb h.kind 6 then unknown_m h.line h.column
    else if eqb h.kind 1 then skip_m 2
    else skip_m 4

abbrev pub branch_m : Listing → Listing
branch_m inner = parts_m part.Predicate 65535 ⨾ inner

abbrev pub choice_m : Listing → Listing
choice_m inner = by u16 (λ c. times_m c (branch_m inner) ⨾ inner)

unfoldable pub effect_m : Listing → Head → Listing
effect_m inner h = if eqb h.kind 4 then choice_m inner else simple_m h

unfoldable pub action_m : Listing → Listing
action_m inner f p = effect_m inner (head_of f p) f (head_of f p).next

-- a list of actions in which lists stand at most `left` deep, itself counted
unfoldable pub actions_m : (left : ℕ) → Listing
actions_m zero = stay
actions_m (suc left) = by u16 (λ c. times_m c (action_m (actions_m left)))

-- ---- automations, rows of the table x

-- the automation's own notes and those of its triggers and conditions
unfoldable pub own_m : (f x : List ℕ) → (i : ℕ) → List Text → List Text
own_m f x i l =
    let a = (parts_m part.Note (word x i id_word) f (word x i notes_word) l).list in
    let b = (parts_m part.Trigger (word x i id_word) f (word x i triggers_word) a).list in
    (parts_m part.Predicate (word x i id_word) f (word x i conditions_word) b).list

unfoldable pub rule_m : (f x : List ℕ) → (i : ℕ) → List Text → List Text
rule_m f x i l = (actions_m 18 f (word x i actions_word) (own_m f x i l)).list

-- as many as `left` from the i-th on
unfoldable pub rules_m : (f x : List ℕ) → (left i : ℕ) → List Text → List Text
rules_m f x zero i l = l
rules_m f x (suc left) i l = rules_m f x left (i + 1) (rule_m f x i l)

unfoldable pub unsupported_m : (f x : List ℕ) → List Text
unsupported_m f x = rules_m f x (rules x) 0 []
