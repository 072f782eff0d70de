-- Actions at positions of the file f, and the places where a run goes on.
use Rattle.std.specs.Prelude.{ℕ, ◌+◌, ◌-◌, List, ltb, eqb, get_or, set, if◌then◌else◌}
use Rattle.layout.specs.Table.{text_count_word}
use Rattle.model_walk.specs.Walk.{actions_m, choice_m}
use Rattle.runs.specs.Runs.{place_in}
use Rattle.runs.specs.declared.Place.{Place}
use Rattle.runs.specs.declared.Run.{Run}
use Rattle.engine_fields.specs.Fields.{two, four, list_word}
use Rattle.engine_state.specs.Machine.{later}
use Rattle.engine_evaluate.specs.Evaluate.{size_m, end_m}
use Rattle.engine_evaluate.specs.declared.Effect.{Effect}
use Rattle.engine_evaluate.specs.declared.Effect.TheVariants as effect
use Rattle.engine_evaluate.specs.declared.Action.{Action}

unfoldable pub effect_m : List ℕ → (kind at : ℕ) → Effect
effect_m f k at =
    if eqb k 0 then effect.Set (two f at) (two f (at + 2)) else
    if eqb k 1 then effect.Toggle (two f at) else
    if eqb k 2 then effect.Delay (four f at) else
    if eqb k 3 then effect.Condition at else
    if eqb k 4 then effect.Choose at else
    if eqb k 5 then effect.Wait at else effect.Unknown (two f at)

-- the position after an effect
unfoldable pub after_m : (f x : List ℕ) → (kind at : ℕ) → ℕ
after_m f x k at =
    if eqb k 1 then later at 2 else
    if eqb k 3 then later at (size_m f at) else
    if eqb k 4 then end_m (choice_m (get_or x text_count_word 0) (actions_m (get_or x text_count_word 0) 17) f at 0) at else
    if eqb k 5 then later at 21 else
    if eqb k 6 then later at 2 else later at 4

unfoldable pub action_m : (f x : List ℕ) → (at : ℕ) → Action
action_m f x at = record {
  source = record { line = four f at; column = four f (at + 4) };
  effect = effect_m f (get_or f (at + 8) 0) (later at 9);
  next = after_m f x (get_or f (at + 8) 0) (later at 9);
}

-- ---- a run's places

abbrev pub put_places : (depth : ℕ) (places : List ℕ) → Run → Run
put_places d l r = record {
  automation = r.automation;
  sequence = r.sequence;
  number = r.number;
  queued = r.queued;
  phase = r.phase;
  depth = d;
  places = l;
}

-- the list at a position comes first; a run has at most 17 lists
unfoldable pub list_m : List ℕ → Run → (at : ℕ) → Run
list_m f r at =
    if eqb (two f at) 0 then r else
    if ltb 16 r.depth then r else
    put_places (r.depth + 1) (set r.places r.depth (list_word (later at 2) (two f at))) r

unfoldable pub word_m : Run → ℕ
word_m r = if eqb r.depth 0 then 0 else if ltb 17 r.depth then 0 else get_or r.places (r.depth - 1) 0

unfoldable pub top_m : Run → Place
top_m r = place_in (word_m r)

-- the run's next action is behind it; `left` actions were left
unfoldable pub next_m : Run → (next left : ℕ) → Run
next_m r next left =
    if ltb left 2 then put_places (r.depth - 1) (set r.places (r.depth - 1) 0) r else
    put_places r.depth (set r.places (r.depth - 1) (list_word next (left - 1))) r

unfoldable pub stepped_m : Run → (next : ℕ) → Run
stepped_m r next =
    if eqb r.depth 0 then r else
    if ltb 17 r.depth then r else
    next_m r next (place_in (get_or r.places (r.depth - 1) 0)).left
