-- The walk over a list of actions: their positions, in order, and the position behind the list.
use Rattle.std.specs.Prelude.{ℕ, zero, suc, ◌+◌, List, ltb, eqb, set, replicate, if◌then◌else◌}
use Rattle.lint_walk.specs.declared.Walk.{Walk}
use Rattle.lint_walk.specs.declared.Cursor.{Cursor}
use Rattle.lint_walk.specs.Raw.{place_m, past, repeat, predicates_end, simple_end, kind_m, actions_m}

-- a walk by its first n actions alone
abbrev pub walk_by : List ℕ → (n : ℕ) → Walk
walk_by l n = record { list = l; count = n; next = 0 }

-- the code's walk, whose list is lent
abbrev pub walk_of : List ℕ → Cursor → Walk
walk_of l c = record { list = l; count = c.count; next = c.next }

unfoldable pub moved_cursor_m : Cursor → ℕ → Cursor
moved_cursor_m c p = record { count = c.count; next = p }

unfoldable pub moved_m : Walk → ℕ → Walk
moved_m w p = record { list = w.list; count = w.count; next = p }

-- one action more, if there is room
unfoldable pub noted_m : Walk → Walk
noted_m w = if ltb w.count 512 then record {
  list = set w.list w.count w.next;
  count = w.count + 1;
  next =
      w.next;
} else w

module _ (s : List ℕ) where
  -- the action that is next, a choice: its branches are next
  unfoldable pub entered_m : Walk → Walk
  entered_m w = moved_m (noted_m w) (past s w.next 9)

  -- the action that is next, without a list
  unfoldable pub simple_m : Walk → Walk
  simple_m w = moved_m (noted_m w) (simple_end s (kind_m s w.next) (past s w.next 9))

  -- the walk over a choice is given
  unfoldable pub action_m : (Walk → Walk) → Walk → Walk
  action_m choice w = if eqb (kind_m s w.next) 4 then choice (entered_m w) else simple_m w

  -- the walk over an inner list is given
  unfoldable pub branch_m : (Walk → Walk) → Walk → Walk
  branch_m inner w = inner (moved_m w (predicates_end s w.next))

  unfoldable pub choice_m : (Walk → Walk) → Walk → Walk
  choice_m inner w = inner (repeat (place_m s w.next) (branch_m inner) (moved_m w (past s w.next 2)))

-- a list of actions in which lists stand at most `left` deep, itself counted
unfoldable pub list_m : (left : ℕ) → List ℕ → Walk → Walk
list_m zero s w = w
list_m (suc left) s w = repeat (place_m s w.next) (action_m s (choice_m s (list_m left s))) (moved_m w (past s w.next 2))

-- from a position on
abbrev pub fresh : ℕ → Walk
fresh p = record { list = replicate 512 0; count = 0; next = p }

-- the actions of the automation at a position; its source is next
unfoldable pub walk_m : List ℕ → ℕ → Walk
walk_m s p = list_m 18 s (fresh (actions_m s p))

-- the position behind a list of actions
unfoldable pub list_end : List ℕ → ℕ → ℕ
list_end s p = (list_m 18 s (fresh p)).next
