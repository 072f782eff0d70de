-- A walk's list keeps its size, and its count stays within it.
use Rattle.std.specs.Prelude.{if◌then◌else◌}
use mathlib.Core.Path.{◌≡◌, refl, ◌∙◌}
use mathlib.Core.List.{List}
use mathlib.Core.Bool.{Bool, true, false}
use Prim.Native.Nat.{ℕ, zero, suc, ◌+◌, ◌≤◌}
use native.Mathlib.Omega.{arith}
use lib.Dec.{ltb, eqb}
use lib.ListN.{length, set, length-set, length-replicate}
use borrow.Author.Tests.{ltb-true}
use Rattle.lint_walk.specs.declared.Walk.{Walk}
use Rattle.lint_walk.specs.Raw.{repeat, kind_m, actions_m}
use Rattle.lint_walk.specs.Walks.{moved_m, noted_m, entered_m, simple_m, action_m, branch_m, choice_m, list_m, fresh, walk_m}

pub record Sized (w : Walk) : Type 0 where
  pub few : w.count ≤ 512
  pub size : length w.list ≡ 512

sized_moved : (w : Walk) (p : ℕ) → Sized w → Sized (moved_m w p)
unfolding moved_m
sized_moved w p h = record { few = h.few; size = h.size }

sized_noted : (w : Walk) → Sized w → Sized (noted_m w)
unfolding noted_m
sized_noted w h = cases (ltb w.count 512) refl
  where
    cases : (b : Bool) → ltb w.count 512 ≡ b → Sized
        (if b then record { list = set w.list w.count w.next; count = w.count + 1; next = w.next } else w)
    cases true e = record {
      few = omega (arith, ltb-true w.count 512 e);
      size =
          length-set w.list w.count w.next ∙ h.size;
    }
    cases false e = h

sized_repeat : (f : Walk → Walk) → ((w : Walk) → Sized w → Sized (f w)) → (n : ℕ) (w : Walk) → Sized w → Sized (repeat n f w)
unfolding repeat
sized_repeat f h zero w k = k
sized_repeat f h (suc n) w k = sized_repeat f h n (f w) (h w k)

module _ (s : List ℕ) where
  sized_choice : (inner : Walk → Walk) → ((w : Walk) → Sized w → Sized (inner w)) → (w : Walk) → Sized w →
      Sized (choice_m s inner w)
  unfolding choice_m branch_m
  sized_choice inner h w k = h _ (sized_repeat (branch_m s inner) (λ v i. h _ (sized_moved v _ i)) _ _ (sized_moved w _ k))

  sized_action : (choice : Walk → Walk) → ((w : Walk) → Sized w → Sized (choice w)) → (w : Walk) → Sized w →
      Sized (action_m s choice w)
  unfolding action_m entered_m simple_m
  sized_action choice h w k = cases (eqb (kind_m s w.next) 4)
    where
      cases : (b : Bool) → Sized (if b then choice (entered_m s w) else simple_m s w)
      cases true = h _ (sized_moved _ _ (sized_noted w k))
      cases false = sized_moved _ _ (sized_noted w k)

  sized_list : (left : ℕ) (w : Walk) → Sized w → Sized (list_m left s w)
  unfolding list_m
  sized_list zero w k = k
  sized_list (suc left) w k = sized_repeat (action_m s (choice_m s (list_m left s)))
      (sized_action (choice_m s (list_m left s)) (sized_choice (list_m left s) (sized_list left))) _ _ (sized_moved w _ k)

  pub walk_sized : (p : ℕ) → Sized (walk_m s p)
  unfolding walk_m
  walk_sized p = sized_list 18 (fresh (actions_m s p)) (record { few = omega arith; size = length-replicate {A = ℕ} 512 0 })

  -- of the code's walk
  pub sized : (p : ℕ) {w : Walk} → w ≡ walk_m s p → (w.count ≤ 512) × (length w.list ≡ 512)
  sized p e = rw e ((walk_sized p).few, (walk_sized p).size)
