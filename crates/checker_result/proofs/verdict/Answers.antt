use borrow.Author.Rules.{rules}
use Rattle.bounds.proofs.Laws as bounds
use Rattle.checker_result.proofs.Laws as laws
use native.Mathlib.Omega.{arith}
use Rattle.checker_result.proofs.verdict.Goals as goal

pub merge-unknown-requires : goal.merge-unknown-requires
merge-unknown-requires c = laws.merge_room _ _ _ _ (bounds.smaller c.min-many.ensures).most (search rules) (search rules)

pub judge_all-t-requires : goal.judge_all-t-requires
judge_all-t-requires c = (
  c.fitting-n.ensures.most,
  (
    search rules,
    (
      omega (
        arith,
        laws.merged_most _ _ _ _
            (bounds.smaller c.min-many.ensures).most c.merge-unknown.ensures,
      ),
      omega (arith, c.add_waiting-incomplete.ensures.most, c.add_stopped-stopped.ensures.most),
    ),
  ),
)

pub returns : goal.returns
returns c =
    laws.judged_is _ (bounds.smaller c.min-many.ensures) c.merge-unknown.ensures c.add_stopped-stopped.ensures c.add_waiting-incomplete.ensures
    c.fitting-n.ensures c.judge_all-t.ensures c.status_of-status.ensures
