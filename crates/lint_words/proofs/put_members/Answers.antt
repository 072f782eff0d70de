use borrow.Author.Rules.{rules}
use mathlib.Core.Path.{◌∙◌}
use Prim.Native.Nat.{◌-◌}
use Rattle.lint_reach.specs.Sets.{holds}
use Rattle.lint_words.proofs.Loops as loops
use Rattle.show.proofs.Laws as show
use Rattle.lint_words.proofs.Laws as laws
use Rattle.lint_words.proofs.put_members.Goals as goal

pub loop-i-init : goal.loop-i-init
loop-i-init c = (loops.begun (loops.members_begun _ _), search rules)

pub loop-i-preserved : goal.loop-i-preserved
loop-i-preserved c = (
  loops.further (loops.turn 32 (holds c.args.set) _ c.loop-i.i c.loop-i-test.true) c.loop-i.invariant.0
      c.put_member-m.ensures,
  search rules,
)

pub shape_of-out : goal.shape_of-out
shape_of-out c = c.loop-i.invariant.0.written.same ∙ c.put_number-m.ensures.same

pub returns : goal.returns
returns c =
    show.is (laws.names_listed _ _ _ _ c.long.ensures (search rules))
    (show.both c.put_number-m.ensures (loops.finished (loops.end 32 _ _ _ c.loop-i-test.false)
    c.loop-i.invariant.0))
