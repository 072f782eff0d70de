use mathlib.Core.Path.{sym, ◌∙◌}
use Prim.Native.Nat.{◌-◌}
use Rattle.cone_names.proofs.Laws as laws
use Rattle.cone_names.proofs.wanted.Goals as goal

pub loop-j-init : goal.loop-j-init
loop-j-init c = laws.wanted_is _ _ _

pub returns-then-count-j : goal.returns-then-count-j
returns-then-count-j c = sym (c.loop-j.invariant ∙ laws.some_none _ _ _ _ _ c.loop-j-test.true c.if-count-j.true)

pub returns-then-read_by : goal.returns-then-read_by
returns-then-read_by c =
    sym (c.loop-j.invariant ∙ laws.some_here _ _ _ _ _ c.loop-j-test.true c.if-count-j.false
    c.read_by.ensures c.if-read_by.true)

pub loop-j-preserved : goal.loop-j-preserved
loop-j-preserved c =
    c.loop-j.invariant ∙ laws.some_later _ _ _ _ _ c.loop-j-test.true c.if-count-j.false
    c.read_by.ensures c.if-read_by.false

pub returns : goal.returns
returns c = sym (c.loop-j.invariant ∙ laws.some_end _ _ _ _ _ c.loop-j-test.false)
