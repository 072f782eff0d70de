use Rattle.lint_reach.proofs.Closure.{closed_full, closed_sound, closed_complete}
use mathlib.Core.Path.{◌≡◌, refl, sym, ◌∙◌, ap}
use Prim.Native.Nat.{◌+◌, ◌-◌}
use Rattle.lint_reach.specs.Steps.{steps, step_row_m, step_cell_m, step_pass_m, closed, cell, put}
use Rattle.lint_reach.proofs.Laws as laws
use Rattle.lint_reach.proofs.close.Goals as goal
use Rattle.lint_reach.proofs.close.Goals.{else-leads, else-reach-i, else-reach-k, then-leads+else-loop-i-test, then-reach-i+else-loop-j-test, then-reach-k}

pub loop-k-init : goal.loop-k-init
unfolding closed
loop-k-init c = refl

pub loop-i-init : goal.loop-i-init
loop-i-init c = refl

pub loop-j-init : goal.loop-j-init
loop-j-init c = refl

pub loop-j-preserved : goal.loop-j-preserved
loop-j-preserved c =
    let l = c.loop-j in let k = c.loop-k.k in let i = c.loop-i.i in
    let e : step_cell_m k i l.j l.reach ≡ c.if-reach-k.reach =
    (elim c.if-reach-k.branch [
      | then-reach-k w ↦ laws.when_true (cell l.reach k l.j) (put l.reach i l.j) l.reach w.if-reach-k.true
          ∙ sym w.reach-is
      | else-reach-k w ↦ laws.when_false (cell l.reach k l.j) (put l.reach i l.j) l.reach w.if-reach-k.false
          ∙ sym w.reach-is
    ]) in l.invariant ∙ laws.more (step_cell_m k i) 32 l.j l.reach
    c.loop-j-test.true ∙ ap (steps (step_cell_m k i) (32 - (l.j + 1)) (l.j + 1)) e

pub loop-i-preserved : goal.loop-i-preserved
loop-i-preserved c =
    let l = c.loop-i in let k = c.loop-k.k in let f = step_cell_m k l.i in let q = steps f 32 0 l.reach in
    let e : step_row_m k l.i l.reach ≡ c.if-reach-i.reach =
    (elim c.if-reach-i.branch [
      | then-reach-i+else-loop-j-test w ↦ laws.when_true (cell l.reach l.i k) q l.reach w.if-reach-i.true ∙ w.loop-j.invariant
          ∙ laws.none f 32 w.loop-j.j w.loop-j.reach w.loop-j-test.false ∙ sym w.reach-is
      | else-reach-i w ↦ laws.when_false (cell l.reach l.i k) q l.reach w.if-reach-i.false ∙ sym w.reach-is
    ]) in
    l.invariant ∙ laws.more (step_row_m k) 32 l.i l.reach c.loop-i-test.true
    ∙ ap (steps (step_row_m k) (32 - (l.i + 1)) (l.i + 1)) e

pub loop-k-preserved : goal.loop-k-preserved
loop-k-preserved c =
    let o = c.loop-k in let e : step_pass_m o.k o.reach ≡ c.if-leads.reach =
    (elim c.if-leads.branch [ then-leads+else-loop-i-test w ↦ w.loop-i.invariant ∙ laws.none (step_row_m o.k) 32 w.loop-i.i w.loop-i.reach w.loop-i-test.false ∙ sym w.reach-is | else-leads w ↦ laws.idle o.reach o.k (sym c.leads.ensures ∙ w.if-leads.false) ∙ sym w.reach-is ]) in
    o.invariant ∙ laws.more step_pass_m 32 o.k o.reach c.loop-k-test.true
    ∙ ap (steps step_pass_m (32 - (o.k + 1)) (o.k + 1)) e

pub returns : goal.returns
returns c =
    let o = c.loop-k in let a = c.args in let e : o.reach ≡ closed a.start =
    sym (o.invariant ∙ laws.none step_pass_m 32 o.k o.reach c.loop-k-test.false) in let f = c.requires in
    record {
      full = rw e (closed_full a.start f);
      sound = λ i j h. closed_sound a.start f i j (rw e at h);
      complete = λ i j h. rw e (closed_complete a.start f i j h);
    }
