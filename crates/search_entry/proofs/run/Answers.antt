use Rattle.search_entry.proofs.Entry as entry
use Rattle.search_entry.proofs.Start as start
use native.Mathlib.Omega.{arith}
use Prim.Native.Nat.{ℕ}
use mathlib.Core.Path.{ap, ◌∙◌}
use lib.ListN.{length-replicate}
use Rattle.bounds.specs.Bounds.{at_most}
use Rattle.search_entry.proofs.run.Goals as goal

pub search_depths-o-requires : goal.search_depths-o-requires
search_depths-o-requires c = (
  c.at_most-depth.ensures.1,
  start.fitted _ _ c.requires.0.m c.requires.0.is_accepted c.requires.0.indexed
      c.planned-p.result c.planned-p.ensures
      (omega (arith, c.begun-start.auto.w, length-replicate {A = ℕ} 4000 0)),
)

pub ended-requires : goal.ended-requires
ended-requires c =
    entry.reach (λ k. omega (arith, c.shared_slice_known-1.given k)) c.planned-p.result c.prepared-b.ensures
    c.planned-p.ensures c.begun-start.ensures (c.at_most-depth.ensures.0
    ∙ ap (λ (y : ℕ). at_most y 5) c.limit.ensures) c.search_depths-o.ensures c.requires.0 c.requires.1
    (omega (
      arith,
      c.search_depths-o.auto.w,
      c.begun-start.auto.w,
      length-replicate {A = ℕ} 4000 0,
    )) (omega (arith, c.search_depths-o.auto.queue))
    (omega (arith, c.search_depths-o.auto.records))
    (omega (arith, c.search_depths-o.auto.runs))

pub shape_of-queue : goal.shape_of-queue
shape_of-queue c = omega (arith, c.ended.auto.queue, c.search_depths-o.auto.queue)

pub shape_of-records : goal.shape_of-records
shape_of-records c = omega (arith, c.ended.auto.records, c.search_depths-o.auto.records)

pub shape_of-runs : goal.shape_of-runs
shape_of-runs c = omega (arith, c.ended.auto.runs, c.search_depths-o.auto.runs)

pub shape_of-output : goal.shape_of-output
shape_of-output c = c.ended.auto.output

pub returns : goal.returns
returns c =
    entry.run_so (λ k. omega (arith, c.shared_slice_known-1.given k)) c.planned-p.result c.prepared-b.ensures
    c.planned-p.ensures c.begun-start.ensures (c.at_most-depth.ensures.0
    ∙ ap (λ (y : ℕ). at_most y 5) c.limit.ensures) c.search_depths-o.ensures
    (omega (arith, c.search_depths-o.auto.queue))
    (omega (arith, c.search_depths-o.auto.records))
    (omega (arith, c.search_depths-o.auto.runs)) c.ended.ensures
