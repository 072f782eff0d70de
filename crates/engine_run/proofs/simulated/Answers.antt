use mathlib.Core.Path.{ap, ◌∙◌}
use native.Mathlib.Omega.{arith}
use Rattle.engine_run.proofs.Laws as laws
use Rattle.engine_run.proofs.simulated.Goals as goal

pub run_all-e-requires : goal.run_all-e-requires
run_all-e-requires c = (
  omega (arith, c.requires),
  (
    omega (arith, ap (λ s. s.items) c.start-st.ensures, ap (λ s. s.queue_start) c.start-st.ensures),
    (
      omega (arith, ap (λ s. s.records) c.start-st.ensures),
      (
        omega (arith, ap (λ s. s.live_runs) c.start-st.ensures),
        (omega (arith, c.requires, ap (λ s. s.reasons) c.start-st.ensures), omega (arith, c.requires)),
      ),
    ),
  ),
)

pub clear_items-requires : goal.clear_items-requires
clear_items-requires c = c.run_all-e.ensures.items_fit

pub clear_runs-requires : goal.clear_runs-requires
clear_runs-requires c = c.run_all-e.ensures.runs_fit

pub shape_of-q-then-s-ne0 : goal.shape_of-q-then-s-ne0
shape_of-q-then-s-ne0 c = c.clear_items.ensures.long ∙ c.run_all-e.ensures.queue ∙ laws.zero_length _ _ c.clear_all.ensures

pub shape_of-a-then-s-ne0 : goal.shape_of-a-then-s-ne0
shape_of-a-then-s-ne0 c =
    laws.zero_length _ _ c.clear_all-then-s-ne0.ensures ∙ c.run_all-e.ensures.records
    ∙ laws.zero_length _ _ c.clear_all-2.ensures

pub shape_of-r-then-s-ne0 : goal.shape_of-r-then-s-ne0
shape_of-r-then-s-ne0 c = c.clear_runs.ensures.long ∙ c.run_all-e.ensures.runs ∙ laws.zero_length _ _ c.clear_all-3.ensures

pub returns-then-s-ne0 : goal.returns-then-s-ne0
returns-then-s-ne0 c =
    laws.refused _ _ _ _ _ _ _ _ _ _ c.clear_all.ensures c.clear_all-2.ensures c.clear_all-3.ensures _
    (laws.tenth _) c.start-st.ensures c.run_all-e.ensures _ _ _ _ c.clear_items.ensures.is
    c.clear_runs.ensures.is c.clear_all-then-s-ne0.ensures c.if-s-ne0.true c.refusal.ensures

pub shape_of-q : goal.shape_of-q
shape_of-q c = c.clear_items.ensures.long ∙ c.run_all-e.ensures.queue ∙ laws.zero_length _ _ c.clear_all.ensures

pub shape_of-a : goal.shape_of-a
shape_of-a c = c.run_all-e.ensures.records ∙ laws.zero_length _ _ c.clear_all-2.ensures

pub shape_of-r : goal.shape_of-r
shape_of-r c = c.clear_runs.ensures.long ∙ c.run_all-e.ensures.runs ∙ laws.zero_length _ _ c.clear_all-3.ensures

pub returns : goal.returns
returns c =
    laws.answered _ _ _ _ _ _ _ _ _ _ c.clear_all.ensures c.clear_all-2.ensures c.clear_all-3.ensures _
    (laws.tenth _) c.start-st.ensures c.run_all-e.ensures _ _ _ c.clear_items.ensures.is
    c.clear_runs.ensures.is c.if-s-ne0.false c.answer.ensures
