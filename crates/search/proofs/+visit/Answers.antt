use Prim.Native.Nat.{◌-◌}
use mathlib.Core.Path.{refl, sym, ◌∙◌}
use native.Mathlib.Omega.{arith}
use borrow.Author.Rules.{rules}
use Rattle.search.proofs.Visits as visits
use Rattle.search_cases.proofs.Laws as laws
use Rattle.search.proofs.+visit.Goals as goal

pub returns-then-o : goal.returns-then-o
returns-then-o t c = visits.stays_so c.if-o.true

pub last_at-requires : goal.last_at-requires
last_at-requires t c = omega (arith, c.requires.events)

pub returns-then-p-last_at : goal.returns-then-p-last_at
returns-then-p-last_at t c =
    visits.late_so c.if-o.false
    (omega (arith, c.if-p-last_at.true, c.last_at.ensures))

pub try_case-requires : goal.try_case-requires
try_case-requires t c = record { fitted = c.requires.fitted; words = c.requires.words; events = omega (arith, c.requires.events) }

pub returns-then-remaining-eq0 : goal.returns-then-remaining-eq0
returns-then-remaining-eq0 t c =
    visits.case_so c.if-o.false (omega (arith, c.if-p-last_at.false, c.last_at.ensures)) c.if-remaining-eq0.true
    c.try_case.ensures

pub overflow_mul-pairs : goal.overflow_mul-pairs
overflow_mul-pairs t c =
    omega (
      arith,
      laws.few_pairs _ _
          c.requires.fitted.gaps
          c.requires.fitted.inputs,
    )

pub loop-k-init : goal.loop-k-init
loop-k-init t c = (refl, (refl, (refl, (refl, (omega arith, visits.walk_start)))))

pub next_events-next-requires : goal.next_events-next-requires
next_events-next-requires t c = (
  c.loop-k-test.true,
  record {
    fitted = laws.fit_any c.requires.fitted (sym c.requires.fitted.area);
    words =
        c.requires.words;
    events = omega (arith, c.requires.events, c.if-remaining-eq0.false);
  },
)

pub overflow_sub-remaining : goal.overflow_sub-remaining
overflow_sub-remaining t c = omega (arith, c.if-remaining-eq0.false)

pub visit-s-requires : goal.visit-s-requires
visit-s-requires t c = (
  omega (arith, c.if-remaining-eq0.false),
  record {
    fitted =
        laws.fit_any c.requires.fitted c.loop-k.invariant.1.1.1.0;
    words =
        c.next_events-next.ensures.long ∙ c.requires.words;
    events =
        omega (arith, c.requires.events, c.if-remaining-eq0.false, c.next_events-next.ensures.count);
  },
)

pub loop-k-preserved : goal.loop-k-preserved
loop-k-preserved t c = (
  omega (arith, c.loop-k.invariant.0, c.visit-s.auto.queue),
  (
    omega (arith, c.loop-k.invariant.1.0, c.visit-s.auto.records),
    (
      omega (arith, c.loop-k.invariant.1.1.0, c.visit-s.auto.runs),
      (
        omega (arith, c.loop-k.invariant.1.1.1.0, c.visit-s.auto.w),
        (
          omega (arith, c.loop-k-test.true),
          visits.walk_next c.loop-k-test.true
              (omega (arith, c.if-p-last_at.false, c.last_at.ensures)) (omega (arith, c.requires.events, c.if-remaining-eq0.false))
              c.next_events-next.ensures c.loop-k.invariant.1.1.1.1.1 c.loop-k.invariant.0 c.loop-k.invariant.1.0
              c.loop-k.invariant.1.1.0 c.visit-s.ensures,
        ),
      ),
    ),
  ),
)

pub returns : goal.returns
returns t c =
    visits.walk_end c.args.remaining c.if-remaining-eq0.false refl c.if-o.false
    (omega (arith, c.if-p-last_at.false, c.last_at.ensures)) c.loop-k-test.false c.loop-k.invariant.1.1.1.1.0
    c.loop-k.invariant.1.1.1.1.1
