use borrow.Author.Tests.{eq-eqb, ne_eqb, lt-ltb, le-ltb, le-leb, lt-leb}
use Rattle.engine_modes.specs.Modes.{decide_m}
use Rattle.engine_modes.proofs.decide.Goals as goal

pub returns-then-running-eq0 : goal.returns-then-running-eq0
unfolding decide_m
returns-then-running-eq0 c = rw (lt-ltb _ _ c.if-mode-lt2.true, eq-eqb _ _ c.if-running-eq0.true)

pub returns-then-mode-eq0 : goal.returns-then-mode-eq0
unfolding decide_m
returns-then-mode-eq0 c = rw (lt-ltb _ _ c.if-mode-lt2.true, ne_eqb _ _ c.if-running-eq0.false, eq-eqb _ _ c.if-mode-eq0.true)

pub returns-then-mode-lt2 : goal.returns-then-mode-lt2
unfolding decide_m
returns-then-mode-lt2 c = rw (lt-ltb _ _ c.if-mode-lt2.true, ne_eqb _ _ c.if-running-eq0.false, ne_eqb _ _ c.if-mode-eq0.false)

pub returns-then-max-running : goal.returns-then-max-running
unfolding decide_m
returns-then-max-running c = rw (le-ltb _ _ c.if-mode-lt2.false, le-leb _ _ c.if-max-running.true)

pub returns-then-mode-eq3 : goal.returns-then-mode-eq3
unfolding decide_m
returns-then-mode-eq3 c = rw (le-ltb _ _ c.if-mode-lt2.false, lt-leb _ _ c.if-max-running.false, eq-eqb _ _ c.if-mode-eq3.true)

pub returns-then-running-eq0-2 : goal.returns-then-running-eq0-2
unfolding decide_m
returns-then-running-eq0-2 c =
    rw (
      le-ltb _ _ c.if-mode-lt2.false,
      lt-leb _ _ c.if-max-running.false,
      ne_eqb _ _ c.if-mode-eq3.false,
      eq-eqb _ _ c.if-running-eq0-2.true,
    )

pub returns : goal.returns
unfolding decide_m
returns c =
    rw (
      le-ltb _ _ c.if-mode-lt2.false,
      lt-leb _ _ c.if-max-running.false,
      ne_eqb _ _ c.if-mode-eq3.false,
      ne_eqb _ _ c.if-running-eq0-2.false,
    )
