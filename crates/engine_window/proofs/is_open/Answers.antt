use Rattle.engine_window.proofs.Laws as laws
use Rattle.engine_window.proofs.is_open.Goals as goal

pub returns-then-second-start : goal.returns-then-second-start
returns-then-second-start c = laws.day_early _ _ _ _ _ c.if-start-end.true c.if-second-start.true

pub returns-then-second-end : goal.returns-then-second-end
returns-then-second-end c =
    laws.day_open _ _ _ _ _ c.if-start-end.true _ c.if-second-start.false
    c.if-second-end.true c.marks.ensures

pub returns-then-start-end : goal.returns-then-start-end
returns-then-start-end c = laws.day_late _ _ _ _ _ c.if-start-end.true c.if-second-end.false

pub returns-then-second-start-2 : goal.returns-then-second-start-2
returns-then-second-start-2 c =
    laws.night_early _ _ _ _ _ c.if-start-end.false _ c.if-second-start-2.true
    c.open_from_midnight.ensures

pub returns-then-marks : goal.returns-then-marks
returns-then-marks c =
    laws.night_open _ _ _ _ _ c.if-start-end.false _ c.if-second-start-2.false
    c.marks-2.ensures c.if-marks.true

pub returns : goal.returns
returns c =
    laws.night_other _ _ _ _ _ c.if-start-end.false _ _
    c.if-second-start-2.false c.marks-2.ensures c.if-marks.false
    c.open_from_midnight-2.ensures
