use Rattle.engine_window.proofs.Laws as laws
use Rattle.engine_window.proofs.open_at.Goals as goal

pub returns : goal.returns
returns c =
    laws.open_is _ _ _ _ _ _ _ _ _ _ c.byte_at.ensures.0
    c.four_at.ensures c.four_at-2.ensures
    c.weekday_after-weekday.ensures.0
    c.second_after-second.ensures c.is_open.ensures
