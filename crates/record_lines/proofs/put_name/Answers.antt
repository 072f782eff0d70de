use Rattle.show.proofs.Laws as show
use Rattle.record_lines.proofs.Numbers as numbers
use Rattle.record_lines.proofs.put_name.Goals as goal

pub returns-then-kind-lt18 : goal.returns-then-kind-lt18
returns-then-kind-lt18 c = show.is (numbers.name_in _ _ c.if-kind-lt18.true c.text_start-at.ensures) c.put_text.ensures

pub returns : goal.returns
returns c =
    show.is (numbers.name_out _ c.if-kind-lt18.false)
    c.put.ensures
