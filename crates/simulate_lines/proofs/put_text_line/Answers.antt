use Rattle.show.proofs.Laws as show
use Rattle.simulate_lines.proofs.Laws as laws
use Rattle.simulate_lines.proofs.put_text_line.Goals as goal

pub returns : goal.returns
returns c =
    show.is (laws.text_is _ _) (show.both c.put-a.ensures
    (show.both c.put_byte-b.ensures (show.both c.put_quoted-c.ensures c.put_byte.ensures)))
