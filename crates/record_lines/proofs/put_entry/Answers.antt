use mathlib.Core.Path.{◌∙◌}
use Rattle.simulate_lines.specs.FileTexts.{texts_of}
use Rattle.show.proofs.Laws as show
use Rattle.record_lines.proofs.Laws as laws
use Rattle.record_lines.proofs.put_entry.Goals as goal

pub shape_of-out : goal.shape_of-out
shape_of-out c =
    c.put_byte.ensures.same ∙ c.put_detail-i.ensures.same ∙ c.put_byte-h.ensures.same
    ∙ c.put_change-g.ensures.same ∙ c.put_byte-e.ensures.same ∙ c.put_where-d.ensures.same
    ∙ c.put_byte-c.ensures.same ∙ c.put_rule-b.ensures.same ∙ c.put_head-a.ensures.same

pub returns : goal.returns
returns c =
    show.is (laws.record_is c.args.x.now (texts_of c.args.f.now c.args.x.now) _ c.args.r)
    (show.both c.put_head-a.ensures (show.both c.put_rule-b.ensures
    (show.both c.put_byte-c.ensures (show.both c.put_where-d.ensures
    (show.both c.put_byte-e.ensures (show.both c.put_change-g.ensures
    (show.both c.put_byte-h.ensures (show.both c.put_detail-i.ensures
    c.put_byte.ensures))))))))
