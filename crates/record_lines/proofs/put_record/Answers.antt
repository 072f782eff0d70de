use mathlib.Core.Path.{ap}
use Rattle.records.specs.declared.Record.{Record}
use Rattle.engine_refinement.specs.Meaning.{record_of}
use Rattle.record_lines.specs.Lines.{record_line}
use Rattle.simulate_lines.specs.FileTexts.{texts_of}
use Rattle.show.proofs.Laws as show
use Rattle.record_lines.proofs.put_record.Goals as goal

pub returns : goal.returns
returns c =
    record {
      is =
          λ l d h rep. show.is
          (ap (λ (r : Record). record_line c.args.k
          (record_of c.args.x.now (texts_of c.args.f.now c.args.x.now) r))
          (c.get_record-r.ensures.is l d h rep)) c.put_entry.ensures;
      read = c.get_record-r.result;
      written = c.put_entry.ensures;
    }
