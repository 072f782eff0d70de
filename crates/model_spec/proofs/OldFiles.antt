-- Old files are read, accepted and refused as before.
use Rattle.model_spec.specs.OldFiles.{OldFiles}
use Rattle.model_spec.proofs.Old.{old_reads, old_accepted}

pub old_files : OldFiles
old_files = record {
  read = λ file m e. (old_reads file m e).0;
  starts = λ file m e. (old_reads file m e).1.starts;
  no_window = λ file m e. (old_reads file m e).1.no_windows;
  judged = old_accepted;
}
