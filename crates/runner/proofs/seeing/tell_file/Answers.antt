use Rattle.std.proofs.Common.{refl}
use Rattle.event_texts.specs.Transcripts.{IsTranscript, recorded}
use Rattle.sim_files.proofs.Files.{of_file}
use Rattle.runner.proofs.seeing.tell_file.Goals as goal

pub returns-clause-told : goal.returns-clause-told
returns-clause-told g c =
    let t = c.in_ok-transcript.transcript in
    record {
      transcript = t;
      read = of_file (IsTranscript (recorded t)) _ c.in_ok-bytes.bytes.items c.in_ok-bytes.ensures.bytes (rw c.as_slice.ensures.value at c.in_ok-transcript.ensures.named);
      lines = c.in_ok-print_events.ensures.lines;
      taken = refl;
    }
