use Rattle.std.proofs.Common.{refl}
use Rattle.std.proofs.lemmas.List.{length-map}
use Rattle.group_inputs.specs.Events.{group_event}
use Rattle.event_texts.specs.Transcripts.{IsTranscript, recorded}
use Rattle.sim_files.proofs.Files.{of_file}
use Rattle.runner.proofs.drawing.draw_file.Goals as goal

pub returns-clause-told : goal.returns-clause-told
returns-clause-told g c =
    let t = c.in_ok-transcript.transcript in
    let r = recorded t in
    record {
      recorded = r;
      read = of_file (IsTranscript r) _ c.in_ok-bytes.bytes.items c.in_ok-bytes.ensures.bytes (rw c.as_slice.ensures.value at c.in_ok-transcript.ensures.named);
      picture = rw (length-map t.events.items group_event) c.in_ok-print_drawn.ensures.drawn;
      taken = refl;
    }
