use Rattle.event_texts.specs.Transcripts.{IsTranscript, recorded}
use Rattle.sim_files.proofs.Files.{of_file}
use Rattle.sim_files.proofs.replaying.replay_file.Goals as goal

pub returns-clause-told : goal.returns-clause-told
returns-clause-told g c =
    let contents = g.W.Write.contents in
    let r = recorded c.in_ok-transcript.transcript in
    let told = c.in_ok-status.ensures.told in
    record {
      recorded = r;
      read = of_file (IsTranscript r) _ c.in_ok-bytes.bytes.items c.in_ok-bytes.ensures.bytes (rw c.as_slice.ensures.value at c.in_ok-transcript.ensures.named);
      first = c.in_ok-world.world;
      last = c.play_events.new.world;
      begun = c.in_ok-world.ensures.ok;
      refused = told.0;
      played = told.1;
      told = (contents c.play_events.new.out, told.2, c.in_ok-print_end.ensures.told);
    }
