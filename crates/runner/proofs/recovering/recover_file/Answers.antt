use Rattle.std.proofs.Common.{◌≡◌, ◌≤◌, length, refl, rules, string_bytes}
use Rattle.std.proofs.lemmas.List.{length-map}
use Rattle.group_inputs.specs.Events.{group_event}
use Rattle.event_texts.specs.Transcripts.{IsTranscript, recorded}
use Rattle.sim_files.proofs.Files.{of_file}
use Rattle.runner.proofs.Afters.{after_within}
use Rattle.runner.proofs.recovering.recover_file.Goals as goal

pub returns-clause-told : goal.returns-clause-told
returns-clause-told g c =
    let t = c.in_ok-transcript.transcript in
    let r = recorded t in
    let all_is : c.len-all.result ≡ length t.events.items = search rules in
    record {
      recorded = r;
      read = of_file (IsTranscript r) _ c.in_ok-bytes.bytes.items c.in_ok-bytes.ensures.bytes (rw c.as_slice.ensures.value at c.in_ok-transcript.ensures.named);
      after = c.in-Some.after;
      asked = rw (length-map t.events.items group_event) (rw all_is at c.in-Some.ensures.some);
      text = string_bytes c.in_ok-text.text;
      way = c.in_ok-text.ensures.text;
      shown = rw c.as_str.ensures.value at c.in_ok-show.ensures.text;
      taken = refl;
    }

pub text_of-requires : goal.text_of-requires
text_of-requires g c =
    let events = c.in_ok-transcript.transcript.events.items in
    let all_is : c.len-all.result ≡ length events = search rules in
    let within : c.in-Some.after ≤ c.len-all.result = after_within _ c.len-all.result c.in-Some.after c.in-Some.ensures.some in
    rw all_is at within
