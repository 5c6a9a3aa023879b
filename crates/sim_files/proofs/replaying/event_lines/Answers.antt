use Rattle.std.proofs.Common.{◌≡◌, ◌+◌, ◌∙◌, length, rules}
use Rattle.event_texts.specs.Transcripts.{recorded}
use Rattle.sim_files.proofs.Replays.{head_and_events, head_count, head_lines, head_printable}
use Rattle.sim_files.proofs.replaying.event_lines.Goals as goal

pub returns-clause-have : goal.returns-clause-have
returns-clause-have c = c.requires.can.events

pub returns-clause-lines : goal.returns-clause-lines
returns-clause-lines c =
    let r = recorded c.args.transcript.now in
    let text = c.args.text.now in
    let count : length r.nodes + 1 ≡ c.len.result + 1 = search rules in
    c.behind_lines.ensures (head_lines r text c.requires) _ (head_printable r text c.requires) (head_count r text c.requires ∙ count) (head_and_events r text c.requires)
