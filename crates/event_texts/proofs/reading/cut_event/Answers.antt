use Rattle.std.proofs.Common.{Err, ap, inl, inr}
use Rattle.event_texts.specs.EventLines.{event_line}
use Rattle.event_texts.specs.Transcripts.{of_reading}
use Rattle.event_texts.proofs.Printable.{event_printable}
use Rattle.event_texts.proofs.reading.cut_event.Goals as goal

pub returns-in_default-clause-read : goal.returns-in_default-clause-read
returns-in_default-clause-read c event behind fits is = absurd (c.in_default.ensures.first (event_line event) behind (event_printable event fits) is)

pub returns-in-Ok-clause-read : goal.returns-in-Ok-clause-read
returns-in-Ok-clause-read c event behind fits is =
    let first = c.in-Some.ensures.first (event_line event) behind (event_printable event fits) is in
    (c.in-Ok.ensures.read event (fits, first.0), first.1)

pub returns-in_default-cause-clause-read : goal.returns-in_default-cause-clause-read
returns-in_default-cause-clause-read c event behind fits is =
    let first = c.in-Some.ensures.first (event_line event) behind (event_printable event fits) is in
    elim c.in-Err.ensures.refused [
      | inl memory ↦ c.in_default-cause.not-NoMemory memory
      | inr refused ↦ refused.1 event (fits, first.0)
    ]

pub returns-in-NoMemory-clause-memory : goal.returns-in-NoMemory-clause-memory
returns-in-NoMemory-clause-memory c = record {
  line = c.in-Some.line.now;
  behind = c.in-Some.rest.now;
  kept = of_reading (c.in-Err.ensures.memory (ap Err c.in-NoMemory.is));
  is = c.in-Some.ensures.parts;
}
