use Rattle.event_texts.specs.EventLines.{IsEventLine, of_input}
use Rattle.event_texts.specs.Inner.Lines.{line_event}
use Rattle.event_texts.proofs.event.read_event.Goals as goal

pub returns-in_err-event_of-in-Some-clause-memory : goal.returns-in_err-event_of-in-Some-clause-memory
returns-in_err-event_of-in-Some-clause-memory c wanting =
    let event = line_event c.in-Some.line in
    let is : IsEventLine event c.args.line.now = rw c.in-Some.is at c.in_ok-line.ensures.named in
    of_input event is c.in_err-event_of-in-Some.ensures.memory
