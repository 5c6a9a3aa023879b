use Rattle.std.proofs.Common.{◌∙◌, Option, None, Some, refl, sym}
use Rattle.std.proofs.lemmas.Result.{on_err_weaker}
use Rattle.std.specs.Option.{IfSome}
use Rattle.event_texts.specs.declared.line.Line.{Line}
use Rattle.event_texts.specs.EventLines.{IsEventLine, TakesMemory, of_job, of_plan}
use Rattle.event_texts.specs.Inner.Lines.{BeginsJobRequest, BeginsPlan, HasParts, IsSmall, line_event}
use Rattle.event_texts.proofs.LineParts.{is_small, parted}
use Rattle.event_texts.proofs.line.read_line.Goals as goal

pub returns-in_default-clause-read : goal.returns-in_default-clause-read
returns-in_default-clause-read c event is =
    let parts = parted event is.0 in
    absurd (c.in_default.ensures.first _ _ parts.0 (is.1 ∙ parts.1))

pub returns-in_default-verb-clause-named : goal.returns-in_default-verb-clause-named
returns-in_default-verb-clause-named c = go c.read_small_line.result c.read_small_line.ensures.named
  where
    go : (r : Option Line) → IfSome r (λ said. IsSmall (line_event said) × HasParts (line_event said) c.in-Some.verb.now c.in-Some.words.now)
        → IfSome r (λ said. IsEventLine (line_event said) c.args.line.now)
    go None named = tt
    go (Some said) named =
        (named.1.fits, c.in-Some.ensures.parts ∙ rw (named.1.first, named.1.behind) (sym (parted (line_event said) named.1.fits).1))

pub returns-in_default-verb-clause-read : goal.returns-in_default-verb-clause-read
returns-in_default-verb-clause-read c event is =
    let parts = parted event is.0 in
    let first = c.in-Some.ensures.first _ _ parts.0 (is.1 ∙ parts.1) in
    let small = is_small event (λ e. c.in_default-verb.not-request (first.0 ∙ e)) (λ e. c.in_default-verb.not-submit (first.0 ∙ e)) in
    c.read_small_line.ensures.read event small (record { fits = is.0; first = first.0; behind = first.1 })

pub returns-in-request-clause-memory : goal.returns-in-request-clause-memory
returns-in-request-clause-memory c = on_err_weaker c.read_request_line.result takes c.read_request_line.ensures.memory
  where
    takes : BeginsJobRequest c.in-Some.words.now → TakesMemory c.args.line.now
    takes (server, rest, fits, is) = of_job server rest fits (c.in-Some.ensures.parts ∙ rw (c.in-request.is, is) refl)

pub returns-in-submit-clause-memory : goal.returns-in-submit-clause-memory
returns-in-submit-clause-memory c = on_err_weaker c.read_submit.result takes c.read_submit.ensures.memory
  where
    takes : BeginsPlan c.in-Some.words.now → TakesMemory c.args.line.now
    takes (server, to, rest, fits, there, is) = of_plan server to rest fits there (c.in-Some.ensures.parts ∙ rw (c.in-submit.is, is) refl)
