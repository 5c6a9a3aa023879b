use Rattle.std.proofs.Common.{◌≡◌, ◌∙◌, ◌+◌, Some, length, rules, sym, take}
use Rattle.event_texts.proofs.Lines.{line_at, newline_at, newline_parts, printable_is_text, to_end}
use Rattle.event_texts.proofs.reading.cut_line.Goals as goal

pub returns-in_err-end-clause-first : goal.returns-in_err-end-clause-first
returns-in_err-end-clause-first c front back line is =
    let at = newline_at front back line in
    let found : c.newline.result ≡ Some (length front) = c.newline.ensures ∙ rw is at in
    absurd (search rules)

pub returns-in_err-line-clause-first : goal.returns-in_err-line-clause-first
returns-in_err-line-clause-first c front back line is =
    let at = newline_at front back line in
    let found : c.newline.result ≡ Some (length front) = c.newline.ensures ∙ rw is at in
    let end : c.in_ok-end.end ≡ length front = search rules in
    let parts = line_at c.args.text.now front back c.in_ok-end.end is end in
    let text = printable_is_text front line in
    absurd (search rules)

pub returns-clause-first : goal.returns-clause-first
returns-clause-first c front back line is =
    let at = newline_at front back line in
    let found : c.newline.result ≡ Some (length front) = c.newline.ensures ∙ rw is at in
    let end : c.in_ok-end.end ≡ length front = search rules in
    let parts = line_at c.args.text.now front back c.in_ok-end.end is end in
    let first : c.in_ok-line.line.now ≡ take c.in_ok-end.end c.args.text.now = search rules in
    (first ∙ parts.0, to_end (c.in_ok-end.end + 1) c.args.text.now ∙ parts.1)

pub returns-clause-parts : goal.returns-clause-parts
returns-clause-parts c =
    let found : c.newline.result ≡ Some c.in_ok-end.end = search rules in
    let parts = newline_parts c.args.text.now c.in_ok-end.end (sym c.newline.ensures ∙ found) in
    let first : c.in_ok-line.line.now ≡ take c.in_ok-end.end c.args.text.now = search rules in
    rw (first, to_end (c.in_ok-end.end + 1) c.args.text.now) parts
