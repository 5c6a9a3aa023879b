use Rattle.std.proofs.Common.{◌≡◌, ◌∙◌, ◌+◌, Some, length, rules, subst, sym, take}
use Rattle.std.specs.Prelude.{IsUtf8}
use Rattle.event_texts.proofs.Lines.{line_at, newline_at, printable_is_text, to_end}
use Rattle.sim_files.proofs.replaying.next_line.Goals as goal

pub returns-in_default : goal.returns-in_default
returns-in_default c front back line is =
    let found : c.newline.result ≡ Some (length front) = c.newline.ensures ∙ rw is (newline_at front back line) in
    absurd (search rules)

pub returns : goal.returns
returns c front back line is =
    let found : c.newline.result ≡ Some (length front) = c.newline.ensures ∙ rw is (newline_at front back line) in
    let end : c.in-Some.end ≡ length front = search rules in
    let parts = line_at c.args.text.now front back c.in-Some.end is end in
    let text : IsUtf8 (take c.in-Some.end c.args.text.now) = subst IsUtf8 (sym parts.0) (printable_is_text front line) in
    let same : c.text_of.result.now ≡ take c.in-Some.end c.args.text.now = search rules in
    (same ∙ parts.0, to_end (c.in-Some.end + 1) c.args.text.now ∙ parts.1)
