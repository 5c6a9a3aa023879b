use Rattle.std.proofs.Common.{◌≡◌, ◌∙◌, ◌<◌, ◌++◌, ◌∷◌, [], List, ℕ, ap, length, rules, string_bytes, sym}
use Rattle.sim_playback.proofs.LineTexts.{text_more}
use Rattle.sim_playback.proofs.printing.text_of.Goals as goal

pub loop-line-preserved : goal.loop-line-preserved
loop-line-preserved c =
    let lines = c.args.lines.now in
    let i = c.loop-line.line-index in
    let line = c.line-item.result in
    let lt : i < length lines = search rules in
    let pushed : string_bytes c.push_line.new.text ≡ string_bytes c.loop-line.text ++ (string_bytes line ++ 10 ∷ []) = rw c.as_str.ensures.value at c.in_ok-push_line.ensures in
    pushed ∙ ap (λ (t : List ℕ). t ++ (string_bytes line ++ 10 ∷ [])) c.loop-line.invariant ∙ sym (text_more lines i line lt c.line-item.is)
