use Rattle.std.proofs.Common.{◌∙◌, ◌++◌, ◌∷◌, [], List, ℕ, ap, append_assoc, replicate, string_bytes}
use Rattle.std.proofs.lemmas.List.{replicate-append-replicate}
use Rattle.sim_report_lines.proofs.grid.push_spaces.Goals as goal

pub loop-preserved : goal.loop-preserved
unfolding lib.Utf8.encode
loop-preserved c =
    let old = string_bytes c.args.line.now in
    let n = c.loop.counter in
    c.in_ok-push.ensures.bytes
    ∙ ap (λ (t : List ℕ). t ++ 32 ∷ []) c.loop.invariant
    ∙ append_assoc old (replicate n 32) (32 ∷ [])
    ∙ ap (λ (t : List ℕ). old ++ t) (replicate-append-replicate n 1 32)
