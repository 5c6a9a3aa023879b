use Rattle.std.proofs.Common.{◌≡◌, ◌∙◌, List, ap, length, min, take, arith}
use Rattle.std.proofs.lemmas.List.{take_min}
use Rattle.machine_model.specs.declared.entry.Entry.{Entry}
use Rattle.raft_core.proofs.raft.beats.entries_behind.Goals as goal

pub returns : goal.returns
returns g c =
    let all = c.behind-all.result.now in
    let few : c.min.result ≡ min 32 (length all) = omega (arith, c.min.ensures) in
    rw few (take_min 32 all) ∙ ap (λ (l : List (Entry g.row.M-Command.Denot)). take 32 l) c.behind-all.ensures.value
