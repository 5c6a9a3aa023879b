use Rattle.std.proofs.Common.{sym, ◌∙◌, true≢false}
use Rattle.recovery.proofs.Picks.{full_raft}
use Rattle.recovery.proofs.choosing.is_raft_full.Goals as goal

pub returns-then-not-is_up : goal.returns-then-not-is_up
returns-then-not-is_up g c = λ s r up. absurd (true≢false (sym up ∙ sym (c.if-not-is_up.ensures.value s r)))

pub returns : goal.returns
returns g c = λ s r. full_raft s c.raft_has_room.result (sym (c.if-not-is_up.ensures.value s r)) (c.raft_has_room.ensures s r)
