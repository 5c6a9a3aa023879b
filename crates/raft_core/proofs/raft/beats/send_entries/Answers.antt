use Rattle.std.proofs.Common.{arith}
use Rattle.raft_core.proofs.Beats.{few_behind, behind_fits}
use Rattle.raft_core.proofs.raft.beats.send_entries.Goals as goal

pub send_append-requires-clause-few : goal.send_append-requires-clause-few
send_append-requires-clause-few g c = rw c.entries_behind.ensures (few_behind c.args.log.now.entries c.get-2.result)

pub send_append-requires-clause-places : goal.send_append-requires-clause-places
send_append-requires-clause-places g c = rw (c.entries_behind.ensures, c.get-2.ensures.value) (behind_fits c.args.log.now.entries c.in-Some.prev_index (omega (arith, c.in-Some.ensures.some)) (omega (arith, c.last.ensures.value, c.get-last.ensures.value, c.get-last.ensures.below)))
