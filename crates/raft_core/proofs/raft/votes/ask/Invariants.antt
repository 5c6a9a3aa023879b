use Rattle.raft_model.specs.Messages.{to_others, VoteRequest as VoteRequestBody}
use Rattle.raft_core.specs.Frames.{Sends}
use Rattle.raft_core.specs.Inner.Turns.{KeepsFront}
use Rattle.raft_core.proofs.raft.votes.ask.Given as goal

abbrev pub invariant-loop-position : goal.invariant-loop-position
invariant-loop-position g l = record {
  sent : Sends g.M.Machine.spec l.initial.outbox l.outbox (to_others l.me (λ to. record { from = l.me; to = to; term = l.request.term; body = VoteRequestBody l.request.last_index l.request.last_term }) l.position);
  front : KeepsFront l.initial.outbox l.outbox;
}
