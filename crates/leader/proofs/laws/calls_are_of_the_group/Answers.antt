use Rattle.leader.proofs.Acts.{takes_by_deliver, submits_by_submit, finishes_by_ack, nacks_by_nack, lapses_by_lapse, plan_turns_by_verdict, frees_by_free_turn, reaps_by_reap, heartbeats_by_beat, expires_by_expire, drains_by_drain_turn}
use Rattle.leader.proofs.laws.calls_are_of_the_group.Goals as goal

pub returns : goal.returns
returns g = record {
  take = takes_by_deliver;
  submit = submits_by_submit;
  finish = finishes_by_ack;
  nack = nacks_by_nack;
  lapse = lapses_by_lapse;
  plan_turn = plan_turns_by_verdict;
  free_turn = frees_by_free_turn;
  reap = reaps_by_reap;
  heartbeat = heartbeats_by_beat;
  expire = expires_by_expire;
  drain_turn = drains_by_drain_turn;
}
