use Rattle.leader.proofs.Staying.{opens_over, deliver_stays, ack_stays, nack_stays, lapse_stays, submit_stays, plan_turn_stays, beat_stays}
use Rattle.leader.proofs.laws.calls_stay_over_the_state.Goals as goal

pub returns : goal.returns
returns g = record {
  opened = opens_over;
  deliver = deliver_stays;
  ack = ack_stays;
  nack = nack_stays;
  lapse = lapse_stays;
  submit = submit_stays;
  plan_turn = plan_turn_stays;
  beat = beat_stays;
}
