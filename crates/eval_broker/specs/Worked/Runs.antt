-- A worked run, which goes on where that of `group_model`'s broker ends, and a broker whose serials
-- are used up.
use Rattle.std.specs.Prelude.{◌≡◌, ◌∷◌, [], Err, map}
use Rattle.rows.specs.declared.refusal.Refusal.TheVariants as refusals
use Rattle.raft_model.specs.Logs.{MAX}
use Rattle.fsm_model.specs.Worked.Words.{eval_id}
use Rattle.fsm_tables.specs.declared.urgency.Urgency.{Urgency}
use Rattle.group_model.specs.Brokers.{Broker, UsedUp, deliver, outstanding, with_nack}
use Rattle.group_model.specs.Worked.Words.{token}
use Rattle.group_model.specs.Brokers.{after_gift}
use Rattle.group_model.specs.Worked.Brokers.{broker, changed}
use Rattle.eval_broker.specs.Answers.{failed_in_order}

-- the first pair, once the second has taken its place
abbrev pub GoneOnceChanged : Type 0
GoneOnceChanged = outstanding (eval_id 2 0) (token 1 2) changed ≡ Err refusals.NotOutstanding

-- with an evaluation to give, and the greatest serial used
abbrev pub NoSerialLeft : Type 0
NoSerialLeft = deliver 1 5 (record broker { serial = MAX }) ≡ UsedUp

-- both out and given back, three times each
abbrev pub both_back : Broker → Broker
both_back b = with_nack (eval_id 2 0) (with_nack (eval_id 3 0) b)

abbrev pub both_given : Broker → Broker
both_given b = after_gift (after_gift b (deliver 1 5 b)) (deliver 1 5 (after_gift b (deliver 1 5 b)))

-- the higher priority first, though its id is the higher one
abbrev pub FailedInOrder : Type 0
FailedInOrder = map (λ (u : Urgency). u.id) (failed_in_order (both_back (both_given (both_back (both_given (both_back (both_given broker))))))) ≡ eval_id 3 0 ∷ eval_id 2 0 ∷ []
