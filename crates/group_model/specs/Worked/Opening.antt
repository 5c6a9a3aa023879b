-- The desk opens with the first entry of the leader's own term, and not at the election.
use Rattle.std.specs.Prelude.{◌≡◌, Bool, true, false, is_some, Option, Some, None, List, [], ◌∷◌, ◌++◌, slice_get}
use Rattle.group_model.specs.Inputs as inputs
use Rattle.group_model.specs.Servers.{Server}
use Rattle.rows.specs.declared.reason.Reason.TheVariants as reasons
use Rattle.rows.specs.declared.worker.AskedRequest.TheVariants as asked
use Rattle.rows.specs.declared.worker.WorkerResponse.TheVariants.{Delivered, Refused}
use Rattle.group_model.specs.Messages.{Service, BetweenServers, Answers}
use Rattle.group_model.specs.Worlds as worlds
use Rattle.group_model.specs.Worlds.{Event, Deliver, AtServer}
use Rattle.group_model.specs.Worked.Words.{after_events}
use Rattle.raft_model.specs.Rafts.{is_leader}

-- server 0 stands, server 1 grants, and server 0 leads
abbrev pub elected : List Event
elected = AtServer 0 inputs.Timeout ∷ Deliver 0 ∷ Deliver 2 ∷ []

-- server 0 beats, server 1 takes the no-op, and its ok commits it
abbrev pub committed : List Event
committed = elected ++ AtServer 0 inputs.Beat ∷ Deliver 3 ∷ Deliver 5 ∷ []

abbrev pub leads_open : Option Server → Option (Bool × Bool)
leads_open None = None
leads_open (Some s) = Some (is_leader s.raft.mode, is_some s.desk)

-- whether server 0 leads, and whether its desk is open
abbrev pub first_after : List Event → Option (Bool × Bool)
first_after events = leads_open (slice_get (after_events (worlds.first 3 []) events).servers 0)

abbrev pub ClosedAtElection : Type 0
ClosedAtElection = first_after elected ≡ Some (true, false)

abbrev pub OpenAtNoop : Type 0
OpenAtNoop = first_after committed ≡ Some (true, true)

-- A leader that has not applied its no-op refuses a Take: its desk is not open.
abbrev pub NotYetOpen : Type 0
NotYetOpen =
    slice_get (after_events (worlds.first 3 []) (elected ++ AtServer 1 (inputs.TakeFrom 0) ∷ Deliver 3 ∷ [])).sent 4
    ≡ Some (Service (BetweenServers 0 1 (Answers (Refused asked.Take reasons.NotOpen))))

-- Once the no-op is committed the same Take is answered: there is nothing to work on.
abbrev pub OpenThen : Type 0
OpenThen =
    slice_get (after_events (worlds.first 3 []) (committed ++ AtServer 1 (inputs.TakeFrom 0) ∷ Deliver 6 ∷ [])).sent 7
    ≡ Some (Service (BetweenServers 0 1 (Answers (Delivered None))))
