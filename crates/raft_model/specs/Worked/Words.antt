-- Words of the worked steps.
use Rattle.std.specs.Prelude.{ℕ, None, Result, Ok, Err, List, [], ◌∷◌}
use Rattle.rows.specs.declared.refusal.Refusal.{Refusal}
use Rattle.machine_model.specs.Tally.{tally_spec}
use Rattle.machine_model.specs.declared.entry.Entry.{Entry}
use Rattle.machine_model.specs.declared.tally.TallyCommand.{TallyCommand}
use Rattle.machine_model.specs.declared.tally.TallyCommand.TheVariants.{Noop, Add}
use Rattle.raft_model.specs.Messages.{Message, Body}
use Rattle.raft_model.specs.Rafts.{Raft, Follower, RaftTurn}
use Rattle.raft_model.specs.Steps.{Input, step}
use Rattle.raft_model.specs.Worlds.{World, Event, happens}

-- an entry of this term that adds k
abbrev pub adds : ℕ → ℕ → Entry TallyCommand
adds term k = record { term = term; command = Add k }

-- the entry with which a leader of this term begins
abbrev pub begins : ℕ → Entry TallyCommand
begins term = record { term = term; command = Noop }

-- a message from one server to another
abbrev pub message : ℕ → ℕ → ℕ → Body TallyCommand → Message TallyCommand
message from to term body = record { from = from; to = to; term = term; body = body }

-- a follower that has voted for nobody and has committed nothing
abbrev pub follower : ℕ → List (Entry TallyCommand) → Raft TallyCommand
follower term log = record { term = term; vote = None; log = log; covered = 0; commit = 0; known = None; mode = Follower }

-- the server after an input; the same one where the input is refused
abbrev pub or_stays : Raft TallyCommand → Result (RaftTurn TallyCommand) Refusal → Raft TallyCommand
or_stays s (Ok turn) = turn.server
or_stays s (Err refusal) = s

-- server `me` of n after the inputs, one after the other
abbrev pub after_inputs : ℕ → ℕ → Raft TallyCommand → List (Input TallyCommand) → Raft TallyCommand
after_inputs n me s [] = s
after_inputs n me s (input ∷ inputs) = after_inputs n me (or_stays s (step tally_spec n me s input)) inputs

-- the next world, or the same one where the event is refused
abbrev pub or_same : World TallyCommand → Result (World TallyCommand) Refusal → World TallyCommand
or_same w (Ok next) = next
or_same w (Err refusal) = w

-- the world after the events, one after the other, those that are refused left out
abbrev pub after_events : World TallyCommand → List (Event TallyCommand) → World TallyCommand
after_events w [] = w
after_events w (event ∷ events) = after_events (or_same w (happens tally_spec w event)) events
