-- What is handed to a server as time passes.
use Rattle.std.specs.Prelude.{◌≡◌, ◌≢◌, ℕ, Bool, true, Option, Some, None, if◌then◌else◌, List, [], ◌++◌, MatchBool}
use Rattle.std.specs.List.{filter_map}
use Rattle.group_model.specs.Inputs as inputs
use Rattle.raft_model.specs.Rafts.{is_leader}
use Rattle.group_inputs.specs.Handings.{Handing, OwnInput}
use Rattle.server.specs.ServerViews.{ServerView}
use Rattle.timers.specs.declared.due.Due.{Due}
use Rattle.timers.specs.declared.due.Due.TheVariants as dues
use Rattle.timers.specs.declared.due.Seen.{Seen}
use Rattle.timers.specs.ServerTimes.{Sights, beat_after, due_after, looks, times_after}
use Rattle.server_node.specs.Handed.{AreOwn}
use Rattle.server_node.specs.Nodes.{NodeView}
use Rattle.server_node.specs.Sights.{Sees}

-- the leader that a server knows: itself where it leads
abbrev pub leader_of : ServerView → Option ℕ
leader_of v = if is_leader v.raft.server.mode then Some v.raft.me else v.raft.server.known

-- the input by which what is due is done; a Take where no leader is known is left out
abbrev pub input_due : Option ℕ → Due → Option Handing
input_due leader dues.Timeout = Some (OwnInput inputs.Timeout)
input_due leader dues.Compact = Some (OwnInput inputs.Compact)
input_due None dues.Take = None
input_due (Some to) dues.Take = Some (OwnInput (inputs.TakeFrom to))
input_due leader dues.PlanTurn = Some (OwnInput inputs.PlanTurn)
input_due leader dues.FreeTurn = Some (OwnInput inputs.FreeTurn)
input_due leader dues.Reap = Some (OwnInput inputs.Reap)
input_due leader (dues.Lapse eval) = Some (OwnInput (inputs.Lapse eval))
input_due leader (dues.Expire node beats) = Some (OwnInput (inputs.Expire node beats))
input_due leader (dues.DrainTurn node) = Some (OwnInput (inputs.DrainTurn node))

-- how a server stands, as its timers see it
abbrev pub seen_of : NodeView → Bool → Seen
seen_of v idle = record { leads = is_leader v.server.raft.server.mode; term = v.server.raft.server.term; idle = idle }

-- What is handed in once so many milliseconds passed: what is due by the timers, of what is seen;
-- then what workers ask, and a beat, each an input of the server's own. The timers are then what is
-- left of them, whichever entries were beaten.
pub record IsHandedByTime (ms : ℕ) (old new : NodeView) (handed : List Handing) : Type 0 where
  pub idle : Bool
  pub rests : MatchBool idle (old.workers.waiting ≡ []) (old.workers.waiting ≢ [])
  pub sights : Sights
  pub sees : is_leader old.server.raft.server.mode ≡ true → looks ms old.timers ≡ true → Sees old.server sights
  pub rest : List Handing
  pub is : handed ≡ filter_map (input_due (leader_of old.server)) (due_after ms old.timers (seen_of old idle) sights) ++ rest
  pub own : AreOwn rest
  pub leads : Bool
  pub last : ℕ
  pub applied : ℕ
  pub timers : new.timers ≡ beat_after ms (times_after ms old.timers (seen_of old idle) sights) leads last applied
