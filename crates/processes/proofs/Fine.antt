-- A log's server after an item is up, or lies with what it stores; a server of the group is up.
use Rattle.std.specs.Bool.{⊤}
use Rattle.std.proofs.Common.{◌≡◌, ℕ, ◌⊎◌, inl, inr, true, Some, List, [], sym, ap, ◌∙◌}
use Rattle.machine_model.specs.MachineSpec.{MachineSpec}
use Rattle.raft_model.specs.Messages.{Message}
use Rattle.raft_model.specs.Rafts.{Raft, Down, Follower, Candidate, Leader, is_up}
use Rattle.raft_safety.specs.Inner.SmallSteps.{Turns, walks, resets}
use Rattle.raft_safety.proofs.Paths.{CameIn, path_up}
use Rattle.fsm_model.specs.ClusterMachine.{cluster_spec}
use Rattle.group_model.specs.Inputs as inputs
use Rattle.group_model.specs.Servers.{Server}
use Rattle.group_model.specs.Worlds.{event_at, LogEventFits}
use Rattle.processes.specs.Logs.{persistent_of, stopped}
use Rattle.processes.specs.Groups.{GroupActor, GroupServer, GroupClient, IsServersOwn}

abbrev pub Fine : GroupActor → Type 0
Fine (GroupServer s) = is_up s.raft.mode ≡ true
Fine (GroupClient x) = ⊤

-- the log's part
pub raft_fine : {S C : Type 0} (m : MachineSpec S C) (n i : ℕ) (sent : List (Message C)) (s t : Raft C) (out : List (Message C)) → Turns m n i sent s t out → (is_up t.mode ≡ true) ⊎ (t ≡ stopped (persistent_of t))
raft_fine m n i sent s t out (walks up p) = inl (path_up m n i sent t out s up p)
raft_fine m n i sent s t out (resets Down h up e o) = inr (e ∙ sym (ap (λ x. stopped (persistent_of x)) e))
raft_fine m n i sent s t out (resets Follower h up e o) = inl (ap (λ (x : Raft _). is_up x.mode) e)
raft_fine m n i sent s t out (resets (Candidate votes) h up e o) = absurd h
raft_fine m n i sent s t out (resets (Leader next match) h up e o) = absurd h

module _ (n i : ℕ) (s : Server) where
  -- an item of its own, or a message
  abbrev pub IsLive : inputs.Input → Type 0
  IsLive inputs.Crash = ⊥
  IsLive inputs.Restart = ⊥
  IsLive _ = ⊤

  pub asked_came : (ask : inputs.Ask) → LogEventFits (event_at i (Some ask)) → CameIn cluster_spec [] i (inputs.input_of ask)
  asked_came inputs.AskTimeout fits = tt
  asked_came inputs.AskHeartbeat fits = tt
  asked_came (inputs.AskPropose command) fits = fits
  asked_came inputs.AskCompact fits = tt
  asked_came inputs.AskCrash fits = tt
  asked_came inputs.AskRestart fits = tt

  pub own_live : (input : inputs.Input) → IsServersOwn input → IsLive input
  own_live (inputs.Arrives message) own = tt
  own_live inputs.Timeout own = tt
  own_live inputs.Beat own = tt
  own_live (inputs.Request request) own = tt
  own_live (inputs.TakeFrom to) own = tt
  own_live (inputs.SubmitTo to plan) own = tt
  own_live (inputs.FinishAt to eval token outcome) own = tt
  own_live (inputs.NackAt to eval token) own = tt
  own_live inputs.PlanTurn own = tt
  own_live (inputs.Lapse eval) own = tt
  own_live (inputs.Expire node beats) own = tt
  own_live (inputs.DrainTurn node) own = tt
  own_live inputs.FreeTurn own = tt
  own_live inputs.Reap own = tt
  own_live inputs.Compact own = tt
  own_live inputs.Crash own = own
  own_live inputs.Restart own = own
