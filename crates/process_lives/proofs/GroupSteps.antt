-- What an item leaves of a server of the group: its numbers stay in bounds.
use Rattle.std.proofs.Common.{◌≡◌, ℕ, Option, Some, None, Result, Ok, Err, List, [], ◌∷◌, refl, subst}
use Rattle.rows.specs.declared.refusal.Refusal.{Refusal}
use Rattle.rows.specs.declared.command.Command.{Command}
use Rattle.raft_model.specs.Messages.{Message}
use Rattle.raft_model.specs.Rafts.{RaftTurn}
use Rattle.raft_model.specs.Steps as raft_steps
use Rattle.raft_model.proofs.Cases.{same_ok}
use Rattle.raft_safety.proofs.Paths.{CameIn}
use Rattle.fsm_model.specs.ClusterMachine.{cluster_spec}
use Rattle.group_model.specs.Messages.{GroupMessage}
use Rattle.group_model.specs.Inputs as inputs
use Rattle.group_model.specs.Servers as servers
use Rattle.group_model.specs.Servers.{Server}
use Rattle.group_model.specs.Worlds.{event_at, log_request, LogEventFits}
use Rattle.processes.specs.Groups as groups
use Rattle.processes.specs.Groups.{ServerOf, GroupActor, GroupServer}
use Rattle.processes.proofs.Fine.{asked_came}
use Rattle.process_lives.proofs.Bounds.{InBounds, step_bounds}

module _ (n i : ℕ) (s : Server) (bounds : InBounds s.raft) where
  logged_bounds : (act : inputs.Act) (input : raft_steps.Input Command) (sent : List (Message Command)) → CameIn cluster_spec sent i input → (r : Result (RaftTurn Command) Refusal) (turn : servers.ServerTurn) →
      raft_steps.step cluster_spec n i s.raft input ≡ r → servers.logged s act r ≡ Ok turn → InBounds turn.server.raft
  logged_bounds act input sent came (Err cause) turn is h = absurd (cc)
  logged_bounds act input sent came (Ok t) turn is h =
      subst (λ (x : servers.ServerTurn). InBounds x.server.raft) (same_ok _ _ h) (step_bounds cluster_spec n i sent s.raft input t came is bounds)

  asks_bounds : (act : inputs.Act) (ask : Option inputs.Ask) (turn : servers.ServerTurn) → LogEventFits (event_at i ask) → servers.asks_log n i s act ask ≡ Ok turn → InBounds turn.server.raft
  asks_bounds act None turn fits h = subst (λ (x : servers.ServerTurn). InBounds x.server.raft) (same_ok _ _ h) bounds
  asks_bounds act (Some ask) turn fits h =
      logged_bounds act (inputs.input_of ask) [] (asked_came n i s ask fits) (raft_steps.step cluster_spec n i s.raft (inputs.input_of ask)) turn refl h

  done_bounds : (r : Result inputs.Act Refusal) (turn : servers.ServerTurn) → LogEventFits (event_at i (log_request r)) → servers.done n i s r ≡ Ok turn → InBounds turn.server.raft
  done_bounds (Err cause) turn fits h = absurd (cc)
  done_bounds (Ok act) turn fits h = asks_bounds act act.ask turn fits h

-- so each item leaves them
pub takes_bounds : (n i : ℕ) (s t : Server) (left : List GroupMessage) (a b : GroupActor) (item : groups.Item) (out : List GroupMessage) → InBounds s.raft → groups.GroupTakes n left (ServerOf i) a item b out → a ≡ GroupServer s → b ≡ GroupServer t → InBounds t.raft
takes_bounds n i s t left a b item out bounds (groups.log_comes j old message turn among to h) is now =
    let same : s ≡ old = cc is in
    let new : turn.server ≡ t = cc now in
    subst (λ (x : Server). InBounds x.raft) new
    (logged_bounds n i old (subst (λ (x : Server). InBounds x.raft) same bounds) (inputs.rests old.desk) (raft_steps.Arrives message) (message ∷ []) ((0, refl), to) (raft_steps.step cluster_spec n i old.raft (raft_steps.Arrives message)) turn refl h)
takes_bounds n i s t left a b item out bounds (groups.server_comes j old message turn among to fits h) is now =
    let same : s ≡ old = cc is in
    let new : turn.server ≡ t = cc now in
    subst (λ (x : Server). InBounds x.raft) new
    (done_bounds n i old (subst (λ (x : Server). InBounds x.raft) same bounds) (servers.decides n i old (inputs.Arrives message)) turn fits h)
takes_bounds n i s t left a b item out bounds (groups.server_own j old input turn own fits h) is now =
    let same : s ≡ old = cc is in
    let new : turn.server ≡ t = cc now in
    subst (λ (x : Server). InBounds x.raft) new
    (done_bounds n i old (subst (λ (x : Server). InBounds x.raft) same bounds) (servers.decides n i old input) turn fits h)
