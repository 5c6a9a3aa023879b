-- What actors of an execution propose and send is within limits.
use Rattle.std.proofs.Common.{◌≡◌, ℕ, suc, inl, inr, Some, List, [], ◌∷◌, ◌++◌, take, map, filter, refl, sym, ◌∙◌, subst, arith, slice_get}
use Rattle.std.specs.Prelude.{⊤}
use Rattle.std.specs.List.{AllByRecursion}
use Rattle.std.proofs.lemmas.Option.{same_Some}
use Rattle.rows.specs.Fits.{EvalIdFits, EvaluationFits, NodeSpecFits}
use Rattle.rows.specs.States.{IsState}
use Rattle.rows.specs.Versions.{newest}
use Rattle.rows.specs.declared.node.NodeSpec.{NodeSpec}
use Rattle.rows.specs.declared.command.Command.{Command}
use Rattle.rows.specs.declared.evaluation.Evaluation.{Evaluation}
use Rattle.fields_model.proofs.RangeLaws.{state_fits}
use Rattle.machine_model.specs.declared.entry.Entry.{Entry}
use Rattle.machine_model.proofs.Afters.{after_good}
use Rattle.raft_model.specs.Logs as logs_model
use Rattle.raft_safety.proofs.Chains as chains
use Rattle.raft_safety.proofs.Sound.{Sound, first_sound, sound_admitted}
use Rattle.fsm_model.specs.Words.{is_pending}
use Rattle.fsm_model.specs.ClusterMachine.{cluster_spec}
use Rattle.fsm_model.proofs.ClusterMachine.{cluster_lawful}
use Rattle.group_model.specs.Messages.{GroupMessage, OfLog, Service, ServiceMessage}
use Rattle.group_model.specs.Brokers.{Task, Key, task_key, eval_key}
use Rattle.group_model.specs.Desks.{Desk, applied_state}
use Rattle.group_model.specs.Inputs as inputs
use Rattle.group_model.specs.Servers as servers
use Rattle.group_model.specs.Servers.{Server}
use Rattle.group_model.specs.Agents as agents
use Rattle.group_model.specs.Agents.{Agent}
use Rattle.group_model.specs.Worlds.{World, Event, Run, raft_of}
use Rattle.group_model.proofs.Subs.{sub_filter, sub_all}
use Rattle.group_safety.specs.Claims.{Projection, ServerAt}
use Rattle.group_safety.specs.Desks.{Mirrors, DeskIs}
use Rattle.group_safety.specs.Limits.{ServiceFits}
use Rattle.group_safety.proofs.Moments.{to_log}
use Rattle.group_safety.proofs.Projections.{projection}
use Rattle.group_safety.proofs.DeskRuns.{desks, server_log}
use Rattle.group_safety.proofs.ActRanges.{DeskFits, TaskFits, ServerIsInRange}
use Rattle.group_safety.proofs.ActLimits.{decides_fit}
use Rattle.group_safety.proofs.ClientLimits as client_limits
use Rattle.group_safety.proofs.ClientLimits.{step_sound}
use Rattle.group_safety.proofs.TurnLimits.{TurnFits, done_fits, log_message_fits, result_event}
use Rattle.processes.specs.Processes.{Up, told_by, saves, continued}
use Rattle.processes.specs.Claims.{OccursIn}
use Rattle.processes.specs.Groups as groups
use Rattle.processes.specs.Groups.{Who, ServerOf, ClientOf, GroupActor, GroupServer, GroupClient, Item, Comes, ServerInput, ClientInput, group_actors, group_abstraction, stopped_by, store_of}
use Rattle.processes.proofs.Batching.{becoming}
use Rattle.processes.proofs.Fine.{Fine}
use Rattle.processes.proofs.Generic.{refines}
use Rattle.processes.proofs.Groups.{same_name, is_simulated, server_is}
use Rattle.processes.proofs.Lasting.{known_now, known_told}
use Rattle.process_lives.specs.Groups.{ItemFits, WhatItProposesFits}
use Rattle.process_lives.proofs.Steps.{IsReached}

-- ---- a server of a run

task_ids : (ts : List Task) (es : List Evaluation) → map task_key ts ≡ map eval_key es → AllByRecursion EvaluationFits es → AllByRecursion TaskFits ts
task_ids [] es e h = tt
task_ids (t ∷ ts) [] e h = absurd (cc)
task_ids (t ∷ ts) (x ∷ es) e h = (subst (λ (k : Key). EvalIdFits k.id) (sym (heads e)) h.0.0, task_ids ts es (tails e) h.1) where
  heads : task_key t ∷ map task_key ts ≡ eval_key x ∷ map eval_key es → task_key t ≡ eval_key x
  heads e = cc

  tails : task_key t ∷ map task_key ts ≡ eval_key x ∷ map eval_key es → map task_key ts ≡ map eval_key es
  tails e = cc

module _ (n : ℕ) (nodes : List NodeSpec) (events : List Event) (past : List World) (w : World) (run : Run n nodes events past w) (l i : ℕ) (s : Server) (now : ServerAt past w l i s) where
  p : Projection n events past w
  p = projection n nodes events past w run

  sound : Sound cluster_spec s.raft.log
  sound = chains.log_admitted cluster_spec cluster_lawful n p.log_events p.log_past (raft_of w) p.run (p.place l) i s.raft (to_log n events past w p l i s.raft (server_log past w l i s now))

  state_is : (log : List (Entry Command)) → Sound cluster_spec log → IsState (logs_model.state_after cluster_spec log)
  state_is log h =
      let g = after_good cluster_spec cluster_lawful (logs_model.commands log) (sound_admitted cluster_spec log h) in
      state_fits newest (logs_model.state_after cluster_spec log) g.state

  applied_is : IsState (applied_state s.raft)
  applied_is = state_is (take s.raft.commit s.raft.log) (first_sound cluster_spec s.raft.commit s.raft.log sound)

  tasks_by : (d : Desk) → s.desk ≡ Some d → DeskIs s → AllByRecursion TaskFits d.broker.tasks
  tasks_by d e (inl h) = absurd (let q = sym (h.0) ∙ e in cc)
  tasks_by d e (inr h) =
      let same : h.0 ≡ d = same_Some h.0 d (sym h.1 ∙ e) in
      let mirrors : Mirrors s.raft.term (applied_state s.raft) d = subst (Mirrors s.raft.term (applied_state s.raft)) same h.3 in
      let pending = filter (λ (x : Evaluation). is_pending x.status) (applied_state s.raft).evals in
      task_ids d.broker.tasks pending mirrors.tasks (sub_all EvaluationFits pending (applied_state s.raft).evals (sub_filter (λ (x : Evaluation). is_pending x.status) (applied_state s.raft).evals) applied_is.rows.evals)

  in_range_at : DeskFits s.desk → ServerIsInRange s
  in_range_at desk = record { applied = applied_is; whole = state_is s.raft.log sound; desk = desk; tasks = λ d e. tasks_by d e (desks n nodes events past w run l i s now) }

-- ---- a server of an execution: its process may save now, and then it is one of a run

module _ (n : ℕ) (nodes : List NodeSpec) (i : ℕ) (s : Server) (left : List GroupMessage) where
  pub in_range : DeskFits s.desk → IsReached (group_actors n nodes) (ServerOf i) left (GroupServer s) → ServerIsInRange s
  in_range desk r =
      let a = GroupServer s in
      let k = ServerOf i in
      let h = becoming (group_actors n nodes) same_name r.last k (store_of a) (Up a [] [] (r.ready ++ r.held)) r.last.left (r.last.told ++ map (told_by (group_actors n nodes) k) r.unsaved) in
      let run = continued h.0 r.execution (saves k r.store a r.unsaved r.held r.ready h.0 r.here h.1) in
      let known = known_now (group_actors n nodes) same_name k r.past r.last r.execution r.store a r.unsaved r.held r.ready r.here in
      let told : OccursIn h.0.told (told_by (group_actors n nodes) k a) =
      subst (λ t. OccursIn t (told_by (group_actors n nodes) k a)) (sym h.1.told_is) (known_told (group_actors n nodes) same_name k r.last.told r.unsaved a known) in
      let W = refines (group_actors n nodes) (group_abstraction n nodes) stopped_by Fine (is_simulated n nodes) (r.past ++ r.last ∷ []) h.0 run in
      let t = told_by (group_actors n nodes) k a in
      let at = W.told told.0 told.0 t t (omega arith) told.1 told.1 in
      in_range_at n nodes W.events W.past W.world W.reach.0 at.first i s (record { world = at.first_at.world; world_is = at.first_at.world_is; here = server_is _ s at.first_at.here }) desk

-- ---- what is sent

abbrev pub GroupMessageFits : GroupMessage → Type 0
GroupMessageFits (OfLog message) = ⊤
GroupMessageFits (Service message) = ServiceFits message

-- what came is within limits
abbrev pub ComesWithin : Item → Type 0
ComesWithin (Comes message) = GroupMessageFits message
ComesWithin (ServerInput input) = ⊤
ComesWithin (ClientInput input) = ⊤

by_places : (messages : List GroupMessage) → ((j : ℕ) (p : ServiceMessage) → slice_get messages j ≡ Some (Service p) → ServiceFits p) → AllByRecursion GroupMessageFits messages
by_places [] all = tt
by_places (OfLog message ∷ messages) all = (tt, by_places messages (λ j p at. all (suc j) p at))
by_places (Service message ∷ messages) all = (all 0 message refl, by_places messages (λ j p at. all (suc j) p at))

services_fit : (messages : List ServiceMessage) → AllByRecursion ServiceFits messages → AllByRecursion GroupMessageFits (map Service messages)
services_fit [] all = tt
services_fit (p ∷ messages) all = (all.0, services_fit messages all.1)

-- a server after an item, and what it sends
pub record ItFits (t : Server) (out : List GroupMessage) : Type 0 where
  pub desk : DeskFits t.desk
  pub sent : AllByRecursion GroupMessageFits out

turn_fits : (turn : servers.ServerTurn) (t : Server) → turn.server ≡ t → TurnFits turn → ItFits t turn.sent
turn_fits turn t now fits = record { desk = subst (λ (x : Server). DeskFits x.desk) now fits.desk; sent = by_places turn.sent fits.services }

module _ (n i : ℕ) (s : Server) (range : ServerIsInRange s) where
  pub proposal_fits : (input : Item) → ItemFits input → ComesWithin input → WhatItProposesFits n (ServerOf i) (GroupServer s) input
  proposal_fits (Comes (OfLog message)) fits come = tt
  proposal_fits (Comes (Service message)) fits come = result_event i (servers.decides n i s (inputs.Arrives message)) (decides_fit n i s range (inputs.Arrives message) come)
  proposal_fits (ServerInput input) fits come = result_event i (servers.decides n i s input) (decides_fit n i s range input fits)
  proposal_fits (ClientInput input) fits come = tt

pub server_fits : (n i : ℕ) (s t : Server) (left : List GroupMessage) (a b : GroupActor) (item : Item) (out : List GroupMessage) → ServerIsInRange s → ItemFits item → ComesWithin item → groups.GroupTakes n left (ServerOf i) a item b out → a ≡ GroupServer s → b ≡ GroupServer t → ItFits t out
server_fits n i s t left a b item out range fits come (groups.log_comes j old message turn among to h) is now =
    let same : s ≡ old = cc is in
    let range_of = subst ServerIsInRange same range in
    turn_fits turn t (cc now) (log_message_fits n i old message turn range_of.desk h)
server_fits n i s t left a b item out range fits come (groups.server_comes j old message turn among to proposed h) is now =
    let same : s ≡ old = cc is in
    let range_of = subst ServerIsInRange same range in
    turn_fits turn t (cc now) (done_fits n i old (servers.decides n i old (inputs.Arrives message)) turn (decides_fit n i old range_of (inputs.Arrives message) come) h)
server_fits n i s t left a b item out range fits come (groups.server_own j old input turn own proposed h) is now =
    let same : s ≡ old = cc is in
    let range_of = subst ServerIsInRange same range in
    turn_fits turn t (cc now) (done_fits n i old (servers.decides n i old input) turn (decides_fit n i old range_of input fits) h)

own_fits : (input : agents.Input) → groups.IsClientsOwn input → client_limits.ClientInputFits input
own_fits (agents.Arrives from response) own = absurd own
own_fits (agents.RegisterAt server) own = tt
own_fits (agents.Ping server) own = tt
own_fits (agents.PullFrom server) own = tt
own_fits (agents.End id ok) own = tt
own_fits agents.Crash own = tt
own_fits agents.Restart own = tt

pub client_fits : (n k : ℕ) (x : Agent) (left : List GroupMessage) (a b : GroupActor) (item : Item) (out : List GroupMessage) → NodeSpecFits x.node → ComesWithin item → groups.GroupTakes n left (ClientOf k) a item b out → a ≡ GroupClient x → AllByRecursion GroupMessageFits out
client_fits n k x left a b item out node come (groups.client_comes j old server response turn among h) is =
    let same : x ≡ old = cc is in
    services_fit turn.sent (step_sound n old (agents.Arrives server response) turn (subst (λ (y : Agent). NodeSpecFits y.node) same node) come h).sent
client_fits n k x left a b item out node come (groups.client_own j old input turn own h) is =
    let same : x ≡ old = cc is in
    services_fit turn.sent (step_sound n old input turn (subst (λ (y : Agent). NodeSpecFits y.node) same node) (own_fits input own) h).sent
