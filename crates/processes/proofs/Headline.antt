-- What is promised of the group holds of what its processes may have told.
use Rattle.std.proofs.Common.{◌≡◌, ℕ, true, List, refl, arith}
use Rattle.rows.specs.declared.node.NodeSpec.{NodeSpec}
use Rattle.rows.specs.declared.command.Command.{Command}
use Rattle.machine_model.specs.declared.entry.Entry.{Entry}
use Rattle.raft_model.specs.Rafts.{Raft, Mode, Down, Follower, Candidate, Leader, is_leader}
use Rattle.raft_model.specs.Worlds as raft_worlds
use Rattle.raft_model.specs.Chains.{At, Agree}
use Rattle.raft_safety.proofs.Places.{get-within}
use Rattle.group_model.specs.Servers.{Server}
use Rattle.group_model.specs.Agents.{Agent}
use Rattle.group_model.specs.Worlds.{raft_of}
use Rattle.group_safety.specs.Claims.{ServerAt, AgentAt, logs}
use Rattle.group_safety.proofs.Chained as chained
use Rattle.group_safety.proofs.Placings.{placed}
use Rattle.group_safety.proofs.Backings.{backed}
use Rattle.group_safety.proofs.DeskRuns.{desks, server_log}
use Rattle.processes.specs.Processes.{System, ToldActor, Execution}
use Rattle.processes.specs.Claims as claims
use Rattle.processes.specs.Groups.{ServerOf, ClientOf, GroupServer, GroupClient, group_actors, group_abstraction, stopped_by}
use Rattle.processes.specs.Headline.{KeepsPromises, ServerTold, ClientTold}
use Rattle.processes.proofs.Fine.{Fine}
use Rattle.processes.proofs.Groups.{is_simulated, server_is, client_is}
use Rattle.processes.proofs.Generic.{refines}
use Rattle.processes.proofs.Staying.{AgreeOnList, applied_stays}

-- a leader in a world of the log
leads : {C : Type 0} (past : List (raft_worlds.World C)) (w : raft_worlds.World C) (k i : ℕ) (s : Raft C) (a : At past w k i s) (t : ℕ) → s.term ≡ t → (mode : Mode) → s.mode ≡ mode → is_leader mode ≡ true → raft_worlds.Leads a.world i t
leads past w k i s a t term Down e h = absurd (cc)
leads past w k i s a t term Follower e h = absurd (cc)
leads past w k i s a t term (Candidate votes) e h = absurd (cc)
leads past w k i s a t term (Leader next match) e h = record { server = s; next = next; match = match; here = a.here; mode = e; term = term }

module _ (n : ℕ) (nodes : List NodeSpec) (before : List (System (group_actors n nodes))) (g : System (group_actors n nodes)) (c : Execution (group_actors n nodes) before g) where
  W : claims.RefinesWorld (group_actors n nodes) (group_abstraction n nodes) stopped_by before g
  W = refines (group_actors n nodes) (group_abstraction n nodes) stopped_by Fine (is_simulated n nodes) before g c

  -- a server that was told was so
  server_at : (k i : ℕ) (s : Server) → ServerTold n nodes before g k i s → (l : ℕ) × ServerAt W.past W.world l i s
  server_at k i s h =
      let t : ToldActor (group_actors n nodes) = record { who = ServerOf i; actor = GroupServer s } in
      let a = W.told k k t t (omega arith) h h in
      (a.first, record { world = a.first_at.world; world_is = a.first_at.world_is; here = server_is _ s a.first_at.here })

  -- and so was a client
  client_told_at : (k i : ℕ) (x : Agent) → ClientTold n nodes before g k i x → (l : ℕ) × AgentAt W.past W.world l i x
  client_told_at k i x h =
      let t : ToldActor (group_actors n nodes) = record { who = ClientOf i; actor = GroupClient x } in
      let a = W.told k k t t (omega arith) h h in
      (a.first, record { world = a.first_at.world; world_is = a.first_at.world_is; here = client_is _ x a.first_at.here })

  agree_on : (list : List (Entry Command)) × ((k i : ℕ) (s : Server) → ServerTold n nodes before g k i s → Agree s.raft.commit s.raft.log list)
  agree_on =
      let one = chained.one_list n nodes W.events W.past W.world W.reach.0 in
      (one.0, λ k i s h. let a = server_at k i s h in one.1.agrees a.0 i s.raft (server_log W.past W.world a.0 i s a.1))

  keeps_if : AgreeOnList n nodes → KeepsPromises n nodes before g
  keeps_if agree =
      let one = chained.one_list n nodes W.events W.past W.world W.reach.0 in
      record {
        list = one.0;
        agrees = λ k i s h. let a = server_at k i s h in one.1.agrees a.0 i s.raft (server_log W.past W.world a.0 i s a.1);
        safe = chained.safe_states n nodes W.events W.past W.world W.reach.0 one.0 one.1;
        leaders = λ k l i j s t at_k at_l s_leads t_leads term.
            let a = server_at k i s at_k in
            let b = server_at l j t at_l in
            let a_log = server_log W.past W.world a.0 i s a.1 in
            let b_log = server_log W.past W.world b.0 j t b.1 in
            one.1.one_leader a.0 b.0 a_log.world b_log.world i j t.raft.term a_log.world_is b_log.world_is
            (leads (logs W.past) (raft_of W.world) a.0 i s.raft a_log t.raft.term term s.raft.mode refl s_leads)
            (leads (logs W.past) (raft_of W.world) b.0 j t.raft b_log t.raft.term refl t.raft.mode refl t_leads);
        placed = λ k i j x id h there.
            let a = client_told_at k i x h in
            let p = placed n nodes W.events W.past W.world W.reach.0 one.0 one.1 a.0 i x j id a.1 there in
            record { entry = p.entry; plan = p.plan; place = p.place; one = p.one; entry_is = p.entry_is; plan_is = p.plan_is; place_is = p.place_is; on = p.on };
        refines = W;
        one = one.1;
        backed = λ p e plan there is.
            let run = W.reach.0 in
            backed n W.events W.past W.world (chained.shadow n nodes W.events W.past W.world run) one.0 p e plan there is
            (chained.origin n nodes W.events W.past W.world run one.0 one.1 p (get-within one.0 p e there)) (desks n nodes W.events W.past W.world run);
        stays = λ k l i s t le a b lives. applied_stays n nodes agree i before g c k l s t le a b lives;
      }

module _ (n : ℕ) (nodes : List NodeSpec) (before : List (System (group_actors n nodes))) (g : System (group_actors n nodes)) (c : Execution (group_actors n nodes) before g) where
  pub keeps : KeepsPromises n nodes before g
  keeps = keeps_if n nodes before g c (λ past last run. agree_on n nodes past last run)
