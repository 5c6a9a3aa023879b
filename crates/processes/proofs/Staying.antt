-- What a server has applied stays so while its process lives.
use Rattle.std.proofs.Common.{◌≡◌, inl, inr, ℕ, ◌≤◌, true, Option, Some, None, Result, Ok, Err, List, [], ◌∷◌, ◌++◌, map, length, refl, sym, ap, ◌∙◌, subst, arith}
use Rattle.rows.specs.declared.refusal.Refusal.{Refusal}
use Rattle.rows.specs.declared.node.NodeSpec.{NodeSpec}
use Rattle.rows.specs.declared.command.Command.{Command}
use Rattle.machine_model.specs.declared.entry.Entry.{Entry}
use Rattle.raft_model.specs.Messages.{Message}
use Rattle.raft_model.specs.Rafts.{RaftTurn, is_up}
use Rattle.raft_model.specs.Steps as raft_steps
use Rattle.raft_model.specs.Chains.{Agree}
use Rattle.raft_model.proofs.Cases.{same_ok}
use Rattle.raft_safety.proofs.Logs.{agree_sym, agree_trans, agree_less}
use Rattle.raft_safety.proofs.Paths.{CameIn, step_path}
use Rattle.raft_safety.proofs.Commits.{turn_commit}
use Rattle.raft_safety.proofs.Places.{get-more, get-where, get-last, get-one, push_length}
use Rattle.fsm_model.specs.ClusterMachine.{cluster_spec}
use Rattle.group_model.specs.Messages.{GroupMessage}
use Rattle.group_model.specs.Inputs as inputs
use Rattle.group_model.specs.Servers as servers
use Rattle.group_model.specs.Servers.{Server}
use Rattle.group_model.specs.Worlds.{event_at, log_request, LogEventFits}
use Rattle.processes.specs.Processes.{NotStarted, Up, up_with, IsNotUp, Process, System, told_by, Execution, begun, continued, saves}
use Rattle.processes.specs.Claims.{OccursIn}
use Rattle.processes.specs.Groups as groups
use Rattle.processes.specs.Groups.{OfServer, OfClient, ServerOf, GroupActor, GroupServer, GroupClient, GroupStore, store_of, group_actors, ProposalFits}
use Rattle.processes.specs.Logs.{started}
use Rattle.group_model.specs.Agents.{Agent}
use Rattle.processes.specs.Headline.{ServerTold, KeepsApplied, IsUpAs, LivesFromTo}
use Rattle.processes.proofs.Fine.{asked_came}
use Rattle.processes.proofs.Groups.{same_name}
use Rattle.processes.proofs.Batching.{becoming}
use Rattle.processes.proofs.Rising.{takes_up}
use Rattle.processes.proofs.Lasting.{Known, WasBefore, came, went, step_before, known_now, known_told}

-- ---- an item at a server that is up then as well

module _ (n i : ℕ) (s t : Server) (up : is_up s.raft.mode ≡ true) (still : is_up t.raft.mode ≡ true) where
  same_commit : (u : Server) → u.raft ≡ s.raft → u ≡ t → s.raft.commit ≤ t.raft.commit
  same_commit u same is = subst (λ (x : Server). s.raft.commit ≤ x.raft.commit) is (rw same (omega arith))

  logged_commit : (act : inputs.Act) (input : raft_steps.Input Command) (sent : List (Message Command)) → CameIn cluster_spec sent i input → (r : Result (RaftTurn Command) Refusal) (turn : servers.ServerTurn) →
      raft_steps.step cluster_spec n i s.raft input ≡ r → servers.logged s act r ≡ Ok turn → turn.server ≡ t → s.raft.commit ≤ t.raft.commit
  logged_commit act input sent came_in (Err cause) turn is h now = absurd (cc)
  logged_commit act input sent came_in (Ok u) turn is h now =
      let same : u.server ≡ t.raft = ap (λ (x : servers.ServerTurn). x.server.raft) (same_ok _ _ h) ∙ ap (λ (x : Server). x.raft) now in
      subst (λ x. s.raft.commit ≤ x.commit) same
      (turn_commit cluster_spec n i sent s.raft u.server u.sent (step_path cluster_spec n i sent s.raft input u came_in is) up (subst (λ x. is_up x.mode ≡ true) (sym same) still))

  asks_commit : (act : inputs.Act) (ask : Option inputs.Ask) (turn : servers.ServerTurn) → LogEventFits (event_at i ask) → servers.asks_log n i s act ask ≡ Ok turn → turn.server ≡ t → s.raft.commit ≤ t.raft.commit
  asks_commit act None turn fits h now = same_commit turn.server (sym (ap (λ (x : servers.ServerTurn). x.server.raft) (same_ok _ _ h))) now
  asks_commit act (Some ask) turn fits h now =
      logged_commit act (inputs.input_of ask) [] (asked_came n i s ask fits) (raft_steps.step cluster_spec n i s.raft (inputs.input_of ask)) turn refl h now

  done_commit : (r : Result inputs.Act Refusal) (turn : servers.ServerTurn) → LogEventFits (event_at i (log_request r)) → servers.done n i s r ≡ Ok turn → turn.server ≡ t → s.raft.commit ≤ t.raft.commit
  done_commit (Err cause) turn fits h now = absurd (cc)
  done_commit (Ok act) turn fits h now = asks_commit act act.ask turn fits h now

  takes_commit : (left : List GroupMessage) (a b : GroupActor) (item : groups.Item) (out : List GroupMessage) → groups.GroupTakes n left (ServerOf i) a item b out → a ≡ GroupServer s → b ≡ GroupServer t → s.raft.commit ≤ t.raft.commit
  takes_commit left a b item out (groups.log_comes j old message turn among to h) is now =
      let same : old ≡ s = cc is in
      logged_commit (inputs.rests s.desk) (raft_steps.Arrives message) (message ∷ []) ((0, refl), to) (raft_steps.step cluster_spec n i s.raft (raft_steps.Arrives message)) turn refl
      (subst (λ x. servers.takes_log_message n i x message ≡ Ok turn) same h) (cc now)
  takes_commit left a b item out (groups.server_comes j old message turn among to fits h) is now =
      let same : old ≡ s = cc is in
      done_commit (servers.decides n i s (inputs.Arrives message)) turn (subst (λ x. ProposalFits n i x (inputs.Arrives message)) same fits) (subst (λ x. servers.step n i x (inputs.Arrives message) ≡ Ok turn) same h) (cc now)
  takes_commit left a b item out (groups.server_own j old input turn own fits h) is now =
      let same : old ≡ s = cc is in
      done_commit (servers.decides n i s input) turn (subst (λ x. ProposalFits n i x input) same fits) (subst (λ x. servers.step n i x input ≡ Ok turn) same h) (cc now)

no_client : (n i : ℕ) (x : Agent) (t : Server) (left : List GroupMessage) (a : GroupActor) (item : groups.Item) (out : List GroupMessage) → groups.GroupTakes n left (ServerOf i) a item (GroupServer t) out → a ≡ GroupClient x → ⊥
no_client n i x t left a item out (groups.log_comes j old message turn among to h) is = cc is
no_client n i x t left a item out (groups.server_comes j old message turn among to fits h) is = cc is
no_client n i x t left a item out (groups.server_own j old input turn own fits h) is = cc is

module _ (n : ℕ) (nodes : List NodeSpec) where
  abbrev Sys : Type 0
  Sys = System (group_actors n nodes)

  abbrev KnownOf : ℕ → Sys → List GroupActor → Server → Type 0
  KnownOf i g unsaved s = Known (group_actors n nodes) same_name (ServerOf i) g unsaved (GroupServer s)

  -- what two moments of one system say
  -- a server whose process is up is up
  up_before : (i : ℕ) (g next : Sys) (t : Server) (unsaved : List GroupActor)
      → ((v : Server) (store : GroupStore) (before : List GroupActor) (held ready : List GroupMessage) → g.process (ServerOf i) ≡ up_with (group_actors n nodes) store (GroupServer v) before held ready → is_up v.raft.mode ≡ true)
      → WasBefore (group_actors n nodes) same_name (ServerOf i) g next (GroupServer t) unsaved → is_up t.raft.mode ≡ true
  up_before i g next t unsaved earlier (came (OfServer p) begun_so idle known) =
      let same : record { raft = started p; desk = None } ≡ t = cc begun_so in
      ap (λ (x : Server). is_up x.raft.mode) (sym same)
  up_before i g next t unsaved earlier (came (OfClient node ids) begun_so idle known) = absurd (cc begun_so)
  up_before i g next t unsaved earlier (went store a before held ready was kept (inl same)) =
      earlier t store before held ready (was ∙ ap (λ x. up_with (group_actors n nodes) store x before held ready) same)
  up_before i g next t unsaved earlier (went store a before held ready was kept (inr took)) = by_old a took.2 was
    where
      by_old : (b : GroupActor) → groups.GroupTakes n g.left (ServerOf i) b took.0 (GroupServer t) took.1 → g.process (ServerOf i) ≡ up_with (group_actors n nodes) store b before held ready → is_up t.raft.mode ≡ true
      by_old (GroupServer v) takes here = takes_up n i v t g.left (GroupServer v) (GroupServer t) took.0 took.1 (earlier v store before held ready here) takes refl refl
      by_old (GroupClient x) takes here = absurd (no_client n i x t g.left (GroupClient x) took.0 took.1 takes refl)

  up_now : (i : ℕ) (past : List Sys) (g : Sys) → Execution (group_actors n nodes) past g → (t : Server) (store : GroupStore) (unsaved : List GroupActor) (held ready : List GroupMessage)
      → g.process (ServerOf i) ≡ up_with (group_actors n nodes) store (GroupServer t) unsaved held ready → is_up t.raft.mode ≡ true
  up_now i past g begun t store unsaved held ready now =
      let life : NotStarted ≡ Up (GroupServer t) unsaved held ready = ap (λ (p : Process (group_actors n nodes)). p.life) now in
      absurd (cc life)
  up_now i past g (continued {past = earlier} {g = last} next e step) t store unsaved held ready now =
      up_before i last next t unsaved (λ v its_store before its_held its_ready was. up_now i earlier last e v its_store before its_held its_ready was)
      (step_before (group_actors n nodes) same_name (ServerOf i) last next store (GroupServer t) unsaved held ready now step)

  same_server : (i : ℕ) (x y : Sys) (store other : GroupStore) (s t : Server) (unsaved more : List GroupActor) (held out ready rest : List GroupMessage) → x ≡ y
      → x.process (ServerOf i) ≡ up_with (group_actors n nodes) store (GroupServer s) unsaved held ready → y.process (ServerOf i) ≡ up_with (group_actors n nodes) other (GroupServer t) more out rest → s ≡ t
  same_server i x y store other s t unsaved more held out ready rest e a b =
      let both : up_with (group_actors n nodes) store (GroupServer s) unsaved held ready ≡ up_with (group_actors n nodes) other (GroupServer t) more out rest = sym a ∙ ap (λ (z : Sys). z.process (ServerOf i)) e ∙ b in
      let life : Up (GroupServer s) unsaved held ready ≡ Up (GroupServer t) more out rest = ap (λ (p : Process (group_actors n nodes)). p.life) both in
      cc life

  -- what a server was at a moment of its process' life has committed no more than what it is, and is
  -- told, or is to be told
  abbrev Since : ℕ → Sys → List GroupActor → Server → Server → Type 0
  Since i g unsaved s t = (s.raft.commit ≤ t.raft.commit) × KnownOf i g unsaved s

  module _ (i : ℕ) (s : Server) where
    at_last : (past : List Sys) (g x : Sys) → Execution (group_actors n nodes) past g → x ≡ g → (at_store : GroupStore) (before : List GroupActor) (out rest : List GroupMessage)
        → x.process (ServerOf i) ≡ up_with (group_actors n nodes) at_store (GroupServer s) before out rest
        → (t : Server) (store : GroupStore) (unsaved : List GroupActor) (held ready : List GroupMessage)
        → g.process (ServerOf i) ≡ up_with (group_actors n nodes) store (GroupServer t) unsaved held ready → Since i g unsaved s t
    at_last past g x e is at_store before out rest was t store unsaved held ready now =
        subst (λ y. Since i g unsaved y t) (sym (same_server i x g at_store store s t before unsaved out held rest ready is was now))
        (omega arith, known_now (group_actors n nodes) same_name (ServerOf i) past g e store (GroupServer t) unsaved held ready now)

    same_some : {r : Option Sys} (x y : Sys) → r ≡ Some y → r ≡ Some x → x ≡ y
    same_some x y a b = let both = sym b ∙ a in cc both

    -- one moment of a longer execution
    narrow : (past : List Sys) (g more : Sys) (j : ℕ) (u : Server) → IsUpAs n nodes (past ++ g ∷ []) more j i u → j ≤ length past → IsUpAs n nodes past g j i u
    narrow past g more j u a low = record {
      system = a.system;
      system_is = elim (get-where (past ++ g ∷ []) (more ∷ []) j a.system a.system_is) [
        | inl d ↦ d.1
        | inr d ↦ absurd (omega (arith, d.0, low, push_length past g))
      ];
      store = a.store;
      unsaved = a.unsaved;
      held = a.held;
      ready = a.ready;
      is = a.is;
    }

    narrow_some : (past : List Sys) (g more : Sys) (j : ℕ) → (u : Server) × IsUpAs n nodes (past ++ g ∷ []) more j i u → j ≤ length past → (u : Server) × IsUpAs n nodes past g j i u
    narrow_some past g more j a low = (a.0, narrow past g more j a.0 a.1 low)

    -- the server at the end of an execution, whatever it stored
    abbrev AtEnd : Sys → Type 0
    AtEnd g = (v : Server) (store : GroupStore) (unsaved : List GroupActor) (held ready : List GroupMessage) → g.process (ServerOf i) ≡ up_with (group_actors n nodes) store (GroupServer v) unsaved held ready → Since i g unsaved s v

    went_by : (g next : Sys) (u : Server) → is_up u.raft.mode ≡ true → (at_store : GroupStore) (at_unsaved : List GroupActor) (at_held at_ready : List GroupMessage)
        → g.process (ServerOf i) ≡ up_with (group_actors n nodes) at_store (GroupServer u) at_unsaved at_held at_ready → AtEnd g → (t : Server) (unsaved : List GroupActor) → is_up t.raft.mode ≡ true
        → WasBefore (group_actors n nodes) same_name (ServerOf i) g next (GroupServer t) unsaved → Since i next unsaved s t
    went_by g next u u_up at_store at_unsaved at_held at_ready here rest t unsaved up (came its_store begun_so idle known) =
        absurd (subst (λ (p : Process (group_actors n nodes)). IsNotUp (group_actors n nodes) p.life) here idle)
    went_by g next u u_up at_store at_unsaved at_held at_ready here rest t unsaved up (went store a before held ready was kept (inl same)) =
        let r = rest t store before held ready (was ∙ ap (λ x. up_with (group_actors n nodes) store x before held ready) same) in
        (r.0, kept (GroupServer s) r.1)
    went_by g next u u_up at_store at_unsaved at_held at_ready here rest t unsaved up (went store a before held ready was kept (inr took)) =
        let both : up_with (group_actors n nodes) store a before held ready ≡ up_with (group_actors n nodes) at_store (GroupServer u) at_unsaved at_held at_ready = sym was ∙ here in
        let life : Up a before held ready ≡ Up (GroupServer u) at_unsaved at_held at_ready = ap (λ (p : Process (group_actors n nodes)). p.life) both in
        let is_u : a ≡ GroupServer u = cc life in
        let r = rest u store before held ready (was ∙ ap (λ x. up_with (group_actors n nodes) store x before held ready) is_u) in
        let more : u.raft.commit ≤ t.raft.commit = takes_commit n i u t u_up up g.left a (GroupServer t) took.0 took.1 took.2 is_u refl in
        (omega (arith, r.0, more), kept (GroupServer s) r.1)

    since : (past : List Sys) (g : Sys) (e : Execution (group_actors n nodes) past g) (k : ℕ) → IsUpAs n nodes past g k i s → LivesFromTo n nodes past g i k (length past) → AtEnd g
    since past g begun k was lives t store unsaved held ready now =
        at_last [] g was.system begun (sym (get-one g k was.system was.system_is)) was.store was.unsaved was.held was.ready was.is t store unsaved held ready now
    since past g (continued {past = earlier} {g = last} next e step) k was lives t store unsaved held ready now = elim (get-where (earlier ++ last ∷ []) (next ∷ []) k was.system was.system_is) [
      | inr d ↦ at_last (earlier ++ last ∷ []) next was.system (continued next e step) (sym (get-one next d.1.0 was.system d.1.1)) was.store was.unsaved was.held was.ready was.is t store unsaved held ready now
      | inl d ↦
          let then_was : IsUpAs n nodes earlier last k i s = record { system = was.system; system_is = d.1; store = was.store; unsaved = was.unsaved; held = was.held; ready = was.ready; is = was.is } in
          let m = lives (length earlier) (omega (arith, d.0, push_length earlier last)) (omega (arith, push_length earlier last)) in
          let is_last : m.1.system ≡ last = same_some m.1.system last (get-more (earlier ++ last ∷ []) (next ∷ []) (length earlier) last (get-last earlier last)) m.1.system_is in
          let here = ap (λ (z : Sys). z.process (ServerOf i)) (sym is_last) ∙ m.1.is in
          let before : LivesFromTo n nodes earlier last i k (length earlier) = λ j low high. narrow_some earlier last next j (lives j low (omega (arith, high, push_length earlier last))) high in
          let u_up = up_now i earlier last e m.0 m.1.store m.1.unsaved m.1.held m.1.ready here in
          let up = up_now i (earlier ++ last ∷ []) next (continued next e step) t store unsaved held ready now in
          went_by last next m.0 u_up m.1.store m.1.unsaved m.1.held m.1.ready here (since earlier last e k then_was before) t unsaved up
          (step_before (group_actors n nodes) same_name (ServerOf i) last next store (GroupServer t) unsaved held ready now step)
    ]

  -- each server that was told has committed a first part of one list
  abbrev pub AgreeOnList : Type 0
  AgreeOnList = (past : List Sys) (g : Sys) → Execution (group_actors n nodes) past g → (list : List (Entry Command)) × ((k i : ℕ) (s : Server) → ServerTold n nodes past g k i s → Agree s.raft.commit s.raft.log list)

  module _ (agree : AgreeOnList) (i : ℕ) where
    -- it may save now, and then both are told
    told_both : (past : List Sys) (g : Sys) → Execution (group_actors n nodes) past g → (s t : Server) (store : GroupStore) (unsaved : List GroupActor) (held ready : List GroupMessage)
        → g.process (ServerOf i) ≡ up_with (group_actors n nodes) store (GroupServer t) unsaved held ready → Since i g unsaved s t → KeepsApplied s.raft t.raft
    told_both past g e s t store unsaved held ready now is =
        let a = GroupServer t in
        let b = becoming (group_actors n nodes) same_name g (ServerOf i) (store_of a) (Up a [] [] (ready ++ held)) g.left (g.told ++ map (told_by (group_actors n nodes) (ServerOf i)) unsaved) in
        let run = continued b.0 e (saves (ServerOf i) store a unsaved held ready b.0 now b.1) in
        let one = agree (past ++ g ∷ []) b.0 run in
        let first = told_in b.0 b.1.told_is s is.1 in
        let second = told_in b.0 b.1.told_is t (known_now (group_actors n nodes) same_name (ServerOf i) past g e store a unsaved held ready now) in
        (is.0, agree_trans (one.1 first.0 i s first.1) (agree_less s.raft.commit is.0 (agree_sym (one.1 second.0 i t second.1))))
      where
        told_in : (h : Sys) → h.told ≡ g.told ++ map (told_by (group_actors n nodes) (ServerOf i)) unsaved → (u : Server) → KnownOf i g unsaved u → OccursIn h.told (told_by (group_actors n nodes) (ServerOf i) (GroupServer u))
        told_in h is_told u known = subst (λ l. OccursIn l (told_by (group_actors n nodes) (ServerOf i) (GroupServer u))) (sym is_told) (known_told (group_actors n nodes) same_name (ServerOf i) g.told unsaved (GroupServer u) known)

    pub applied_stays : (past : List Sys) (g : Sys) → Execution (group_actors n nodes) past g → (k l : ℕ) (s t : Server) → k ≤ l → IsUpAs n nodes past g k i s → IsUpAs n nodes past g l i t → LivesFromTo n nodes past g i k l → KeepsApplied s.raft t.raft
    applied_stays past g begun k l s t le a b lives =
        told_both [] g begun s t b.store b.unsaved b.held b.ready (ap (λ (z : Sys). z.process (ServerOf i)) (get-one g l b.system b.system_is) ∙ b.is)
        (since i s [] g begun k a (λ j low high. lives j low (omega (arith, high))) t b.store b.unsaved b.held b.ready (ap (λ (z : Sys). z.process (ServerOf i)) (get-one g l b.system b.system_is) ∙ b.is))
    applied_stays past g (continued {past = earlier} {g = last} next e step) k l s t le a b lives = elim (get-where (earlier ++ last ∷ []) (next ∷ []) l b.system b.system_is) [
      | inr d ↦
          let here = ap (λ (z : Sys). z.process (ServerOf i)) (get-one next d.1.0 b.system d.1.1) ∙ b.is in
          told_both (earlier ++ last ∷ []) next (continued next e step) s t b.store b.unsaved b.held b.ready here
          (since i s (earlier ++ last ∷ []) next (continued next e step) k a (λ j low high. lives j low (omega (arith, high, d.0))) t b.store b.unsaved b.held b.ready here)
      | inl d ↦
          let size = push_length earlier last in
          let first = narrow i s earlier last next k s a (omega (arith, le, d.0, size)) in
          let second = narrow i s earlier last next l t b (omega (arith, d.0, size)) in
          applied_stays earlier last e k l s t le first second
          (λ j low high. narrow_some i s earlier last next j (lives j low high) (omega (arith, high, d.0, size)))
    ]
