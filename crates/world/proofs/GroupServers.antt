-- What an event did to a server of a group, as what it did to the group.
use Rattle.std.proofs.Common.{◌≡◌, ◌≢◌, ℕ, ◌<◌, max, true, false, if◌then◌else◌, inl, inr, Some, Result, Ok, Err, List, [], ◌∷◌, ◌++◌, map, length, append-nil, refl, sym, ap, ◌∙◌, subst, arith, slice_get, slice_set, get_or}
use Rattle.std.proofs.lemmas.Option.{slice_get_read}
use Rattle.std.specs.List.{AllZip}
use Rattle.rows.specs.declared.actor.Actor.TheVariants as actors
use Rattle.rows.specs.declared.command.Command.{Command}
use Rattle.rows.specs.declared.refusal.Refusal.{Refusal}
use Rattle.rows.specs.declared.refusal.Refusal.TheVariants as refusals
use Rattle.wire.specs.Messages.{Message as WireMessage}
use Rattle.wire.specs.Frames.{MessageFits, message_at, message_text}
use Rattle.raft_model.specs.Rafts.{is_up, silent, crashed}
use Rattle.raft_model.specs.Steps.{Crash as LogCrash, step as log_step}
use Rattle.raft_safety.specs.Claims.{IsGreatestCommit}
use Rattle.raft_safety.proofs.Places.{get_set-cases, set-length}
use Rattle.fsm_model.specs.Words.{State}
use Rattle.fsm_model.specs.ClusterMachine.{cluster_spec}
use Rattle.group_model.specs.Inputs.{Crash, Restart, AskCrash, asks}
use Rattle.group_model.specs.Servers.{Server, ServerTurn, acts, wakes, done as turn_of, logged, step}
use Rattle.group_model.specs.Worlds.{World, Event, Deliver, AtServer, Run, happens, after_turn, input_to, raft_of}
use Rattle.group_safety.specs.Claims.{SendersAreMembers, logs}
use Rattle.group_safety.specs.Limits.{InputFits, EventFits, NodesFit, LimitedRun, more, LimitsAreKept}
use Rattle.group_safety.proofs.Lists.{set_same}
use Rattle.group_frames.specs.GroupFrames.{CarriesGroup, SendsGroup}
use Rattle.server.specs.declared.server.Outbox.{Outbox}
use Rattle.server.specs.ServerViews.{ServerView, RefinesServer, SameServer, crashed_server}
use Rattle.server.proofs.Servers.{same_is}
use Rattle.group_inputs.specs.declared.server_input.ServerInput.{ServerInput}
use Rattle.group_inputs.specs.Handings.{Handing, FrameBytes, OwnInput, handing}
use Rattle.server.specs.SentBytes.{bytes_of}
use Rattle.server.specs.Refusals.{MayEndOutOfMemory, handing_refusal}
use Rattle.world.specs.declared.done.Done.{Done}
use Rattle.world.specs.declared.done.Done.TheVariants as done
use Rattle.rows.specs.GroupSizes.{IsGroup}
use Rattle.group_inputs.specs.Events.{server_input}
use Rattle.world.specs.GroupWork.{work_of, input_work, turn_work}
use Rattle.world.specs.GroupView.{GroupView, RefinesGroup, GroupRunsTo, GroupInvariant, IsSentTo, ServersKnowNumbers, ClientsKnowNumbers, nodes_of, node_in, client_in}
use Rattle.world.specs.GroupSteps.{GroupEventHappened, SameView, RefusesGroupEvent, IsGroupAwake, OutOfMemoryMayEndAt}
use Rattle.world.specs.Inner.Inputs.{committed}
use Rattle.actor.specs.Handed.{comes_as_frame, restarts_server}
use Rattle.actor.specs.Refusals.{RefusedSo, ServerRefuses}
use Rattle.actor.specs.Answers.{ServerStays}
use Rattle.world.specs.Inner.GroupParts.{GroupHistoryView, ServerTook, ServerFell, ServerDone, GroupStepped}
use Rattle.world.proofs.Zips.{zip_at, zip_from, zip_length, zip_set, zip_append}
use Rattle.world.proofs.GroupScenes.{SendersIn, ServerTakes}
use Rattle.world.proofs.GroupOwn.{own_server}
use Rattle.world.proofs.GroupDeliveries.{sent_to_server}
use Rattle.world.proofs.GroupHeights.{group_height_next}

abbrev pub history_of : GroupView → GroupHistoryView
history_of v = record { outbox = v.outbox; trace = v.trace; chain = v.chain }

-- what became of an event, of which the world says so
pub record GroupActed (old : GroupView) (e : Event) (result : Result Done Refusal) (new : GroupView) : Type 0 where
  pub stepped : GroupStepped old e result new
  pub world : GroupInvariant new

-- a server that is down may want memory to start again
restart_lacks : (n : ℕ) (s : Server) (h : Handing) → restarts_server h ≡ true → is_up s.raft.mode ≡ false → MayEndOutOfMemory n s h
restart_lacks n s (FrameBytes bytes) so down = absurd (cc)
restart_lacks n s (OwnInput Restart) so down = down
restart_lacks n s (OwnInput x) so down = absurd (cc)

-- ---- a group in which nothing happened

same_servers : (xs : List ServerView) → AllZip SameServer xs xs
same_servers [] = tt
same_servers (x ∷ xs) = (record { raft = record { me = refl; size = refl; base = refl; server = refl }; desk = refl }, same_servers xs)

set_same_server : (xs : List ServerView) (i : ℕ) (x y : ServerView) → slice_get xs i ≡ Some x → SameServer x y → AllZip SameServer xs (slice_set xs i y)
set_same_server xs i x y here same = subst (λ l. AllZip SameServer l (slice_set xs i y)) (set_same xs i x here) (zip_set SameServer xs xs i x y (same_servers xs) same)

servers_on : (xs ys : List ServerView) (ss : List Server) → AllZip SameServer xs ys → AllZip RefinesServer xs ss → AllZip RefinesServer ys ss
servers_on [] [] ss same r = r
servers_on [] (y ∷ ys) ss same r = absurd same
servers_on (x ∷ xs) [] ss same r = absurd same
servers_on (x ∷ xs) (y ∷ ys) [] same r = absurd r
servers_on (x ∷ xs) (y ∷ ys) (s ∷ ss) same r =
    let one = same.0 in
    let is = r.0 in
    (same_is x y s one is, servers_on xs ys ss same.1 r.1)

pub same_group : (view : GroupView) → SameView view view
same_group view = record { servers = same_servers view.servers; clients = refl; outbox = refl; trace = refl; chain = refl }

module _ (old new : GroupView) (same : SameView old new) where
  pub same_group_count : length new.servers ≡ length old.servers
  same_group_count = sym (zip_length SameServer old.servers new.servers same.servers)

  pub same_group_nodes : nodes_of new ≡ nodes_of old
  same_group_nodes = ap (λ l. map node_in l) same.clients

  pub same_group_refines : (w : World) → RefinesGroup old w → RefinesGroup new w
  same_group_refines w st = record {
    servers = servers_on old.servers new.servers w.servers same.servers st.servers;
    clients = ap (λ l. map client_in l) same.clients ∙ st.clients;
    sent = subst (λ (o : Outbox). AllZip (CarriesGroup cluster_spec) o.frames w.sent) (sym same.outbox) st.sent;
  }

  pub same_group_runs : (past : List World) (w : World) → GroupRunsTo old past w → GroupRunsTo new past w
  same_group_runs past w r = record {
    run =
        subst (λ n. LimitedRun n (nodes_of new) new.trace past w) (sym same_group_count)
        (subst (λ nodes. LimitedRun (length old.servers) nodes new.trace past w) (sym same_group_nodes)
        (subst (λ es. LimitedRun (length old.servers) (nodes_of old) es past w) (sym same.trace) r.run));
    refines = same_group_refines w r.refines;
    chain = subst (λ c. IsGreatestCommit (logs past) (raft_of w) c) (sym same.chain) r.chain;
  }

  same_servers_know : ServersKnowNumbers old → ServersKnowNumbers new
  same_servers_know know i s at =
      let x = zip_from SameServer old.servers new.servers i s same.servers at in
      let one = x.2 in
      let raft = one.raft in
      let n = know i x.0 x.1 in
      (raft.me ∙ n.0, raft.size ∙ n.1 ∙ sym same_group_count)

  same_clients_know : ClientsKnowNumbers old → ClientsKnowNumbers new
  same_clients_know know i a at =
      let n = know i a (subst (λ l. slice_get l i ≡ Some a) same.clients at) in
      (n.0, n.1 ∙ sym same_group_count)

  pub same_group_reached : GroupInvariant old → GroupInvariant new
  same_group_reached r = record {
    past = r.past;
    world = r.world;
    runs = same_group_runs r.past r.world r.runs;
    servers = same_servers_know r.servers;
    clients = same_clients_know r.clients;
    nodes = subst (λ ns. NodesFit ns) (sym same_group_nodes) r.nodes;
    size = subst (λ n. IsGroup n) (sym same_group_count) r.size;
  }

-- what a value that was reached goes to is reached
pub group_reached_on : (old new : GroupView) (e : Event) → GroupEventHappened old e new → ServersKnowNumbers new → ClientsKnowNumbers new → GroupInvariant old → GroupInvariant new
group_reached_on old new e g servers clients r =
    let q = g.runs r.past r.world r.runs in
    record {
      past = r.past ++ r.world ∷ [];
      world = q.0;
      runs = q.2;
      servers = servers;
      clients = clients;
      nodes = subst (λ ns. NodesFit ns) (sym g.nodes) r.nodes;
      size = subst (λ n. IsGroup n) (sym g.size) r.size;
    }

-- ---- a server's turn

crash_turn : (n i : ℕ) (s : Server) → is_up s.raft.mode ≡ true → step n i s Crash ≡ Ok (record { server = crashed_server s; sent = []; work = [] })
crash_turn n i s up =
    let crash : log_step cluster_spec n i s.raft LogCrash ≡ Ok (silent (crashed s.raft)) = rw up refl in
    ap (λ b. turn_of n i s (if b then acts n i s Crash else wakes s Crash)) up ∙ ap (λ r. logged s (asks AskCrash s.desk) r) crash

-- server i, which has this view, takes the event, and has the view `after` then
module _ (old new : GroupView) (e : Event) (i : ℕ) (view after : ServerView)
    (reached : GroupInvariant old) (here : slice_get old.servers i ≡ Some view)
    (servers : new.servers ≡ slice_set old.servers i after) (clients : new.clients ≡ old.clients) where
  -- the turn that the event is in this world
  record ServerMoved (w : World) : Type 0 where
    before : Server
    turn : ServerTurn
    at : slice_get w.servers i ≡ Some before
    happens : happens w e ≡ after_turn w i (Ok turn)
    server : RefinesServer after turn.server
    sent : SendsGroup cluster_spec old.outbox.frames new.outbox.frames turn.sent
    work : new.outbox.work ≡ old.outbox.work ++ work_of w e

  count_kept : length new.servers ≡ length old.servers
  count_kept = ap length servers ∙ set-length old.servers i after

  nodes_kept : nodes_of new ≡ nodes_of old
  nodes_kept = ap (λ l. map node_in l) clients

  abbrev next_of : World → ServerTurn → World
  next_of w turn = record w { servers = slice_set w.servers i turn.server; sent = w.sent ++ turn.sent }

  moved_refines : (w : World) → RefinesGroup old w → (m : ServerMoved w) → RefinesGroup new (next_of w m.turn)
  moved_refines w st m =
      let turn = m.turn in
      let sent = m.sent in
      record {
        servers = subst (λ l. AllZip RefinesServer l (slice_set w.servers i turn.server)) (sym servers) (zip_set RefinesServer old.servers w.servers i after turn.server st.servers m.server);
        clients = ap (λ l. map client_in l) clients ∙ st.clients;
        sent = subst (λ l. AllZip (CarriesGroup cluster_spec) l (w.sent ++ turn.sent)) (sym sent.added) (zip_append (CarriesGroup cluster_spec) old.outbox.frames w.sent sent.frames turn.sent st.sent sent.carry);
      }

  moved_runs : EventFits e → new.trace ≡ old.trace ++ e ∷ [] → (past : List World) (w : World) → (r : GroupRunsTo old past w) → (m : ServerMoved w) →
      let turn = m.turn in new.chain ≡ max old.chain (committed turn.server.raft) → GroupRunsTo new (past ++ w ∷ []) (next_of w m.turn)
  moved_runs fits trace past w r m chain =
      let turn = m.turn in
      let next = next_of w turn in
      let run : LimitedRun (length old.servers) (nodes_of old) (old.trace ++ e ∷ []) (past ++ w ∷ []) next = more e next r.run fits m.happens in
      let height = group_height_next past w next old.chain r.chain i m.before turn.server m.at refl in
      record {
        run =
            subst (λ n. LimitedRun n (nodes_of new) new.trace (past ++ w ∷ []) next) (sym count_kept)
            (subst (λ nodes. LimitedRun (length old.servers) nodes new.trace (past ++ w ∷ []) next) (sym nodes_kept)
            (subst (λ es. LimitedRun (length old.servers) (nodes_of old) es (past ++ w ∷ []) next) (sym trace) run));
        refines = moved_refines w r.refines m;
        chain = subst (λ c. IsGreatestCommit (logs (past ++ w ∷ [])) (raft_of next) c) (sym chain) height;
      }

  moved_on : EventFits e → new.trace ≡ old.trace ++ e ∷ [] → (move : (w : World) → RefinesGroup old w → ServerMoved w) →
      ((w : World) (st : RefinesGroup old w) → let m = move w st in let turn = m.turn in new.chain ≡ max old.chain (committed turn.server.raft)) → GroupEventHappened old e new
  moved_on fits trace move chain = record {
    size = count_kept;
    nodes = nodes_kept;
    trace = trace;
    work = λ w st. let m = move w st in m.work;
    worlds = λ w st. let m = move w st in (next_of w m.turn, m.happens, moved_refines w st m);
    runs = λ past w r. let m = move w r.refines in (next_of w m.turn, m.happens, moved_runs fits trace past w r m (chain w r.refines));
  }

  know_numbers : (after.raft.me ≡ view.raft.me) × (after.raft.size ≡ view.raft.size) → ServersKnowNumbers new
  know_numbers same j a at =
      let n = reached.servers i view here in
      elim (get_set-cases old.servers i after j a (subst (λ l. slice_get l j ≡ Some a) servers at)) [
        | inl q ↦ subst (λ (b : ServerView). (b.raft.me ≡ j) × (b.raft.size ≡ length new.servers)) q.1 (same.0 ∙ n.0 ∙ sym q.0, same.1 ∙ n.1 ∙ sym count_kept)
        | inr q ↦ let k = reached.servers j a q.1 in (k.0, k.1 ∙ sym count_kept)
      ]

  clients_know_numbers : ClientsKnowNumbers new
  clients_know_numbers j a at =
      let n = reached.clients j a (subst (λ l. slice_get l j ≡ Some a) clients at) in
      (n.0, n.1 ∙ sym count_kept)

  moved_reached : (after.raft.me ≡ view.raft.me) × (after.raft.size ≡ view.raft.size) → GroupEventHappened old e new → GroupInvariant new
  moved_reached same happened = group_reached_on old new e happened (know_numbers same) clients_know_numbers reached

-- ---- what the history says of a server's event

module _ (old : GroupView) (e : Event) (i : ℕ) (view : ServerView) (h : Handing) where
  -- the event is that server i, which has this view, is handed h
  pub record ServerScene : Type 0 where
    pub reached : GroupInvariant old
    pub here : slice_get old.servers i ≡ Some view
    pub fits : EventFits e
    pub takes : (w : World) → RefinesGroup old w → (s : Server) → slice_get w.servers i ≡ Some s → RefinesServer view s → ServerTakes view h w e i s

  -- the server of the world, and what the event is for it
  record Found (w : World) : Type 0 where
    server : Server
    at : slice_get w.servers i ≡ Some server
    is : RefinesServer view server
    takes : ServerTakes view h w e i server

  module _ (scene : ServerScene) where
    found : (w : World) → RefinesGroup old w → Found w
    found w st =
        let s = zip_at RefinesServer old.servers w.servers i view st.servers scene.here in
        record { server = s.0; at = s.1; is = s.2; takes = scene.takes w st s.0 s.1 s.2 }

    me_is : view.raft.me ≡ i
    me_is = let r = scene.reached in let n = r.servers i view scene.here in n.0

    size_is : (w : World) → RefinesGroup old w → view.raft.size ≡ length w.servers
    size_is w st = let r = scene.reached in let n = r.servers i view scene.here in n.1 ∙ zip_length RefinesServer old.servers w.servers st.servers

    module _ (awake : IsGroupAwake old e) (new : GroupView) (after : ServerView) (servers : new.servers ≡ slice_set old.servers i after) (clients : new.clients ≡ old.clients)
        (same : (after.raft.me ≡ view.raft.me) × (after.raft.size ≡ view.raft.size)) where
      taken : ServerTook view (history_of old) h e after (history_of new) → GroupActed old e (Ok done.Taken) new
      taken p =
          let move : (w : World) → RefinesGroup old w → ServerMoved old new e i view after scene.reached scene.here servers clients w =
          λ w st.
          let f = found w st in
          let takes = f.takes in
          let t = takes.taken after old.outbox new.outbox (p.steps.taken f.server f.is) in
          record {
            before = f.server;
            turn = t.turn;
            at = f.at;
            happens = takes.happens ∙ ap (λ q. after_turn w i q) t.is;
            server = t.server;
            sent = t.sent;
            work = t.work ∙ ap (λ l. old.outbox.work ++ l) (sym (takes.work ∙ ap turn_work t.is));
          } in
          let happened = moved_on old new e i view after scene.reached scene.here servers clients scene.fits p.trace move (λ w st. let m = move w st in let turn = m.turn in p.chain turn.server m.server) in
          record {
            stepped = record { ok = happened; err = tt; cause = tt; memory = tt };
            world = moved_reached old new e i view after scene.reached scene.here servers clients same happened;
          }

      fallen : ServerFell view (history_of old) h e i after (history_of new) → GroupActed old e (Ok done.Crashed) new
      fallen p =
          let crash = AtServer i Crash in
          let move : (w : World) → RefinesGroup old w → ServerMoved old new crash i view after scene.reached scene.here servers clients w =
          λ w st.
          let f = found w st in
          let l = p.crashed.fell f.server f.is in
          let turn : ServerTurn = record { server = crashed_server f.server; sent = []; work = [] } in
          let stepped : step (length w.servers) i f.server Crash ≡ Ok turn = crash_turn (length w.servers) i f.server l.0 in
          record {
            before = f.server;
            turn = turn;
            at = f.at;
            happens = ap (λ o. input_to w i Crash o) f.at ∙ ap (λ q. after_turn w i q) stepped;
            server = l.1;
            sent = record { frames = []; added = ap (λ (o : Outbox). o.frames) p.outbox ∙ sym (append-nil old.outbox.frames); carry = tt };
            work = ap (λ (o : Outbox). o.work) p.outbox ∙ sym (ap (λ l. old.outbox.work ++ l) (ap (λ o. input_work w i Crash o) f.at ∙ ap turn_work stepped) ∙ append-nil old.outbox.work);
          } in
          let happened = moved_on old new crash i view after scene.reached scene.here servers clients tt p.trace move (λ w st. omega (arith, p.chain)) in
          let lacking : (w : World) → RefinesGroup old w → OutOfMemoryMayEndAt w e =
          λ w st.
          let f = found w st in
          let takes = f.takes in
          takes.wants (subst (λ n. MayEndOutOfMemory n f.server h) (size_is w st) (p.lacks f.server f.is)) in
          record {
            stepped = record {
              ok = inl (record { crash = crash; actor = λ w st. let f = found w st in let takes = f.takes in takes.crash; lacking = lacking; happened = happened });
              err = tt;
              cause = tt;
              memory = tt;
            };
            world = moved_reached old new crash i view after scene.reached scene.here servers clients same happened;
          }

      -- a server that is as it was leaves the group as it was
      as_it_was : after ≡ view → history_of new ≡ history_of old → new ≡ old
      as_it_was is past =
          let kept : new.servers ≡ old.servers = servers ∙ (ap (λ x. slice_set old.servers i x) is ∙ set_same old.servers i view scene.here) in
          λ t. record {
            servers = kept t;
            clients = clients t;
            outbox = ap (λ (x : GroupHistoryView). x.outbox) past t;
            trace = ap (λ (x : GroupHistoryView). x.trace) past t;
            chain = ap (λ (x : GroupHistoryView). x.chain) past t;
          }

      -- one that is the same server leaves the same group
      same_but : SameServer view after → history_of new ≡ history_of old → SameView old new
      same_but is past = record {
        servers = subst (λ l. AllZip SameServer old.servers l) (sym servers) (set_same_server old.servers i view after scene.here is);
        clients = clients;
        outbox = ap (λ (x : GroupHistoryView). x.outbox) past;
        trace = ap (λ (x : GroupHistoryView). x.trace) past;
        chain = ap (λ (x : GroupHistoryView). x.chain) past;
      }

      stays : ServerStays view h after → history_of new ≡ history_of old → GroupActed old e (Ok done.Crashed) new
      stays p past =
          let is : new ≡ old = as_it_was p.same past in
          let runs = scene.reached.runs in
          let first = found scene.reached.world runs.refines in
          let restart = first.takes.restart p.restart in
          record {
            stepped = record {
              ok = inr (record {
                restart = restart;
                lacking = λ w st. let f = found w st in let takes = f.takes in takes.wants (restart_lacks (length w.servers) f.server h p.restart (p.down f.server f.is));
                could = λ w st.
                    let f = found w st in
                    let takes = f.takes in
                    let q = takes.wakes p.restart (p.down f.server f.is) in
                    let turn = q.0 in
                    (record w { servers = slice_set w.servers i turn.server; sent = w.sent ++ turn.sent }, takes.happens ∙ ap (λ r. after_turn w i r) q.1);
                same = is;
              });
              err = tt;
              cause = tt;
              memory = tt;
            };
            world = subst (λ x. GroupInvariant x) (sym is) scene.reached;
          }

      module _ (limits : LimitsAreKept) (senders : SendersAreMembers) where
        -- all that was sent came from the group
        in_group : (past : List World) (w : World) → GroupRunsTo old past w → SendersIn (length w.servers) w
        in_group past w r =
            let st = r.refines in
            let run : Run (length old.servers) (nodes_of old) old.trace past w = limits (length old.servers) (nodes_of old) old.trace past w scene.reached.nodes r.run in
            subst (λ n. SendersIn n w) (zip_length RefinesServer old.servers w.servers st.servers) (senders (length old.servers) (nodes_of old) old.trace past w run)

        -- a server refuses what the definitions refuse
        refuses : (r : Refusal) → ServerRefuses view h r → RefusesGroupEvent old e r
        refuses r says past w run =
            let st = run.refines in
            let f = found w st in
            let takes = f.takes in
            let here : handing_refusal (length w.servers) i f.server h ≡ Some r =
            subst (λ (n : ℕ). handing_refusal n i f.server h ≡ Some r) (size_is w st) (subst (λ (j : ℕ). handing_refusal view.raft.size j f.server h ≡ Some r) me_is (says f.server f.is)) in
            takes.happens ∙ ap (λ q. after_turn w i q) (takes.refuses (in_group past w run) r here)

        caused : (r : Refusal) → RefusedSo (Unit {0}) (ServerRefuses view h) r → r ≢ refusals.NoMemory → RefusesGroupEvent old e r
        caused refusals.NoMemory says other = absurd (other refl)
        caused _ says other = refuses _ says

        refused : (r : Refusal) → SameServer view after → history_of new ≡ history_of old → RefusedSo (Unit {0}) (ServerRefuses view h) r → GroupActed old e (Err r) new
        refused r is past says =
            let left : SameView old new = same_but is past in
            record { stepped = record { ok = tt; err = left; cause = caused r says; memory = λ lacks. awake }; world = same_group_reached old new left scene.reached }

        acted : (result : Result Done Refusal) → ServerDone view (history_of old) h e i result after (history_of new) → GroupActed old e result new
        acted (Ok done.Taken) p = taken p
        acted (Ok done.Crashed) p = elim p [ inl c ↦ fallen c | inr s ↦ stays s.0 s.1 ]
        acted (Err r) p = refused r p.0 p.1 p.2

  pub server_acted : ServerScene → LimitsAreKept → SendersAreMembers → IsGroupAwake old e → (new : GroupView) (after : ServerView) →
      new.servers ≡ slice_set old.servers i after → new.clients ≡ old.clients → (after.raft.me ≡ view.raft.me) × (after.raft.size ≡ view.raft.size) →
      (result : Result Done Refusal) → ServerDone view (history_of old) h e i result after (history_of new) → GroupActed old e result new
  server_acted scene limits senders awake new after servers clients same result p = acted scene awake new after servers clients same limits senders result p

-- ---- which events are a server's

-- server i is at place p of the value that was looked at
module _ (old now : GroupView) (i p : ℕ) (view : ServerView) (same : old ≡ now) (reached : GroupInvariant old)
    (is : p ≡ i) (inside : i < length now.servers) (got : view ≡ get_or old.servers p view) where
  stands : slice_get old.servers i ≡ Some view
  stands = slice_get_read old.servers _ i view refl (subst (λ (x : GroupView). i < length x.servers) (sym same) inside) (subst (λ k. view ≡ get_or old.servers k view) is got)

  knows_me : view.raft.me ≡ i
  knows_me = let n = reached.servers i view stands in n.0

  knows_size : (w : World) → RefinesGroup old w → view.raft.size ≡ length w.servers
  knows_size w st = let n = reached.servers i view stands in n.1 ∙ zip_length RefinesServer old.servers w.servers st.servers

  -- an input of its own
  pub own_scene : (given : ServerInput) → InputFits (server_input (handing given)) → comes_as_frame (handing given) ≡ false → ServerScene old (AtServer i (server_input (handing given))) i view (handing given)
  own_scene given fits own = record {
    reached = reached;
    here = stands;
    fits = fits;
    takes = λ w st s at server. own_server view given w i s knows_me (knows_size w st) at own;
  }

  -- a frame that was sent to it
  pub sent_scene : ((y : WireMessage State Command) → MessageFits cluster_spec y → message_at cluster_spec (message_text cluster_spec y) ≡ Ok y) →
      (place : ℕ) → IsSentTo now.outbox.frames place (actors.Server i) → ServerScene old (Deliver place) i view (FrameBytes (bytes_of (slice_get old.outbox.frames place)))
  sent_scene again place sent = record {
    reached = reached;
    here = stands;
    fits = tt;
    takes = λ w st s at server. sent_to_server again view old.outbox.frames place w i s st.sent (subst (λ (x : GroupView). IsSentTo x.outbox.frames place (actors.Server i)) (sym same) sent) knows_me (knows_size w st) at;
  }
