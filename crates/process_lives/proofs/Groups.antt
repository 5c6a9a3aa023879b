-- Servers and clients of the group are joined so: what their code does is what the definitions'
-- processes may do.
use Rattle.std.proofs.Common.{◌≡◌, ◌∙◌, ℕ, zero, suc, Option, Some, None, List, [], ◌∷◌, ◌++◌, refl, sym, ap, subst, slice_get, append-nil}
use Rattle.std.specs.Prelude.{option_map}
use Rattle.std.specs.List.{AllZip, AllByRecursion}
use Rattle.rows.specs.declared.node.NodeSpec.{NodeSpec}
use Rattle.rows.specs.declared.allocation.AllocId.{AllocId}
use Rattle.rows.specs.declared.command.Command.{Command}
use Rattle.fsm_model.specs.ClusterMachine.{cluster_spec}
use Rattle.fsm_model.specs.Words.{State}
use Rattle.raft_model.specs.Rafts.{Raft, restarted}
use Rattle.group_model.specs.Messages.{GroupMessage}
use Rattle.group_model.specs.Agents as agents
use Rattle.group_model.specs.Agents.{Agent}
use Rattle.group_model.specs.Servers.{Server}
use Rattle.group_model.specs.Worlds.{agents_from, client_at}
use Rattle.raft_safety.proofs.Places.{get-one}
use Rattle.raft_snapshot.specs.Stored.{Stored}
use Rattle.wire.specs.Frames.{Frame, sized}
use Rattle.raft_core.specs.RaftView.{RaftView}
use Rattle.raft_core.specs.Steps.{Stores}
use Rattle.raft_core.specs.StoredParts.{stored_part}
use Rattle.group_frames.specs.GroupFrames.{CarriesGroup}
use Rattle.journal.specs.Events.{IoEvent}
use Rattle.journal.specs.Replays.{Replay, replayed, replayed_on}
use Rattle.processes.specs.Claims.{OccursIn, TakesInTurn, took_none, one_more}
use Rattle.processes.specs.Logs.{started}
use Rattle.processes.specs.Groups as groups
use Rattle.processes.specs.Groups.{Who, ServerOf, ClientOf, GroupActor, GroupServer, GroupClient, GroupStore, OfServer, OfClient, Item, Comes, ServerInput, ClientInput, GroupTakes, group_actors}
use Rattle.processes.proofs.Groups.{same_name, is_simulated}
use Rattle.processes.proofs.Headline.{keeps}
use Rattle.process_lives.specs.Lives.{Code, Past, Process, Lived, IsReadAs}
use Rattle.process_lives.proofs.Bounds.{InBounds}
use Rattle.process_lives.proofs.GroupSteps.{takes_bounds}
use Rattle.process_lives.proofs.Limits.{in_range, GroupMessageFits, ComesWithin, proposal_fits, server_fits, client_fits}
use Rattle.process_lives.proofs.Scripts.{each_both}
use Rattle.process_lives.proofs.Steps.{IsReached, reach_on}
use Rattle.group_safety.proofs.ActRanges.{DeskFits, ServerIsInRange}
use Rattle.rows.specs.Fits.{NodeSpecFits}
use Rattle.process_lives.proofs.Servers.{ShowsServer as StandsForRaft, keeps_stored, shows_started, covers_same}
use Rattle.process_lives.proofs.Turns.{Sends, sends_nothing, sends_message, sends_other, reports_line, Turned, HadCome, Joins}
use Rattle.process_lives.proofs.Living.{joined}
use Rattle.process_lives.specs.Groups.{IsFrameItem, CarriesFrame, AreSent, sent_none, sends_frame, sends_answer, reports, Handed, FrameHanded, InputHanded, MayMean, IsOwn, ItemFits, TakesFrom, TakesHanded, Hands, declines, takes_in, HandsAll, hands_none, hands_more, ShowsServer, StaysServer, RunsGroupServers, IsNodeOf, ShowsClient, StaysClient, RunsGroupClients, replay_of_servers, replay_of_clients, group_code, ShowsActor, ByKind, ForServer, ForClient, HeadlineOfLives, group_server_code, group_client_code}

-- ---- what is sent

zip_both : {X Y : Type 0} (Such : X → Y → Type 0) (xs more : List X) (ys others : List Y) → AllZip Such xs ys → AllZip Such more others → AllZip Such (xs ++ more) (ys ++ others)
zip_both Such [] more [] others p q = q
zip_both Such [] more (y ∷ ys) others p q = absurd p
zip_both Such (x ∷ xs) more [] others p q = absurd p
zip_both Such (x ∷ xs) more (y ∷ ys) others p q = (p.0, zip_both Such xs more ys others p.1 q)

-- the frame carries the message, which is within limits
abbrev CarriesFitting : List ℕ → GroupMessage → Type 0
CarriesFitting bytes message = CarriesFrame bytes message × GroupMessageFits message

all_sent : (outs : List IoEvent) (frames : List Frame) (messages : List GroupMessage) → AreSent outs frames → AllZip (CarriesGroup cluster_spec) frames messages → AllByRecursion GroupMessageFits messages → Sends IsFrameItem CarriesFitting outs messages
all_sent outs frames [] sent_none carry fit = sends_nothing
all_sent outs frames (x ∷ messages) sent_none carry fit = absurd carry
all_sent outs all [] (sends_frame {events = events} {frames = frames} frame rest) carry fit = absurd carry
all_sent outs all (x ∷ messages) (sends_frame {events = events} {frames = frames} frame rest) carry fit =
    sends_message (sized frame.bytes) x (frame.bytes, refl, (carry.0.bytes, fit.0)) (all_sent events frames messages rest carry.1 fit.1)
all_sent outs frames messages (sends_answer {events = events} bytes none rest) carry fit = sends_other bytes none (all_sent events frames messages rest carry fit)
all_sent outs frames messages (reports {events = events} line rest) carry fit = reports_line line (all_sent events frames messages rest carry fit)

-- ---- what is stored

replays_left : {P Q : Type 0} (r : Replay P) (start : Option P) (payloads : List (List ℕ)) → replayed_on (replay_of_servers {P = P} {Q = Q} r) (option_map ForServer start) payloads ≡ option_map ForServer (replayed_on r start payloads)
replays_left r None payloads = refl
replays_left r (Some p) [] = refl
replays_left r (Some p) (payload ∷ payloads) = replays_left r (r.after p payload) payloads

replays_right : {P Q : Type 0} (r : Replay Q) (start : Option Q) (payloads : List (List ℕ)) → replayed_on (replay_of_clients {P = P} {Q = Q} r) (option_map ForClient start) payloads ≡ option_map ForClient (replayed_on r start payloads)
replays_right r None payloads = refl
replays_right r (Some q) [] = refl
replays_right r (Some q) (payload ∷ payloads) = replays_right r (r.after q payload) payloads

read_left : {P Q : Type 0} (r : Replay P) (payloads : List (List ℕ)) (p : P) → replayed r payloads ≡ Some p → replayed (replay_of_servers {P = P} {Q = Q} r) payloads ≡ Some (ForServer p)
read_left r [] p e = let none : None ≡ Some p = e in absurd (cc none)
read_left r (payload ∷ payloads) p e = replays_left r (r.whole payload) payloads ∙ ap (option_map ForServer) e

read_right : {P Q : Type 0} (r : Replay Q) (payloads : List (List ℕ)) (q : Q) → replayed r payloads ≡ Some q → replayed (replay_of_clients {P = P} {Q = Q} r) payloads ≡ Some (ForClient q)
read_right r [] q e = let none : None ≡ Some q = e in absurd (cc none)
read_right r (payload ∷ payloads) q e = replays_right r (r.whole payload) payloads ∙ ap (option_map ForClient) e

new_ones : (k : ℕ) (specs : List NodeSpec) (c : ℕ) (x : Agent) → slice_get (agents_from k specs) c ≡ Some x → x.started ≡ []
new_ones k [] c x h = absurd (cc)
new_ones k (node ∷ specs) zero x h = let e : agents.agent_of (record node { number = k }) ≡ x = cc in ap (λ (y : Agent). y.started) (sym e)
new_ones k (node ∷ specs) (suc c) x h = new_ones (suc k) specs c x h

none_started : (nodes : List NodeSpec) (c : ℕ) (x : Agent) → client_at (agents_from 1 nodes) c ≡ Some x → x.started ≡ []
none_started nodes zero x h = absurd (cc)
none_started nodes (suc c) x h = new_ones 1 nodes c x h

own_within : (input : Item) → IsOwn input → ComesWithin input
own_within (Comes message) own = absurd own
own_within (ServerInput input) own = tt
own_within (ClientInput input) own = tt

-- ---- some inputs

-- where these messages had left an actor takes some inputs, is another then, of which this is so,
-- and sends the messages of these frames
record TookAll (n : ℕ) (nodes : List NodeSpec) (k : Who) (left : List GroupMessage) (a : GroupActor) (IsSo : GroupActor → Type 0) (frames : List Frame) : Type 0 where
  actor : GroupActor
  after : List GroupActor
  sent : List GroupMessage
  takes : TakesInTurn (group_actors n nodes) k left a actor after sent
  is_so : IsSo actor
  carry : AllZip (CarriesGroup cluster_spec) frames sent
  fit : AllByRecursion GroupMessageFits sent

module _ (n : ℕ) (nodes : List NodeSpec) (k : Who) (left : List GroupMessage) {V : Type 0} (Shows : V → GroupActor → Type 0) (Stays : V → V → Type 0)
    (Stands : V → GroupActor → Type 0) (shown : (v : V) (a : GroupActor) → Stands v a → Shows v a)
    (same : (old new : V) (a : GroupActor) → Stands old a → Stays old new → Shows new a → Stands new a)
    (takes_so : (old new : V) (a : GroupActor) (some : List GroupMessage) (input : Item) (frames : List Frame) → Stands old a → IsReached (group_actors n nodes) k left a → Stays old new → ComesWithin input
    → (t : TakesFrom n k Shows Stays some a input new frames) → GroupTakes n some k a input t.actor t.sent × Stands new t.actor × AllByRecursion GroupMessageFits t.sent)
    (item : List ℕ) (come : IsFrameItem item → (x : GroupMessage) × OccursIn left x × CarriesFitting item x) (first : GroupActor) (first_reached : IsReached (group_actors n nodes) k left first) where
  abbrev Took : V → List Frame → Type 0
  Took new frames = TookAll n nodes k left first (Stands new) frames

  -- one more input
  then_takes : (mid new : V) (frames more : List Frame) (some : List GroupMessage) (input : Item) → ((y : GroupMessage) → OccursIn some y → OccursIn left y) → ComesWithin input → (r : TookAll n nodes k left first (Stands mid) frames)
      → Stays mid new → TakesFrom n k Shows Stays some r.actor input new more → Took new (frames ++ more)
  then_takes mid new frames more some input on within r stays t =
      let is = takes_so mid new r.actor some input more r.is_so (reach_on (group_actors n nodes) same_name k left first r.actor r.after r.sent first_reached r.takes) stays within t in
      record {
        actor = t.actor;
        after = r.after ++ t.actor ∷ [];
        sent = r.sent ++ t.sent;
        takes = one_more input t.actor t.sent r.takes ((is_simulated n nodes).grows some left k r.actor t.actor input t.sent on is.0);
        is_so = is.1;
        carry = zip_both (CarriesGroup cluster_spec) frames more r.sent t.sent r.carry t.carry;
        fit = each_both GroupMessageFits r.sent t.sent r.fit is.2;
      }

  only_one : (x : GroupMessage) → OccursIn left x → (y : GroupMessage) → OccursIn (x ∷ []) y → OccursIn left y
  only_one x among y one = subst (OccursIn left) (get-one x one.0 y one.1) among

  nothing_had : (y : GroupMessage) → OccursIn [] y → OccursIn left y
  nothing_had y none = let e : None ≡ Some y = none.1 in absurd (cc e)

  then_handed : (mid new : V) (frames more : List Frame) (handed : Handed) → MayMean item handed → TookAll n nodes k left first (Stands mid) frames → Stays mid new → TakesHanded n k Shows Stays mid handed new more → Took new (frames ++ more)
  then_handed mid new frames more (FrameHanded bytes) means r stays t =
      let x = come means.1 in
      then_takes mid new frames more (x.0 ∷ []) (Comes x.0) (only_one x.0 x.1) x.2.1 r stays (t r.actor x.0 (shown mid r.actor r.is_so) (subst (λ b. CarriesFrame b x.0) (sym means.0) x.2.0))
  then_handed mid new frames more (InputHanded input) means r stays t =
      let took = t r.actor (shown mid r.actor r.is_so) in
      then_takes mid new frames more [] input nothing_had (own_within input means) r stays took

  then_hands : (mid new : V) (frames more : List Frame) → TookAll n nodes k left first (Stands mid) frames → Hands n k Shows Stays item mid new more → Took new (frames ++ more)
  then_hands mid new frames more r (declines stays shows) = record {
    actor = r.actor;
    after = r.after;
    sent = r.sent;
    takes = r.takes;
    is_so = same mid new r.actor r.is_so stays (shows r.actor (shown mid r.actor r.is_so));
    carry = subst (λ l. AllZip (CarriesGroup cluster_spec) l r.sent) (sym (append-nil frames)) r.carry;
    fit = r.fit;
  }
  then_hands mid new frames more r (takes_in handed all stays means t) = then_handed mid new frames more handed means r stays t

  hands_all : (old new : V) (frames : List Frame) → Stands old first → HandsAll n k Shows Stays item old new frames → Took new frames
  hands_all old new frames stands hands_none = record { actor = first; after = []; sent = []; takes = took_none; is_so = stands; carry = tt; fit = tt }
  hands_all old new all stands (hands_more {mid = mid} {frames = frames} last more before one) = then_hands mid last frames more (hands_all old mid frames stands before) one

-- ---- the two kinds

-- a server of the definitions that code's value is, in a group of n
module _ {V : Type 0} (raft : V → RaftView State Command) (Shows : V → Server → Type 0) (n : ℕ) (nodes : List NodeSpec) (c : Code ℕ V (Stored State Command)) (runs : RunsGroupServers raft Shows n c) (k : ℕ) where
  record IsCompactionOf (v : V) (s : Server) : Type 0 where
    shows : Shows v s
    log : StandsForRaft cluster_spec n k (raft v) s.raft
    desk : DeskFits s.desk

  abbrev Stands : V → GroupActor → Type 0
  Stands v (GroupServer s) = IsCompactionOf v s
  Stands v (GroupClient x) = ⊥

  stands_shown : (v : V) (a : GroupActor) → Stands v a → ShowsServer raft Shows v a
  stands_shown v (GroupServer s) is = is.shows
  stands_shown v (GroupClient x) is = absurd is

  -- a server that is in bounds, after what stays
  stands_after : (old new : V) (s t : Server) → IsCompactionOf old s → StaysServer raft Shows old new → Shows new t → InBounds t.raft → DeskFits t.desk → IsCompactionOf new t
  stands_after old new s t is stays shows bounds desk =
      let r = runs.refines new t shows in
      let covered = sym (ap (λ (x : Raft Command). x.covered) is.log.stands.is) ∙ sym is.log.based in
      record {
        shows = shows;
        log = record { stands = r; me = stays.same.0 ∙ is.log.me; size = stays.same.1 ∙ is.log.size; based = covers_same cluster_spec n (raft new) t.raft r bounds (stays.based covered); bounds = bounds };
        desk = desk;
      }

  stands_same : (old new : V) (a : GroupActor) → Stands old a → StaysServer raft Shows old new → ShowsServer raft Shows new a → Stands new a
  stands_same old new (GroupServer s) is stays shows = stands_after old new s s is stays shows is.log.bounds is.desk
  stands_same old new (GroupClient x) is stays shows = absurd is

  abbrev ServerNext : V → List GroupMessage → GroupActor → Item → GroupActor → List GroupMessage → Type 0
  ServerNext new some a input b out = GroupTakes n some (ServerOf k) a input b out × Stands new b × AllByRecursion GroupMessageFits out

  server_next : (old new : V) (s : Server) (some : List GroupMessage) (input : Item) (b : GroupActor) (out : List GroupMessage) → IsCompactionOf old s → ServerIsInRange s → StaysServer raft Shows old new → ItemFits input → ComesWithin input
      → GroupTakes n some (ServerOf k) (GroupServer s) input b out → ShowsServer raft Shows new b → ServerNext new some (GroupServer s) input b out
  server_next old new s some input (GroupServer t) out is range stays fits come takes shows =
      let after = server_fits n k s t some (GroupServer s) (GroupServer t) input out range fits come takes refl refl in
      (takes, stands_after old new s t is stays shows (takes_bounds n k s t some (GroupServer s) (GroupServer t) input out is.log.bounds takes refl refl) after.desk, after.sent)
  server_next old new s some input (GroupClient x) out is range stays fits come takes shows = absurd shows

  stands_next : (left : List GroupMessage) (old new : V) (a : GroupActor) (some : List GroupMessage) (input : Item) (frames : List Frame) → Stands old a → IsReached (group_actors n nodes) (ServerOf k) left a → StaysServer raft Shows old new → ComesWithin input
      → (t : TakesFrom n (ServerOf k) (ShowsServer raft Shows) (StaysServer raft Shows) some a input new frames) → ServerNext new some a input t.actor t.sent
  stands_next left old new (GroupServer s) some input frames is reached stays come t =
      let range = in_range n nodes k s left is.desk reached in
      server_next old new s some input t.actor t.sent is range stays t.fits come (t.takes (proposal_fits n k s range input t.fits come)) t.shows
  stands_next left old new (GroupClient x) some input frames is reached stays come t = absurd is

-- a client of the definitions that code's value is, of these nodes
module _ {W : Type 0} (size : W → ℕ) (agent : W → Agent) (n : ℕ) (nodes : List NodeSpec) (k : ℕ) where
  record StandsForClient (w : W) (x : Agent) : Type 0 where
    is : agent w ≡ x
    size_is : size w ≡ n
    number : x.node.number ≡ k
    node : IsNodeOf nodes k x.node
    within : NodeSpecFits x.node

  abbrev StandsClient : W → GroupActor → Type 0
  StandsClient w (GroupServer s) = ⊥
  StandsClient w (GroupClient x) = StandsForClient w x

  client_shown : (w : W) (a : GroupActor) → StandsClient w a → ShowsClient size agent w a
  client_shown w (GroupServer s) is = absurd is
  client_shown w (GroupClient x) is = is.is

  client_after : (old new : W) (x y : Agent) → StandsForClient old x → StaysClient size agent old new → agent new ≡ y → StandsForClient new y
  client_after old new x y is stays shows =
      let same : x.node ≡ y.node = ap (λ (z : Agent). z.node) (sym is.is) ∙ sym stays.node ∙ ap (λ (z : Agent). z.node) shows in
      record {
        is = shows;
        size_is = stays.same_size ∙ is.size_is;
        number = subst (λ (z : NodeSpec). z.number ≡ k) same is.number;
        node = subst (IsNodeOf nodes k) same is.node;
        within = subst NodeSpecFits same is.within;
      }

  client_same : (old new : W) (a : GroupActor) → StandsClient old a → StaysClient size agent old new → ShowsClient size agent new a → StandsClient new a
  client_same old new (GroupServer s) is stays shows = absurd is
  client_same old new (GroupClient x) is stays shows = client_after old new x x is stays shows

  abbrev ClientNext : W → List GroupMessage → GroupActor → Item → GroupActor → List GroupMessage → Type 0
  ClientNext new some a input b out = GroupTakes n some (ClientOf k) a input b out × StandsClient new b × AllByRecursion GroupMessageFits out

  client_then : (old new : W) (x : Agent) (some : List GroupMessage) (input : Item) (b : GroupActor) (out : List GroupMessage) → StandsForClient old x → StaysClient size agent old new → ComesWithin input → GroupTakes n some (ClientOf k) (GroupClient x) input b out
      → ShowsClient size agent new b → ClientNext new some (GroupClient x) input b out
  client_then old new x some input (GroupServer s) out is stays come takes shows = absurd shows
  client_then old new x some input (GroupClient y) out is stays come takes shows =
      (takes, client_after old new x y is stays shows, client_fits n k x some (GroupClient x) (GroupClient y) input out is.within come takes refl)

  client_next : (left : List GroupMessage) (old new : W) (a : GroupActor) (some : List GroupMessage) (input : Item) (frames : List Frame) → StandsClient old a → IsReached (group_actors n nodes) (ClientOf k) left a → StaysClient size agent old new → ComesWithin input
      → (t : TakesFrom n (ClientOf k) (ShowsClient size agent) (StaysClient size agent) some a input new frames) → ClientNext new some a input t.actor t.sent
  client_next left old new (GroupServer s) some input frames is reached stays come t = absurd is
  client_next left old new (GroupClient x) some input frames is reached stays come t = client_then old new x some input t.actor t.sent is stays come (t.takes tt) t.shows

-- ---- both

module _ {V W : Type 0} (raft : V → RaftView State Command) (Shows : V → Server → Type 0) (size : W → ℕ) (agent : W → Agent) (n : ℕ) (nodes : List NodeSpec)
    (replay : Replay (Stored State Command)) (Turn : List ℕ → V → V → List IoEvent → Type 0) (Begins : ℕ → Option (List ℕ) → V → Type 0) (header : ℕ → List ℕ)
    (client_replay : Replay (List AllocId)) (ClientTurn : List ℕ → W → W → List IoEvent → Type 0) (ClientBegins : ℕ → Option (List ℕ) → W → Type 0) (client_header : ℕ → List ℕ) where
  abbrev ServerCode : Code ℕ V (Stored State Command)
  ServerCode = group_server_code raft Shows replay Turn Begins header

  abbrev ClientCode : Code ℕ W (List AllocId)
  ClientCode = group_client_code size agent client_replay ClientTurn ClientBegins client_header

  abbrev Both : Code Who (ByKind V W) (ByKind (Stored State Command) (List AllocId))
  Both = group_code ServerCode ClientCode

  module _ (runs : RunsGroupServers raft Shows n ServerCode) (client_runs : RunsGroupClients size agent n nodes ClientCode) where
    abbrev StandsAs : Who → ByKind V W → GroupActor → Type 0
    StandsAs (ServerOf i) (ForServer v) a = Stands raft Shows n nodes ServerCode runs i v a
    StandsAs (ServerOf i) (ForClient w) a = ⊥
    StandsAs (ClientOf k) (ForServer v) a = ⊥
    StandsAs (ClientOf k) (ForClient w) a = StandsClient size agent n nodes k w a

    abbrev KeepsAs : Who → ByKind (Stored State Command) (List AllocId) → GroupStore → Type 0
    KeepsAs (ServerOf i) (ForServer part) (OfServer p) = Stores cluster_spec part (started p)
    KeepsAs (ServerOf i) (ForServer part) (OfClient node ids) = ⊥
    KeepsAs (ServerOf i) (ForClient mine) store = ⊥
    KeepsAs (ClientOf k) (ForServer part) store = ⊥
    KeepsAs (ClientOf k) (ForClient mine) (OfServer p) = ⊥
    KeepsAs (ClientOf k) (ForClient mine) (OfClient node ids) = (mine ≡ ids) × IsNodeOf nodes k node

    is_one : (k : Who) (store : Option (List ℕ)) (v : ByKind V W) → Both.BeginsWith k store v → groups.IsThere n nodes k
    is_one (ServerOf i) store (ForServer v) from = runs.member i store v from
    is_one (ServerOf i) store (ForClient w) from = absurd from
    is_one (ClientOf k) store (ForServer v) from = absurd from
    is_one (ClientOf k) store (ForClient w) from = let node = client_runs.member k store w from in (node.0, node.1)

    first_client : (k : ℕ) (w : W) (o : Option Agent) → client_at (agents_from 1 nodes) k ≡ o → IsNodeOf nodes k (agent w).node → (agent w).started ≡ [] → KeepsAs (ClientOf k) (ForClient (agent w).started) (groups.stored_at_first o)
    first_client k w None is node none = let no : None ≡ Some node.0 = sym is ∙ node.1 in absurd (cc no)
    first_client k w (Some x) is node none = (none ∙ sym (none_started nodes k x is), (x, is, refl))

    first : (k : Who) (v : ByKind V W) → Both.BeginsWith k None v → KeepsAs k (Both.part v) (groups.stored_first nodes k)
    first (ServerOf i) (ForServer v) from = runs.first i v from
    first (ServerOf i) (ForClient w) from = absurd from
    first (ClientOf k) (ForServer v) from = absurd from
    first (ClientOf k) (ForClient w) from = first_client k w (client_at (agents_from 1 nodes) k) refl (client_runs.member k None w from) (client_runs.first k w from)

    reads : (k : Who) (file : List ℕ) (v : ByKind V W) → Both.BeginsWith k (Some (Both.header k ++ file)) v → IsReadAs (Both.replay k) file (Both.part v)
    reads (ServerOf i) file (ForServer v) from =
        let r = runs.reads i file v from in
        record { payloads = r.payloads; tail = r.tail; journal = r.journal; part_is = read_left replay r.payloads (stored_part (raft v)) r.part_is }
    reads (ServerOf i) file (ForClient w) from = absurd from
    reads (ClientOf k) file (ForServer v) from = absurd from
    reads (ClientOf k) file (ForClient w) from =
        let r = client_runs.reads k file w from in
        record { payloads = r.payloads; tail = r.tail; journal = r.journal; part_is = read_right client_replay r.payloads (agent w).started r.part_is }

    client_begun : (w : W) (node : NodeSpec) (ids : List AllocId) → (agent w).life ≡ Some agents.new_life → (agent w).started ≡ ids → (agent w).node ≡ node → agent w ≡ record { node = node; started = ids; life = Some agents.new_life }
    client_begun w node ids life mine same = rw same (rw mine (rw life refl))

    same_client : (k : ℕ) (a b : NodeSpec) → IsNodeOf nodes k a → IsNodeOf nodes k b → a ≡ b
    same_client k a b p q =
        let both : Some p.0 ≡ Some q.0 = sym p.1 ∙ q.1 in
        let one : p.0 ≡ q.0 = cc both in
        p.2 ∙ ap (λ (x : Agent). x.node) one ∙ sym q.2

    shows_begun : (k : Who) (store : Option (List ℕ)) (v : ByKind V W) (q : GroupStore) → Both.BeginsWith k store v → KeepsAs k (Both.part v) q → StandsAs k v (groups.begun_by q)
    shows_begun (ServerOf i) store (ForServer v) (OfServer p) from mine_kept = record {
      shows = runs.starts i store v from (started p) mine_kept;
      log = shows_started cluster_spec n i (raft v) p (runs.place i store v from) (λ s stored. runs.refines v (record { raft = restarted s; desk = None }) (runs.starts i store v from s stored)) mine_kept;
      desk = tt;
    }
    shows_begun (ServerOf i) store (ForServer v) (OfClient node ids) from mine_kept = absurd mine_kept
    shows_begun (ServerOf i) store (ForClient w) q from mine_kept = absurd from
    shows_begun (ClientOf k) store (ForServer v) q from mine_kept = absurd from
    shows_begun (ClientOf k) store (ForClient w) (OfServer p) from mine_kept = absurd mine_kept
    shows_begun (ClientOf k) store (ForClient w) (OfClient node ids) from mine_kept =
        let mine = client_runs.member k store w from in
        let place = client_runs.place k store w from in
        let same = same_client k (agent w).node node mine mine_kept.1 in
        record {
          is = client_begun w node ids (client_runs.starts k store w from) mine_kept.0 same;
          size_is = place.1;
          number = subst (λ (z : NodeSpec). z.number ≡ k) same place.0;
          node = mine_kept.1;
          within = subst NodeSpecFits same (client_runs.within k store w from);
        }

    keeps_stored_by : (k : Who) (v : ByKind V W) (a : GroupActor) → StandsAs k v a → KeepsAs k (Both.part v) (groups.store_of a)
    keeps_stored_by (ServerOf i) (ForServer v) (GroupServer s) is = keeps_stored cluster_spec n i (raft v) s.raft is.log
    keeps_stored_by (ServerOf i) (ForServer v) (GroupClient x) is = absurd is
    keeps_stored_by (ServerOf i) (ForClient w) a is = absurd is
    keeps_stored_by (ClientOf k) (ForServer v) a is = absurd is
    keeps_stored_by (ClientOf k) (ForClient w) (GroupServer s) is = absurd is
    keeps_stored_by (ClientOf k) (ForClient w) (GroupClient x) is = (ap (λ (z : Agent). z.started) is.is, is.node)

    abbrev Come : List GroupMessage → List ℕ → Type 0
    Come left item = HadCome Both (group_actors n nodes) StandsAs KeepsAs CarriesFitting left item

    abbrev TurnedSo : Who → List GroupMessage → GroupActor → ByKind V W → List IoEvent → Type 0
    TurnedSo k left a new outs = Turned Both (group_actors n nodes) StandsAs KeepsAs CarriesFitting k left a new outs

    server_turns : (i : ℕ) (left : List GroupMessage) (item : List ℕ) (old new : V) (outs : List IoEvent) (s : Server) → IsCompactionOf raft Shows n nodes ServerCode runs i old s → IsReached (group_actors n nodes) (ServerOf i) left (GroupServer s) → Turn item old new outs → Come left item → TurnedSo (ServerOf i) left (GroupServer s) (ForServer new) outs
    server_turns i left item old new outs s is reached turn come =
        let t = runs.turn i item old new outs is.log.me is.log.size turn in
        let r = hands_all n nodes (ServerOf i) left (ShowsServer raft Shows) (StaysServer raft Shows) (Stands raft Shows n nodes ServerCode runs i) (stands_shown raft Shows n nodes ServerCode runs i) (stands_same raft Shows n nodes ServerCode runs i)
        (stands_next raft Shows n nodes ServerCode runs i left) item come (GroupServer s) reached old new t.frames is t.hands in
        record { actor = r.actor; after = r.after; sent = r.sent; takes = r.takes; shows = r.is_so; sends = all_sent outs t.frames r.sent t.outs_are r.carry r.fit }

    client_turns : (k : ℕ) (left : List GroupMessage) (item : List ℕ) (old new : W) (outs : List IoEvent) (x : Agent) → StandsForClient size agent n nodes k old x → IsReached (group_actors n nodes) (ClientOf k) left (GroupClient x) → ClientTurn item old new outs → Come left item → TurnedSo (ClientOf k) left (GroupClient x) (ForClient new) outs
    client_turns k left item old new outs x is reached turn come =
        let number = ap (λ (z : Agent). z.node.number) is.is ∙ is.number in
        let t = client_runs.turn k item old new outs number is.size_is turn in
        let r = hands_all n nodes (ClientOf k) left (ShowsClient size agent) (StaysClient size agent) (StandsClient size agent n nodes k) (client_shown size agent n nodes k) (client_same size agent n nodes k)
        (client_next size agent n nodes k left) item come (GroupClient x) reached old new t.frames is t.hands in
        record { actor = r.actor; after = r.after; sent = r.sent; takes = r.takes; shows = r.is_so; sends = all_sent outs t.frames r.sent t.outs_are r.carry r.fit }

    turns : (k : Who) (left : List GroupMessage) (item : List ℕ) (old new : ByKind V W) (outs : List IoEvent) (a : GroupActor) → StandsAs k old a → IsReached (group_actors n nodes) k left a → Both.Turn item old new outs → Come left item → TurnedSo k left a new outs
    turns (ServerOf i) left item (ForServer old) (ForServer new) outs (GroupServer s) is reached turn come = server_turns i left item old new outs s is reached turn come
    turns (ServerOf i) left item (ForServer old) (ForServer new) outs (GroupClient x) is reached turn come = absurd is
    turns (ServerOf i) left item (ForServer old) (ForClient new) outs a is reached turn come = absurd turn
    turns (ServerOf i) left item (ForClient old) new outs a is reached turn come = absurd is
    turns (ClientOf k) left item (ForServer old) new outs a is reached turn come = absurd is
    turns (ClientOf k) left item (ForClient old) (ForServer new) outs a is reached turn come = absurd turn
    turns (ClientOf k) left item (ForClient old) (ForClient new) outs (GroupServer s) is reached turn come = absurd is
    turns (ClientOf k) left item (ForClient old) (ForClient new) outs (GroupClient x) is reached turn come = client_turns k left item old new outs x is reached turn come

    joins : Joins Both (group_actors n nodes) StandsAs KeepsAs CarriesFitting
    joins = record {
      same_name = same_name;
      is_one = is_one;
      first = first;
      reads = reads;
      shows = shows_begun;
      keeps = keeps_stored_by;
      turns = turns;
    }

    actor_shown : (k : Who) (v : ByKind V W) (a : GroupActor) → StandsAs k v a → ShowsActor Shows agent k v a
    actor_shown (ServerOf i) (ForServer v) (GroupServer s) is = is.shows
    actor_shown (ServerOf i) (ForServer v) (GroupClient x) is = absurd is
    actor_shown (ServerOf i) (ForClient w) a is = absurd is
    actor_shown (ClientOf k) (ForServer v) a is = absurd is
    actor_shown (ClientOf k) (ForClient w) (GroupServer s) is = absurd is
    actor_shown (ClientOf k) (ForClient w) (GroupClient x) is = is.is

    -- what such processes send and report is of a group that keeps what is promised
    pub group_lives_keep_the_headline : (past : Past Who) (now : Who → Process (ByKind V W)) → Lived Both past now → HeadlineOfLives n nodes Shows agent Both past
    group_lives_keep_the_headline past now lived =
        let j = joined Both (group_actors n nodes) StandsAs KeepsAs CarriesFitting joins past now lived in
        record {
          before = j.before;
          last = j.last;
          execution = j.execution;
          keeps = keeps n nodes j.before j.last j.execution;
          outputs = λ k event is had.
              let r = j.outputs k event is had in
              record {
                item = r.item;
                old = r.old;
                new = r.new;
                outs = r.outs;
                turn = r.turn;
                among = r.among;
                before = r.before;
                after = r.after;
                shows_before = actor_shown k r.old r.before r.shows_before;
                shows_after = actor_shown k r.new r.after r.shows_after;
                such_before = r.such_before;
                such_after = r.such_after;
              };
        }
