-- What makes the log's part of a group recover makes the group do so.
use Rattle.std.proofs.Common.{◌≡◌, ℕ, zero, suc, inl, inr, true, false, Option, Some, None, Result, Ok, Err, List, [], ◌∷◌, ◌++◌, length, map, ◌≤◌, refl, sym, ap, ◌∙◌, subst, arith, slice_get, slice_set, append_assoc, append-nil}
use Rattle.rows.specs.declared.command.Command.{Command}
use Rattle.rows.specs.declared.refusal.Refusal.{Refusal}
use Rattle.raft_model.specs.Messages.{Message}
use Rattle.raft_model.specs.Rafts.{Raft, RaftTurn, is_up}
use Rattle.raft_model.specs.Steps as raft_steps
use Rattle.raft_model.specs.Worlds as raft_worlds
use Rattle.raft_model.proofs.Cases.{bool_cases, same_ok}
use Rattle.raft_progress.specs.Recovery as recoveries
use Rattle.raft_progress.specs.Recovery.{Recovery, AfterRestarts}
use Rattle.fsm_model.specs.ClusterMachine.{cluster_spec}
use Rattle.group_model.specs.Messages.{GroupMessage, OfLog, Service}
use Rattle.group_model.specs.Inputs as inputs
use Rattle.group_model.specs.Inputs.{Act, rests, asks, input_of, AskTimeout, AskHeartbeat, AskRestart}
use Rattle.group_model.specs.Desks.{desk_after}
use Rattle.group_model.specs.Servers.{Server, logged, done, decides}
use Rattle.group_model.specs.Worlds.{World, Event, Deliver, AtServer, IsEvent, LogEventFits, happens, after_turn, message_to, input_to, delivers, raft_of, raft_part, raft_messages, raft_delivery, event_at, asked_of, log_request}
use Rattle.group_progress.specs.GroupRecovery.{GroupRecovery, no_event, a_delivery, a_timeout, a_beat, GroupAfterRestarts, no_restart, a_restart}
use Rattle.group_safety.proofs.Lists.{map_get, map_set, map_length, messages_append, messages_turn}

-- a message of the log was sent by the group
message_back : (xs : List GroupMessage) (k : ℕ) (m : Message Command) → slice_get (raft_messages xs) k ≡ Some m → (q : ℕ) × (slice_get xs q ≡ Some (OfLog m))
message_back [] k m h = absurd (cc)
message_back (OfLog x ∷ xs) zero m h = (0, cc)
message_back (OfLog x ∷ xs) (suc k) m h = let r = message_back xs k m h in (suc r.0, r.1)
message_back (Service x ∷ xs) k m h = let r = message_back xs k m h in (suc r.0, r.1)

-- one that is none of the first is none of the group's first
message_behind : (front rest : List GroupMessage) (k : ℕ) (m : Message Command) → length (raft_messages front) ≤ k → slice_get (raft_messages (front ++ rest)) k ≡ Some m →
    (q : ℕ) × (length front ≤ q) × (slice_get (front ++ rest) q ≡ Some (OfLog m))
message_behind [] rest k m le h = let r = message_back rest k m h in (r.0, omega arith, r.1)
message_behind (OfLog x ∷ front) rest zero m le h = absurd (omega (arith, le))
message_behind (OfLog x ∷ front) rest (suc k) m le h = let r = message_behind front rest k m (omega (arith, le)) h in (suc r.0, omega (arith, r.1), r.2)
message_behind (Service x ∷ front) rest k m le h = let r = message_behind front rest k m le h in (suc r.0, omega (arith, r.1), r.2)

-- the group went on sending
abbrev pub SentMore : World → World → Type 0
SentMore w v = (rest : List GroupMessage) × (v.sent ≡ w.sent ++ rest)

sent_on : (w v u : World) → SentMore w v → SentMore v u → SentMore w u
sent_on w v u a b = (a.0 ++ b.0, b.1 ∙ (ap (λ l. l ++ b.0) a.1 ∙ append_assoc w.sent a.0 b.0))

module _ (w : World) where
  -- the group after server i's turn
  after : ℕ → Server → Act → RaftTurn Command → World
  after i s act turn = record w {
    servers = slice_set w.servers i (record { raft = turn.server; desk = desk_after s.raft turn.server act.desk });
    sent = w.sent ++ (map OfLog turn.sent ++ map Service act.sent);
  }

  -- the log's part of it
  after_log : (i : ℕ) (s : Server) (act : Act) (turn : RaftTurn Command) → raft_of (after i s act turn) ≡ record { servers = slice_set (map raft_part w.servers) i turn.server; sent = raft_messages w.sent ++ turn.sent }
  unfolding after
  after_log i s act turn = λ j. record {
    servers = map_set raft_part w.servers i (record { raft = turn.server; desk = desk_after s.raft turn.server act.desk }) j;
    sent = (messages_append w.sent (map OfLog turn.sent ++ map Service act.sent) ∙ ap (λ l. raft_messages w.sent ++ l) (messages_turn turn.sent act.sent)) j;
  }

  -- an event of the group that is this one of the log
  record Lifted (e : Event) (y : raft_worlds.World Command) : Type 0 where
    world : World
    is : IsEvent w e
    happens : happens w e ≡ Ok world
    log : raft_of world ≡ y
    sent : SentMore w world

  -- a step of the log
  module _ (i : ℕ) (r : Raft Command) (s : Server) (here : slice_get w.servers i ≡ Some s) (its : s.raft ≡ r) (input : raft_steps.Input Command) (y : raft_worlds.World Command) where
    by_turn : (act : Act) (e : Event) (res : Result (RaftTurn Command) Refusal) → IsEvent w e → raft_steps.step cluster_spec (length (map raft_part w.servers)) i r input ≡ res →
        (happens w e ≡ after_turn w i (logged s act (raft_steps.step cluster_spec (length w.servers) i s.raft input))) →
        raft_worlds.after_turn cluster_spec (raft_of w) i res ≡ Ok y → Lifted e y
    unfolding after
    by_turn act e (Err x) is step_is group h = absurd (cc)
    by_turn act e (Ok turn) is step_is group h = record {
      world = after i s act turn;
      is = is;
      happens = group ∙ ap (λ z. after_turn w i (logged s act z)) (ap (λ c. raft_steps.step cluster_spec c i s.raft input) (sym (map_length raft_part w.servers)) ∙ (ap (λ z. raft_steps.step cluster_spec (length (map raft_part w.servers)) i z input) its ∙ step_is));
      log = after_log i s act turn ∙ same_ok _ _ h;
      sent = (map OfLog turn.sent ++ map Service act.sent, refl);
    }

  -- a message
  delivery_to : (m : Message Command) (q : ℕ) → slice_get w.sent q ≡ Some (OfLog m) → (o : Option (Raft Command)) → slice_get (map raft_part w.servers) m.to ≡ o → (y : raft_worlds.World Command) →
      raft_worlds.input_to cluster_spec (raft_of w) m.to (raft_steps.Arrives m) o ≡ Ok y → Lifted (Deliver q) y
  delivery_to m q at None there y h = absurd (cc)
  delivery_to m q at (Some r) there y h =
      let g = map_get raft_part w.servers m.to r there in
      by_turn m.to r g.0 g.1 g.2 (raft_steps.Arrives m) y (rests (g.0).desk) (Deliver q) _ (subst (λ o. LogEventFits (raft_delivery w q o)) (sym at) tt) refl
      (ap (delivers w) at ∙ ap (message_to w m.to m) g.1) h

  delivery : (front rest : List GroupMessage) → w.sent ≡ front ++ rest → (k : ℕ) → length (raft_messages front) ≤ k → (o : Option (Message Command)) → slice_get (raft_messages w.sent) k ≡ o →
      (y : raft_worlds.World Command) → raft_worlds.delivers cluster_spec (raft_of w) o ≡ Ok y → (q : ℕ) × (length front ≤ q) × Lifted (Deliver q) y
  delivery front rest so k since None at y h = absurd (cc)
  delivery front rest so k since (Some m) at y h =
      let q = message_behind front rest k m since (ap (λ l. slice_get (raft_messages l) k) (sym so) ∙ at) in
      (q.0, q.1, delivery_to m q.0 (ap (λ l. slice_get l q.0) so ∙ q.2) (slice_get (map raft_part w.servers) m.to) refl y h)

  -- a timeout
  timeout_to : (i : ℕ) (o : Option (Raft Command)) → slice_get (map raft_part w.servers) i ≡ o → (y : raft_worlds.World Command) → raft_worlds.input_to cluster_spec (raft_of w) i raft_steps.Timeout o ≡ Ok y → Lifted (AtServer i inputs.Timeout) y
  timeout_to i None there y h = absurd (cc)
  timeout_to i (Some r) there y h = elim (bool_cases (is_up r.mode)) [
    | inr off ↦ absurd (let q = rw off at h in cc)
    | inl on ↦
        let g = map_get raft_part w.servers i r there in
        let s = g.0 in
        let up : is_up s.raft.mode ≡ true = ap (λ (z : Raft Command). is_up z.mode) g.2 ∙ on in
        let d : decides (length w.servers) i s inputs.Timeout ≡ Ok (asks AskTimeout s.desk) = rw up refl in
        by_turn i r s g.1 g.2 raft_steps.Timeout y (asks AskTimeout s.desk) (AtServer i inputs.Timeout) _
        (subst (λ o. LogEventFits (event_at i (asked_of w i inputs.Timeout o))) (sym g.1) (subst (λ z. LogEventFits (event_at i (log_request z))) (sym d) tt)) refl
        (ap (input_to w i inputs.Timeout) g.1 ∙ ap (λ z. after_turn w i (done (length w.servers) i s z)) d) h
  ]

  -- a restart
  restart_to : (i : ℕ) (o : Option (Raft Command)) → slice_get (map raft_part w.servers) i ≡ o → (y : raft_worlds.World Command) → raft_worlds.input_to cluster_spec (raft_of w) i raft_steps.Restart o ≡ Ok y → Lifted (AtServer i inputs.Restart) y
  restart_to i None there y h = absurd (cc)
  restart_to i (Some r) there y h = elim (bool_cases (is_up r.mode)) [
    | inl on ↦ absurd (let q = rw on at h in cc)
    | inr off ↦
        let g = map_get raft_part w.servers i r there in
        let s = g.0 in
        let up : is_up s.raft.mode ≡ false = ap (λ (z : Raft Command). is_up z.mode) g.2 ∙ off in
        let d : decides (length w.servers) i s inputs.Restart ≡ Ok (asks AskRestart s.desk) = rw up refl in
        by_turn i r s g.1 g.2 raft_steps.Restart y (asks AskRestart s.desk) (AtServer i inputs.Restart) _
        (subst (λ o. LogEventFits (event_at i (asked_of w i inputs.Restart o))) (sym g.1) (subst (λ z. LogEventFits (event_at i (log_request z))) (sym d) tt)) refl
        (ap (input_to w i inputs.Restart) g.1 ∙ ap (λ z. after_turn w i (done (length w.servers) i s z)) d) h
  ]

  -- a beat
  beat_to : (i : ℕ) (o : Option (Raft Command)) → slice_get (map raft_part w.servers) i ≡ o → (y : raft_worlds.World Command) → raft_worlds.input_to cluster_spec (raft_of w) i raft_steps.Beat o ≡ Ok y → Lifted (AtServer i inputs.Beat) y
  beat_to i None there y h = absurd (cc)
  beat_to i (Some r) there y h = elim (bool_cases (is_up r.mode)) [
    | inr off ↦ absurd (let q = rw off at h in cc)
    | inl on ↦
        let g = map_get raft_part w.servers i r there in
        let s = g.0 in
        let up : is_up s.raft.mode ≡ true = ap (λ (z : Raft Command). is_up z.mode) g.2 ∙ on in
        let d : decides (length w.servers) i s inputs.Beat ≡ Ok (asks AskHeartbeat s.desk) = rw up refl in
        by_turn i r s g.1 g.2 raft_steps.Beat y (asks AskHeartbeat s.desk) (AtServer i inputs.Beat) _
        (subst (λ o. LogEventFits (event_at i (asked_of w i inputs.Beat o))) (sym g.1) (subst (λ z. LogEventFits (event_at i (log_request z))) (sym d) tt)) refl
        (ap (input_to w i inputs.Beat) g.1 ∙ ap (λ z. after_turn w i (done (length w.servers) i s z)) d) h
  ]

-- a recovery
pub record Follows (i : ℕ) (w : World) (t b : ℕ) (y : raft_worlds.World Command) : Type 0 where
  pub world : World
  pub recovery : GroupRecovery i w t b world
  pub log : raft_of world ≡ y
  pub sent : SentMore w world

pub follows : (i : ℕ) (w : World) (t b : ℕ) (y : raft_worlds.World Command) → Recovery cluster_spec i (raft_of w) t b y → Follows i w t b y
follows i w t b y recoveries.no_event = record { world = w; recovery = no_event; log = refl; sent = ([], sym (append-nil w.sent)) }
follows i w t b y (recoveries.a_delivery {t = t2} {b = b2} {x = x} place y2 c since h) =
    let p = follows i w t2 b2 x c in
    let d = delivery p.world w.sent p.sent.0 p.sent.1 place since _ refl y2 (subst (λ z. raft_worlds.happens cluster_spec z (raft_worlds.Deliver place) ≡ Ok y2) (sym p.log) h) in
    record { world = d.2.world; recovery = a_delivery d.0 d.2.world p.recovery d.1 d.2.is d.2.happens; log = d.2.log; sent = sent_on w p.world d.2.world p.sent d.2.sent }
follows i w t b y (recoveries.a_timeout {t = t2} {b = b2} {x = x} y2 c h) =
    let p = follows i w t2 b2 x c in
    let d = timeout_to p.world i _ refl y2 (subst (λ z. raft_worlds.happens cluster_spec z (raft_worlds.TimesOut i) ≡ Ok y2) (sym p.log) h) in
    record { world = d.world; recovery = a_timeout d.world p.recovery d.is d.happens; log = d.log; sent = sent_on w p.world d.world p.sent d.sent }
follows i w t b y (recoveries.a_beat {t = t2} {b = b2} {x = x} y2 c h) =
    let p = follows i w t2 b2 x c in
    let d = beat_to p.world i _ refl y2 (subst (λ z. raft_worlds.happens cluster_spec z (raft_worlds.Beats i) ≡ Ok y2) (sym p.log) h) in
    record { world = d.world; recovery = a_beat d.world p.recovery d.is d.happens; log = d.log; sent = sent_on w p.world d.world p.sent d.sent }

-- restarts
pub record RestartedTo (w : World) (c : ℕ) (y : raft_worlds.World Command) : Type 0 where
  pub world : World
  pub restarted : GroupAfterRestarts w c world
  pub log : raft_of world ≡ y

pub restarts_to : (w : World) (c : ℕ) (y : raft_worlds.World Command) → AfterRestarts cluster_spec (raft_of w) c y → RestartedTo w c y
restarts_to w c y recoveries.no_restart = record { world = w; restarted = no_restart; log = refl }
restarts_to w c y (recoveries.a_restart {c = fewer} {x = x} i y2 p h) =
    let old = restarts_to w fewer x p in
    let d = restart_to old.world i _ refl y2 (subst (λ z. raft_worlds.happens cluster_spec z (raft_worlds.Restarts i) ≡ Ok y2) (sym old.log) h) in
    record { world = d.world; restarted = a_restart i d.world old.restarted d.is d.happens; log = d.log }
