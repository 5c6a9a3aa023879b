-- By the events that settle its log a group is settled, and its leader's desk is open.
use Rattle.std.proofs.Common.{◌≡◌, ℕ, suc, ◌<◌, ◌≤◌, inl, inr, Bool, true, ◌==◌, Some, Ok, List, [], ◌∷◌, ◌++◌, length, map, take, refl, sym, ap, ◌∙◌, subst, arith, slice_get, take_all, true≢false, append_assoc, append-nil}
use Rattle.std.proofs.lemmas.Bool.{and_from, eq-eqb, or_left, or_right}
use Rattle.rows.specs.declared.command.Command.{Command}
use Rattle.rows.specs.declared.node.NodeSpec.{NodeSpec}
use Rattle.machine_model.specs.declared.entry.Entry.{Entry}
use Rattle.raft_model.specs.Chains.{Agree}
use Rattle.raft_model.specs.Logs.{term_at}
use Rattle.raft_model.specs.Rafts.{Raft, is_up, is_leader}
use Rattle.raft_model.specs.Worlds as raft_worlds
use Rattle.raft_model.proofs.Cases.{same_ok}
use Rattle.raft_safety.proofs.Places.{get-last}
use Rattle.raft_progress.specs.Recovery as recoveries
use Rattle.raft_progress.specs.Recovery.{Recovery, CanSettle, Settled}
use Rattle.raft_progress.proofs.Leaders.{leader_facts}
use Rattle.fsm_model.specs.ClusterMachine.{cluster_spec}
use Rattle.group_model.specs.Inputs as inputs
use Rattle.group_model.specs.Messages.{GroupMessage, OfLog}
use Rattle.group_model.specs.Worlds.{World, Event, Deliver, AtServer, Run, IsEvent, happens, raft_of, raft_part, raft_messages}
use Rattle.group_safety.specs.Desks.{has_own, may_serve, DeskIs}
use Rattle.group_safety.specs.Limits.{NodesFit}
use Rattle.group_safety.proofs.LimitedRuns.{limited_runs}
use Rattle.group_safety.proofs.Lists.{map_get}
use Rattle.group_safety.proofs.Projections.{projection}
use Rattle.group_safety.proofs.DeskRuns.{desks}
use Rattle.group_progress.specs.GroupRecovery.{GroupRecovery, no_event, a_delivery, a_timeout, a_beat, HasOpenDesk}
use Rattle.world.specs.GroupView.{GroupView, nodes_of}
use Rattle.recovery.specs.declared.unsettled.Unsettled.{Unsettled}
use Rattle.recovery.specs.declared.unsettled.Unsettled.TheVariants.{NoQuorum, Exhausted, NoMemory, Crashed}
use Rattle.recovery.specs.Runs.{is_up_in, events_of, Settles}
use Rattle.recovery.specs.GroupSettling.{group_events_of, GroupSettles, GroupBegan, GroupFell, GroupGoes, WhyGroupUnsettled, IsGroupSettled}
use Rattle.recovery.specs.Inner.Drives.{Trail, Drove, WentOf, FellAfter, CameBy}
use Rattle.recovery.specs.Inner.Goings.{DriveSettled, WhyDriveUnsettled}
use Rattle.recovery.specs.Inner.Kinds.{GroupRuns, IsLogPlace, IsLogEvent, is_delivery, is_timeout, is_beat, GroupStep, group_drive}
use Rattle.recovery.proofs.Goings.{LastStep, last_step, trail_nil}
use Rattle.recovery.proofs.GroupSteps.{behind}
use Rattle.recovery.proofs.GroupDriving.{group_lawful}

-- ---- which event of the group it is

delivery_at : (x : World) (own : Event) (p : ℕ) → IsLogEvent x own (raft_worlds.Deliver p) → (q : ℕ) × (own ≡ Deliver q) × IsLogPlace x q p
delivery_at x own p (is_delivery q p2 a) = (q, refl, a)

timeout_at : (x : World) (own : Event) (i : ℕ) → IsLogEvent x own (raft_worlds.TimesOut i) → own ≡ AtServer i inputs.Timeout
timeout_at x own i (is_timeout j) = refl

beat_at : (x : World) (own : Event) (i : ℕ) → IsLogEvent x own (raft_worlds.Beats i) → own ≡ AtServer i inputs.Beat
beat_at x own i (is_beat j) = refl

-- ---- a recovery of the log, of which these were the group's events

pub record Followed (i : ℕ) (w : World) (ts : List Event) (t b : ℕ) (y : raft_worlds.World Command) (v : World) : Type 0 where
  pub recovery : GroupRecovery i w t b v
  pub events : group_events_of i w t b v recovery ≡ ts
  pub log : raft_of v ≡ y
  pub rest : List GroupMessage
  pub sent : v.sent ≡ w.sent ++ rest

module _ (i : ℕ) (w : World) where
  none_followed : (ts : List Event) (v : World) → (ts ≡ []) × (v ≡ w) → Followed i w ts 0 0 (raft_of w) v
  unfolding group_events_of
  none_followed ts v n =
      subst (λ z. Followed i w ts 0 0 (raft_of w) z) (sym n.1) (subst (λ l. Followed i w l 0 0 (raft_of w) w) (sym n.0)
      (record { recovery = no_event; events = refl; log = refl; rest = []; sent = sym (append-nil w.sent) }))

  module _ (ts : List Event) (es : List (raft_worlds.Event Command)) (v : World) (t b : ℕ) (x : raft_worlds.World Command) (y : raft_worlds.World Command) where
    -- what was sent, and the log
    sent_on : (before : World) (f : raft_worlds.Event Command) (own : Event) (early : List Event) → (q : Followed i w early t b x before) → GroupStep before own f v → (rest : List GroupMessage) × (v.sent ≡ w.sent ++ rest)
    sent_on before f own early q s = (q.rest ++ map OfLog s.messages, s.sent ∙ (ap (λ l. l ++ map OfLog s.messages) q.sent ∙ append_assoc w.sent q.rest (map OfLog s.messages)))

    log_on : (before : World) (f : raft_worlds.Event Command) (own : Event) (early : List Event) → (q : Followed i w early t b x before) → GroupStep before own f v → raft_worlds.happens cluster_spec x f ≡ Ok y → raft_of v ≡ y
    log_on before f own early q s h = same_ok _ _ (sym s.log ∙ (ap (λ z. raft_worlds.happens cluster_spec z f) q.log ∙ h))

    delivery_followed : (place : ℕ) (l : LastStep cluster_spec group_drive group_lawful w ts es (raft_worlds.Deliver place) v) → Followed i w l.earlier t b x l.before → length (raft_messages w.sent) ≤ place → raft_worlds.happens cluster_spec x (raft_worlds.Deliver place) ≡ Ok y → Followed i w ts t b y v
    unfolding group_events_of
    delivery_followed place l q since h =
        let s = l.step in
        let a = delivery_at l.before l.own place s.is in
        let at = a.2 in
        let m = sent_on l.before (raft_worlds.Deliver place) l.own l.earlier q s in
        let new : length w.sent ≤ a.0 = behind w.sent q.rest a.0 at.message (ap (λ z. slice_get z a.0) (sym q.sent) ∙ at.at) (omega (arith, since, at.place_is, ap (λ z. length (raft_messages (take a.0 z))) q.sent)) in
        record {
          recovery = a_delivery a.0 v q.recovery new (subst (λ e. IsEvent l.before e) a.1 s.fits) (subst (λ e. happens l.before e ≡ Ok v) a.1 s.happens);
          events = ap (λ z. z ++ Deliver a.0 ∷ []) q.events ∙ (ap (λ e. l.earlier ++ e ∷ []) (sym a.1) ∙ sym l.taken_are);
          log = log_on l.before (raft_worlds.Deliver place) l.own l.earlier q s h;
          rest = m.0;
          sent = m.1;
        }

    timeout_followed : (l : LastStep cluster_spec group_drive group_lawful w ts es (raft_worlds.TimesOut i) v) → Followed i w l.earlier t b x l.before → raft_worlds.happens cluster_spec x (raft_worlds.TimesOut i) ≡ Ok y → Followed i w ts (suc t) b y v
    unfolding group_events_of
    timeout_followed l q h =
        let s = l.step in
        let a = timeout_at l.before l.own i s.is in
        let m = sent_on l.before (raft_worlds.TimesOut i) l.own l.earlier q s in
        record {
          recovery = a_timeout v q.recovery (subst (λ e. IsEvent l.before e) a s.fits) (subst (λ e. happens l.before e ≡ Ok v) a s.happens);
          events = ap (λ z. z ++ AtServer i inputs.Timeout ∷ []) q.events ∙ (ap (λ e. l.earlier ++ e ∷ []) (sym a) ∙ sym l.taken_are);
          log = log_on l.before (raft_worlds.TimesOut i) l.own l.earlier q s h;
          rest = m.0;
          sent = m.1;
        }

    beat_followed : (l : LastStep cluster_spec group_drive group_lawful w ts es (raft_worlds.Beats i) v) → Followed i w l.earlier t b x l.before → raft_worlds.happens cluster_spec x (raft_worlds.Beats i) ≡ Ok y → Followed i w ts t (suc b) y v
    unfolding group_events_of
    beat_followed l q h =
        let s = l.step in
        let a = beat_at l.before l.own i s.is in
        let m = sent_on l.before (raft_worlds.Beats i) l.own l.earlier q s in
        record {
          recovery = a_beat v q.recovery (subst (λ e. IsEvent l.before e) a s.fits) (subst (λ e. happens l.before e ≡ Ok v) a s.happens);
          events = ap (λ z. z ++ AtServer i inputs.Beat ∷ []) q.events ∙ (ap (λ e. l.earlier ++ e ∷ []) (sym a) ∙ sym l.taken_are);
          log = log_on l.before (raft_worlds.Beats i) l.own l.earlier q s h;
          rest = m.0;
          sent = m.1;
        }

  pub follow : (t b : ℕ) (y : raft_worlds.World Command) (r : Recovery cluster_spec i (raft_of w) t b y) (ts : List Event) (v : World) → Trail group_drive w ts (events_of cluster_spec i (raft_of w) t b y r) v → Followed i w ts t b y v
  unfolding events_of
  follow t b y recoveries.no_event ts v p = none_followed ts v (trail_nil cluster_spec group_drive group_lawful w ts [] v p refl)
  follow t b y (recoveries.a_delivery {t = t1} {b = b1} {x = x} place y2 c since h) ts v p =
      let es = events_of cluster_spec i (raft_of w) t1 b1 x c in
      let l = last_step cluster_spec group_drive group_lawful w ts (es ++ raft_worlds.Deliver place ∷ []) v p es (raft_worlds.Deliver place) refl in
      delivery_followed ts es v t1 b1 x y2 place l (follow t1 b1 x c l.earlier l.before l.path) since h
  follow t b y (recoveries.a_timeout {t = t1} {b = b1} {x = x} y2 c h) ts v p =
      let es = events_of cluster_spec i (raft_of w) t1 b1 x c in
      let l = last_step cluster_spec group_drive group_lawful w ts (es ++ raft_worlds.TimesOut i ∷ []) v p es (raft_worlds.TimesOut i) refl in
      timeout_followed ts es v t1 b1 x y2 l (follow t1 b1 x c l.earlier l.before l.path) h
  follow t b y (recoveries.a_beat {t = t1} {b = b1} {x = x} y2 c h) ts v p =
      let es = events_of cluster_spec i (raft_of w) t1 b1 x c in
      let l = last_step cluster_spec group_drive group_lawful w ts (es ++ raft_worlds.Beats i ∷ []) v p es (raft_worlds.Beats i) refl in
      beat_followed ts es v t1 b1 x y2 l (follow t1 b1 x c l.earlier l.before l.path) h

-- ---- the desk

-- a log that ends in an entry of this term has one
ends_own : (log : List (Entry Command)) (t : ℕ) → 1 ≤ length log → term_at log (length log) ≡ t → has_own t log ≡ true
unfolding term_at
ends_own [] t some last = absurd (omega (arith, some))
ends_own (x ∷ []) t some last = or_left (x.term == t) (has_own t []) (eq-eqb x.term t last)
ends_own (x ∷ y ∷ ys) t some last = or_right (x.term == t) (has_own t (y ∷ ys)) (ends_own (y ∷ ys) t (omega arith) last)

-- that of a leader which has committed all of its log is open
open_desk : (n : ℕ) (nodes : List NodeSpec) (events : List Event) (past : List World) (v : World) → Run n nodes events past v → (i : ℕ) → Settled i (raft_of v) → HasOpenDesk i v
open_desk n nodes events past v run i l =
    let q = projection n nodes events past v run in
    let f = leader_facts cluster_spec n (raft_of v) (record { events = q.log_events; past = q.log_past; run = q.run }) i l.server l.next l.match l.here l.mode in
    let at = map_get raft_part v.servers i l.server l.here in
    let d : DeskIs at.0 = desks n nodes events past v run (length past) i at.0 (record { world = v; world_is = get-last past v; here = at.1 }) in
    let own : has_own l.server.term (take l.server.commit l.server.log) ≡ true =
    ap (has_own l.server.term) (take_all l.server.commit l.server.log (omega (arith, l.whole))) ∙ ends_own l.server.log l.server.term f.some f.last in
    let serves : may_serve (at.0).raft ≡ true =
    ap may_serve at.2 ∙ and_from (is_leader l.server.mode) (has_own l.server.term (take l.server.commit l.server.log)) (ap is_leader l.mode) own in
    elim d [
      | inl closed ↦ absurd (true≢false (sym serves ∙ closed.1))
      | inr open_d ↦ record { server = at.0; here = at.1; desk = open_d.0; is_open = open_d.1; mirrors = open_d.3 }
    ]

-- ---- what is answered

-- that server leads with all committed, and all that are up have applied as much
record AllSettled (n : ℕ) (Q : ℕ → Bool) (who : ℕ) (server : Raft Command) (z : raft_worlds.World Command) : Type 0 where
  settled : Settled who z
  keeps : Agree (length server.log) server.log settled.server.log
  applied : (j : ℕ) → j < n → Q j ≡ true → (s : Raft Command) × (slice_get z.servers j ≡ Some s) × (is_up s.mode ≡ true) × (length settled.server.log ≤ s.commit)

module _ (view : GroupView) (past : List World) (v : World) (runs : GroupRuns view past v) where
  desk_open : (i : ℕ) → Settled i (raft_of v) → HasOpenDesk i v
  desk_open i l =
      let r = runs.runs in
      let n = length view.servers in
      open_desk n (nodes_of view) view.trace past v (limited_runs n (nodes_of view) view.trace past v runs.nodes r.run) i l

  pub group_settles : (n who : ℕ) (ts : List Event) (w : World) → Drove group_drive ts w v (λ es x y. Settles cluster_spec n who es x y) → GroupSettles n who ts w v
  group_settles n who ts w a =
      let s = a.told in
      let c = s.can in
      let f = follow c.who w c.timeouts c.beats c.world c.recovery ts v (subst (λ l. Trail group_drive w ts l v) (sym s.taken_are) a.path) in
      let all : AllSettled n (is_up_in (raft_of w)) c.who c.server (raft_of v) = subst (λ z. AllSettled n (is_up_in (raft_of w)) c.who c.server z) (sym f.log) (record { settled = c.settled; keeps = c.keeps; applied = c.applied }) in
      record {
        can = record {
          who = c.who;
          below = c.below;
          member = c.member;
          server = c.server;
          here = c.here;
          timeouts = c.timeouts;
          beats = c.beats;
          world = v;
          recovery = f.recovery;
          few_timeouts = c.few_timeouts;
          few_beats = c.few_beats;
          settled = all.settled;
          keeps = all.keeps;
          applied = all.applied;
          desk = desk_open c.who all.settled;
        };
        who_is = s.who_is;
        world_is = refl;
        taken_are = f.events;
      }

group_began : (i : ℕ) (ts : List Event) (w v : World) → CameBy group_drive cluster_spec i ts w v → GroupBegan ts w v
group_began i ts w v a =
    let c = a.told in
    let way = c.way in
    let f = follow i w c.timeouts c.beats (raft_of v) way.recovery ts v (subst (λ l. Trail group_drive w ts l v) (sym way.events) a.path) in
    record { who = i; timeouts = c.timeouts; beats = c.beats; recovery = f.recovery; taken_are = f.events }

group_fell : (i who : ℕ) (ts : List Event) (w v : World) → FellAfter group_drive (CameBy group_drive cluster_spec i) who ts w v → GroupFell who ts w v
group_fell i who ts w v a =
    let f = a.falls in
    record {
      before = a.before;
      calm = a.calm;
      began = group_began i a.calm w a.before a.came;
      event = f.event;
      actor = f.actor;
      lacking = f.lacking;
      crash = f.crash;
      taken_are = a.taken_are ∙ ap (λ z. a.calm ++ z ∷ []) f.own_is;
    }

module _ (old new : GroupView) (fit : NodesFit (nodes_of old)) where
  group_goes : (R1 R : List Event → World → World → Type 0) → WentOf group_drive old new R1 → ((past : List World) (ts : List Event) (w v : World) → GroupRuns new past v → R1 ts w v → R ts w v) → GroupGoes old new R
  group_goes R1 R g f =
      let one = g.1 in
      let stays = one.stays in (
        g.0,
        record {
          size = one.size;
          nodes = stays.nodes;
          work = stays.work;
          trace = one.trace;
          runs = λ past w r.
              let x = one.runs past w (record { runs = r; nodes = fit }) in
              let there = x.2 in
              (x.0, x.1, there.runs, f (past ++ x.0) g.0 w x.1 x.2 x.3);
        },
      )

  pub is_group_settled : (who : ℕ) → DriveSettled group_drive cluster_spec old new who → IsGroupSettled old new who
  is_group_settled who s = record {
    quorum = λ past w r. s.quorum past w (record { runs = r; nodes = fit });
    room = λ past w r. s.room past w (record { runs = r; nodes = fit });
    went = group_goes _ (λ ts w v. GroupSettles (length old.servers) who ts w v) s.went (λ past ts w v r a. group_settles new past v r (length old.servers) who ts w a);
  }

  pub why_group_unsettled : (why : Unsettled) → WhyDriveUnsettled group_drive cluster_spec old new why → WhyGroupUnsettled old new why
  why_group_unsettled NoQuorum h = (λ past w r. h.0 past w (record { runs = r; nodes = fit }), h.1)
  why_group_unsettled Exhausted h = (λ past w r. h.0 past w (record { runs = r; nodes = fit }), λ past w r. h.1 past w (record { runs = r; nodes = fit }), h.2)
  why_group_unsettled NoMemory h = (
    λ past w r. h.quorum past w (record { runs = r; nodes = fit }),
    λ past w r. h.room past w (record { runs = r; nodes = fit }),
    group_goes _ (λ ts w v. GroupBegan ts w v) h.stops (λ past ts w v r a. group_began h.who ts w v a),
  )
  why_group_unsettled (Crashed who) h = (
    λ past w r. h.quorum past w (record { runs = r; nodes = fit }),
    λ past w r. h.room past w (record { runs = r; nodes = fit }),
    group_goes _ (λ ts w v. GroupFell who ts w v) h.stops (λ past ts w v r a. group_fell h.who who ts w v a),
  )
