-- A group settles as its log does, and its leader's desk is open then.
use Rattle.std.proofs.Common.{◌≡◌, ℕ, ◌<◌, ◌≤◌, inl, inr, Bool, true, ◌==◌, Some, Ok, List, [], ◌∷◌, ◌++◌, length, take, sym, ap, ◌∙◌, subst, arith, slice_get, take_all, true≢false}
use Rattle.std.proofs.lemmas.Bool.{and_from, eq-eqb, or_left, or_right}
use Rattle.rows.specs.declared.node.NodeSpec.{NodeSpec}
use Rattle.rows.specs.declared.command.Command.{Command}
use Rattle.machine_model.specs.declared.entry.Entry.{Entry}
use Rattle.raft_model.specs.Logs.{term_at}
use Rattle.raft_model.specs.Chains.{Agree}
use Rattle.raft_model.specs.Quorums.{Quorum}
use Rattle.raft_model.specs.Rafts.{Raft, is_up, is_leader}
use Rattle.raft_model.specs.Worlds as raft_worlds
use Rattle.raft_safety.proofs.Places.{get-last}
use Rattle.raft_progress.specs.Recovery.{AllUp, HasRoom, Settled, CanSettle, everybody}
use Rattle.raft_progress.proofs.Leaders.{leader_facts}
use Rattle.raft_progress.proofs.Never.{never_stuck}
use Rattle.raft_progress.proofs.Recovering.{can_recover}
use Rattle.fsm_model.specs.ClusterMachine.{cluster_spec}
use Rattle.group_model.specs.Inputs as inputs
use Rattle.group_model.specs.Worlds.{World, Event, Deliver, AtServer, Run, more, IsEvent, happens, raft_of, raft_part}
use Rattle.group_safety.specs.Desks.{has_own, may_serve, DeskIs}
use Rattle.group_safety.proofs.Lists.{map_get}
use Rattle.group_safety.proofs.Projections.{projection}
use Rattle.group_safety.proofs.DeskRuns.{desks}
use Rattle.group_progress.specs.GroupRecovery.{GroupRecovery, no_event, a_delivery, a_timeout, a_beat, GroupAfterRestarts, no_restart, a_restart, HasOpenDesk, GroupCanSettle, GroupCanRecover}
use Rattle.fsm_model.proofs.ClusterMachine.{cluster_lawful}
use Rattle.group_progress.proofs.Lifts.{follows, restarts_to}

-- a log that ends in an entry of this term has one
ends_own : (log : List (Entry Command)) (t : ℕ) → 1 ≤ length log → term_at log (length log) ≡ t → has_own t log ≡ true
unfolding term_at
ends_own [] t some last = absurd (omega (arith, some))
ends_own (x ∷ []) t some last = or_left (x.term == t) (has_own t []) (eq-eqb x.term t last)
ends_own (x ∷ y ∷ ys) t some last = or_right (x.term == t) (has_own t (y ∷ ys)) (ends_own (y ∷ ys) t (omega arith) last)

-- there is a run of the group to this world
record GroupReached (n : ℕ) (nodes : List NodeSpec) (w : World) : Type 0 where
  events : List Event
  past : List World
  run : Run n nodes events past w

module _ (n : ℕ) (nodes : List NodeSpec) where
  next_reached : (w : World) (e : Event) (y : World) → GroupReached n nodes w → IsEvent w e → happens w e ≡ Ok y → GroupReached n nodes y
  next_reached w e y r is h = record { events = r.events ++ e ∷ []; past = r.past ++ w ∷ []; run = more e y r.run is h }

  recovery_reached : (i : ℕ) (w : World) (t b : ℕ) (v : World) → GroupReached n nodes w → GroupRecovery i w t b v → GroupReached n nodes v
  recovery_reached i w t b v r no_event = r
  recovery_reached i w t b v r (a_delivery {t = t2} {b = b2} {x = x} place y c since is h) = next_reached x (Deliver place) y (recovery_reached i w t2 b2 x r c) is h
  recovery_reached i w t b v r (a_timeout {t = t2} {b = b2} {x = x} y c is h) = next_reached x (AtServer i inputs.Timeout) y (recovery_reached i w t2 b2 x r c) is h
  recovery_reached i w t b v r (a_beat {t = t2} {b = b2} {x = x} y c is h) = next_reached x (AtServer i inputs.Beat) y (recovery_reached i w t2 b2 x r c) is h

  restarts_reached : (w : World) (c : ℕ) (v : World) → GroupReached n nodes w → GroupAfterRestarts w c v → GroupReached n nodes v
  restarts_reached w c v r no_restart = r
  restarts_reached w c v r (a_restart {c = c2} {x = x} i y p is h) = next_reached x (AtServer i inputs.Restart) y (restarts_reached w c2 x r p) is h

  -- the desk of a leader that has committed all of its log is open
  open_desk : (i : ℕ) (v : World) → GroupReached n nodes v → Settled i (raft_of v) → HasOpenDesk i v
  open_desk i v r l =
      let q = projection n nodes r.events r.past v r.run in
      let f = leader_facts cluster_spec n (raft_of v) (record { events = q.log_events; past = q.log_past; run = q.run }) i l.server l.next l.match l.here l.mode in
      let at = map_get raft_part v.servers i l.server l.here in
      let d : DeskIs at.0 = desks n nodes r.events r.past v r.run (length r.past) i at.0 (record { world = v; world_is = get-last r.past v; here = at.1 }) in
      let own : has_own l.server.term (take l.server.commit l.server.log) ≡ true =
      ap (has_own l.server.term) (take_all l.server.commit l.server.log (omega (arith, l.whole))) ∙ ends_own l.server.log l.server.term f.some f.last in
      let serves : may_serve (at.0).raft ≡ true =
      ap may_serve at.2 ∙ and_from (is_leader l.server.mode) (has_own l.server.term (take l.server.commit l.server.log)) (ap is_leader l.mode) own in
      elim d [
        | inl closed ↦ absurd (true≢false (sym serves ∙ closed.1))
        | inr open_d ↦ record { server = at.0; here = at.1; desk = open_d.0; is_open = open_d.1; mirrors = open_d.3 }
      ]

  module _ (Q : ℕ → Bool) where
    -- that server leads with all committed, and all have applied as much
    record AllSettled (who : ℕ) (server : Raft Command) (z : raft_worlds.World Command) : Type 0 where
      settled : Settled who z
      keeps : Agree (length server.log) server.log settled.server.log
      applied : (j : ℕ) → j < n → Q j ≡ true → (s : Raft Command) × (slice_get z.servers j ≡ Some s) × (is_up s.mode ≡ true) × (length settled.server.log ≤ s.commit)

    -- a group settles as its log does
    can_settle : (w : World) → GroupReached n nodes w → CanSettle cluster_spec n Q (raft_of w) → GroupCanSettle n Q w
    can_settle w r c =
        let f = follows c.who w c.timeouts c.beats c.world c.recovery in
        let all : AllSettled c.who c.server (raft_of f.world) = subst (λ z. AllSettled c.who c.server z) (sym f.log) (record { settled = c.settled; keeps = c.keeps; applied = c.applied }) in
        record {
          who = c.who;
          below = c.below;
          member = c.member;
          server = c.server;
          here = c.here;
          timeouts = c.timeouts;
          beats = c.beats;
          world = f.world;
          recovery = f.recovery;
          few_timeouts = c.few_timeouts;
          few_beats = c.few_beats;
          settled = all.settled;
          keeps = all.keeps;
          applied = all.applied;
          desk = open_desk c.who f.world (recovery_reached c.who w c.timeouts c.beats f.world r f.recovery) all.settled;
        }

  pub settles : (events : List Event) (past : List World) (w : World) → Run n nodes events past w → 2 ≤ n → (Q : ℕ → Bool) → Quorum n Q → AllUp n Q (raft_of w) → HasRoom n Q (raft_of w) → GroupCanSettle n Q w
  settles events past w run two Q quorum up room =
      let p = projection n nodes events past w run in
      can_settle Q w (record { events = events; past = past; run = run }) (never_stuck cluster_spec cluster_lawful n p.log_events p.log_past (raft_of w) p.run two Q quorum up room)

  pub recovers : (events : List Event) (past : List World) (w : World) → Run n nodes events past w → 2 ≤ n → HasRoom n everybody (raft_of w) → GroupCanRecover n w
  recovers events past w run two room =
      let p = projection n nodes events past w run in
      let c = can_recover cluster_spec cluster_lawful n p.log_events p.log_past (raft_of w) p.run two room in
      let k = restarts_to w c.restarts c.world c.restarted in
      record {
        restarts = c.restarts;
        world = k.world;
        restarted = k.restarted;
        few_restarts = c.few_restarts;
        settles = can_settle everybody k.world (restarts_reached w c.restarts k.world (record { events = events; past = past; run = run }) k.restarted)
            (subst (λ z. CanSettle cluster_spec n everybody z) (sym k.log) c.settles);
      }
