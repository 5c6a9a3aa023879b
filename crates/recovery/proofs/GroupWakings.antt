-- Servers of a whole group restart, and then it settles.
use Rattle.std.proofs.Common.{◌≡◌, ℕ, suc, ◌<◌, ◌≤◌, ◌⊎◌, inl, inr, true, false, Some, Result, Ok, Err, List, [], ◌∷◌, ◌++◌, length, map, refl, sym, ap, ◌∙◌, subst, arith, slice_get, append-nil}
use Rattle.std.proofs.lemmas.List.{map-append}
use Rattle.std.proofs.lemmas.Option.{same_Some}
use Rattle.rows.specs.declared.command.Command.{Command}
use Rattle.rows.specs.declared.refusal.Refusal.{Refusal}
use Rattle.rows.specs.declared.refusal.Refusal.TheVariants as refusals
use Rattle.rows.specs.GroupSizes.{IsGroup}
use Rattle.raft_model.specs.Quorums.{Quorum}
use Rattle.raft_model.specs.Rafts.{Raft, RaftTurn, is_up, silent, restarted}
use Rattle.raft_model.specs.Steps as raft_steps
use Rattle.raft_model.specs.Worlds as raft_worlds
use Rattle.raft_safety.proofs.Places.{push_length}
use Rattle.raft_progress.specs.Recovery.{HasRoom, everybody}
use Rattle.fsm_model.specs.ClusterMachine.{cluster_spec}
use Rattle.group_model.specs.Inputs as inputs
use Rattle.group_model.specs.Inputs.{Act, AskRestart, asks}
use Rattle.group_model.specs.Servers.{Server, logged, done, decides}
use Rattle.group_model.specs.Worlds.{World, Event, AtServer, LogEventFits, happens, after_turn, input_to, crash_of, raft_of, raft_part, raft_event, event_at, asked_of, log_request}
use Rattle.group_safety.specs.Limits.{NodesFit}
use Rattle.group_safety.proofs.Lists.{map_get}
use Rattle.group_safety.proofs.WorldSteps.{Moves, event_moves}
use Rattle.group_progress.specs.GroupRecovery.{GroupAfterRestarts, no_restart, a_restart, GroupCanSettle}
use Rattle.server.specs.declared.server.Outbox.{Outbox}
use Rattle.world.specs.GroupWork.{work_of, turn_work, input_work}
use Rattle.world.specs.GroupView.{GroupView, GroupRunsTo, nodes_of}
use Rattle.world.specs.GroupSteps.{GroupEventHappened, GroupActorCrashed, GroupStaysDown, SameView, RefusesGroupEvent}
use Rattle.recovery.specs.declared.unsettled.Unsettled.{Unsettled}
use Rattle.recovery.specs.declared.unsettled.Unsettled.TheVariants.{NoQuorum, Exhausted, NoMemory, Crashed}
use Rattle.recovery.specs.Runs.{is_up_in}
use Rattle.recovery.specs.Restarting.{downs}
use Rattle.recovery.specs.GroupSettling.{group_events_of, is_server_up, GroupSettles, GroupBegan, GroupFell, GroupGoes, WhyGroupUnsettled, IsGroupSettled}
use Rattle.recovery.specs.GroupRestarting.{restart_of, group_restarts_of, GroupRestarted, GroupRestartedUntil, GroupRestartedThen, GroupRecovers, GroupAllHaveRoom, WhyGroupAllUnsettled, AreGroupSettled}
use Rattle.recovery.specs.Inner.Drives.{HasRun, Known, WentOf, NothingYet}
use Rattle.recovery.specs.Inner.Kinds.{GroupRuns, group_drive}
use Rattle.recovery.specs.Inner.DownServers.{IsDown, IsBack, AreBack, nobody, one_more, RestartedSoFar, WokenUntil, IsLeftDown, RestartsFail, GroupBack, group_restarting}
use Rattle.recovery.proofs.Goings.{went_none}
use Rattle.recovery.proofs.GroupDriving.{group_lawful, group_still, group_unmade}
use Rattle.recovery.proofs.Downs.{nil_end, few_down}
use Rattle.recovery.proofs.Wakings.{all_up, further}

-- ---- one restart

-- a turn by which its workers get nothing
turn_rests : (s : Server) (act : Act) → act.work ≡ [] → (res : Result (RaftTurn Command) Refusal) → turn_work (logged s act res) ≡ []
turn_rests s act none (Err r) = refl
turn_rests s act none (Ok turn) = none

module _ (w : World) (j : ℕ) (d : IsDown j (raft_of w)) where
  -- the server
  its : (s : Server) × (slice_get w.servers j ≡ Some s) × (is_up s.raft.mode ≡ false)
  its = let g = map_get raft_part w.servers j d.0 d.1 in (g.0, g.1, ap (λ (z : Raft Command). is_up z.mode) g.2 ∙ d.2)

  decided : decides (length w.servers) j its.0 inputs.Restart ≡ Ok (asks AskRestart (let s = its.0 in s.desk))
  decided = rw its.2 refl

  restart_asked : raft_event w (restart_of j) ≡ Some (raft_worlds.Restarts j)
  restart_asked = ap (λ z. event_at j (asked_of w j inputs.Restart z)) its.1 ∙ ap (λ z. event_at j (log_request z)) decided

  restart_rests : work_of w (restart_of j) ≡ []
  restart_rests =
      let s = its.0 in
      ap (λ z. input_work w j inputs.Restart z) its.1
      ∙ (ap (λ z. turn_work (done (length w.servers) j s z)) decided ∙ turn_rests s (asks AskRestart s.desk) refl (raft_steps.step cluster_spec (length w.servers) j s.raft raft_steps.Restart))

  restart_back : (v : World) → happens w (restart_of j) ≡ Ok v → GroupBack w j v × (raft_worlds.happens cluster_spec (raft_of w) (raft_worlds.Restarts j) ≡ Ok (raft_of v))
  restart_back v h = (
    record { fits = subst (λ o. LogEventFits o) (sym restart_asked) tt; happens = h },
    subst (λ z. Moves w v z) restart_asked (event_moves w v (restart_of j) h),
  )

  restart_goes : (r : Refusal) → happens w (restart_of j) ≡ Err r → ⊥
  restart_goes r h =
      let s = its.0 in
      let log : raft_steps.step cluster_spec (length w.servers) j s.raft raft_steps.Restart ≡ Ok (silent (restarted s.raft)) = rw its.2 refl in
      let q : after_turn w j (logged s (asks AskRestart s.desk) (Ok (silent (restarted s.raft)))) ≡ Err r =
      sym (ap (λ z. after_turn w j (logged s (asks AskRestart s.desk) z)) log) ∙ (sym (ap (λ z. after_turn w j (done (length w.servers) j s z)) decided) ∙ (sym (ap (λ z. input_to w j inputs.Restart z) its.1) ∙ h)) in
      cc

  -- a server that is down does not crash
  no_crash : (next : World) → happens w (AtServer j inputs.Crash) ≡ Ok next → ⊥
  no_crash next h =
      let s = its.0 in
      let not : decides (length w.servers) j s inputs.Crash ≡ Err refusals.Down = rw its.2 refl in
      let q : after_turn w j (done (length w.servers) j s (Err refusals.Down)) ≡ Ok next =
      sym (ap (λ z. after_turn w j (done (length w.servers) j s z)) not) ∙ (sym (ap (λ z. input_to w j inputs.Crash z) its.1) ∙ h) in
      cc

module _ (old : GroupView) (j : ℕ) (k : Known group_drive old (λ w. IsDown j w)) (own : Event) (is : own ≡ restart_of j) (new : GroupView) where
  pub group_restarted_back : GroupEventHappened old own new → WentOf group_drive old new (λ ts w v. IsBack cluster_spec group_drive group_restarting j ts w v)
  group_restarted_back h =
      let run = k.runs in
      let here = run.runs in (
        own ∷ [],
        record {
          size = h.size;
          stays = record {
            nodes = h.nodes;
            work = h.work k.moment here.refines ∙ (ap (λ l. (let o = old.outbox in o.work) ++ l) (ap (work_of k.moment) is ∙ restart_rests k.moment j (k.ever k.past k.moment k.runs)) ∙ append-nil (let o = old.outbox in o.work));
          };
          trace = h.trace;
          runs = λ past w r.
              let n = h.runs past w r.runs in (
                w ∷ [],
                n.0,
                record { runs = n.2; nodes = subst (λ z. NodesFit z) (sym h.nodes) r.nodes },
                (let b = restart_back w j (k.ever past w r) n.0 (ap (happens w) (sym is) ∙ n.1) in (ap (λ e. e ∷ []) is, b.0, b.1)),
              );
        },
      )

  pub group_asleep_by : GroupActorCrashed old own new ⊎ GroupStaysDown old own new → IsLeftDown group_drive j old new (Crashed j)
  group_asleep_by (inl c) =
      let run = k.runs in
      let here = run.runs in
      let h = c.happened in
      let n = h.worlds k.moment here.refines in
      let same : AtServer j inputs.Crash ≡ c.crash = same_Some (AtServer j inputs.Crash) c.crash (subst (λ e. crash_of k.moment e ≡ Some c.crash) is (c.actor k.moment here.refines)) in
      absurd (no_crash k.moment j (k.ever k.past k.moment k.runs) n.0 (ap (happens k.moment) same ∙ n.1))
  group_asleep_by (inr d) = (refl, subst (λ q. WentOf group_drive old q (λ ts w v. NothingYet group_drive ts w v)) (sym d.same) (group_unmade old))

  pub group_same_asleep : SameView old new → IsLeftDown group_drive j old new NoMemory
  group_same_asleep same = group_still old new same

  pub group_restart_not_refused : (cause : Refusal) → RefusesGroupEvent old own cause → ⊥
  group_restart_not_refused cause h =
      let run = k.runs in
      restart_goes k.moment j (k.ever k.past k.moment k.runs) cause (ap (happens k.moment) (sym is) ∙ h k.past k.moment run.runs)

-- memory was wanting to make the event
pub group_unmade_asleep : (old : GroupView) (j : ℕ) → IsLeftDown group_drive j old old NoMemory
group_unmade_asleep old j = group_unmade old

-- ---- some restarts

-- their events, and how many
record ManyBack (w : World) (back : List ℕ) (v : World) : Type 0 where
  count : ℕ
  restarted : GroupAfterRestarts w count v
  are : group_restarts_of w count v restarted ≡ map restart_of back
  many : count ≡ length back

many_back : (w : World) (back : List ℕ) (v : World) → AreBack cluster_spec group_drive group_restarting w back v → ManyBack w back v
unfolding group_restarts_of
many_back w back v nobody = record { count = 0; restarted = no_restart; are = refl; many = refl }
many_back w back v (one_more {back = earlier} {x = x} j y b h) =
    let old = many_back w earlier x b in
    record {
      count = suc old.count;
      restarted = a_restart j y old.restarted h.fits h.happens;
      are = ap (λ l. l ++ restart_of j ∷ []) old.are ∙ sym (map-append restart_of earlier (j ∷ []));
      many = omega (arith, old.many, push_length earlier j);
    }

until : (n who : ℕ) (ts : List Event) (w v : World) → WokenUntil cluster_spec group_drive group_restarting n who ts w v → GroupRestartedUntil n who ts w v
until n who ts w v s =
    let b = many_back w s.before v s.back in
    (s.later, record { back = s.before; were_down = s.were_down; restarts = b.count; restarted = b.restarted; restarts_are = b.are ∙ sym s.taken_are; taken_are = s.taken_are })

-- whoever is up is everybody
of_everybody : (n : ℕ) (x : World) → ((j : ℕ) → j < n → is_server_up x j ≡ true) → GroupCanSettle n (is_server_up x) x → GroupCanSettle n everybody x
of_everybody n x up c = record {
  who = c.who;
  below = c.below;
  member = refl;
  server = c.server;
  here = c.here;
  timeouts = c.timeouts;
  beats = c.beats;
  world = c.world;
  recovery = c.recovery;
  few_timeouts = c.few_timeouts;
  few_beats = c.few_beats;
  settled = c.settled;
  keeps = c.keeps;
  applied = λ j less q. c.applied j less (up j less);
  desk = c.desk;
}

module _ (n : ℕ) (ts us : List Event) (w x v : World) (s : RestartedSoFar cluster_spec group_drive group_restarting n ts w x) where
  back : ManyBack w (downs n (raft_of w)) x
  back = many_back w (downs n (raft_of w)) x s.back

  recovers : (who : ℕ) → GroupSettles n who us x v → GroupRecovers n who (ts ++ us) w v
  unfolding of_everybody
  recovers who e = record {
    can = record { restarts = back.count; world = x; restarted = back.restarted; few_restarts = omega (arith, back.many, few_down n (raft_of w)); settles = of_everybody n x s.up e.can };
    who_is = e.who_is;
    world_is = e.world_is;
    restarts_are = back.are;
    taken_are = ap (λ l. l ++ us) s.taken_are ∙ ap (λ l. map restart_of (downs n (raft_of w)) ++ l) (sym e.taken_are);
  }

  restarted_then : (R : List Event → World → World → Type 0) → R us x v → GroupRestartedThen n R (ts ++ us) w v
  restarted_then R h = record {
    restarts = ts;
    further = us;
    awake = x;
    restarted = record { back = downs n (raft_of w); were_down = sym (nil_end (downs n (raft_of w))); restarts = back.count; restarted = back.restarted; restarts_are = back.are ∙ sym s.taken_are; taken_are = s.taken_are };
    came = h;
    taken_are = refl;
  }

-- ---- what is answered

module _ (old : GroupView) (h : HasRun group_drive old) (fit : NodesFit (nodes_of old)) (group : IsGroup (length old.servers)) (room : GroupAllHaveRoom old) where
  abbrev all_n : ℕ
  all_n = length old.servers

  goes_of : (new : GroupView) (R1 R : List Event → World → World → Type 0) → WentOf group_drive old new R1 → ((ts : List Event) (w v : World) → R1 ts w v → R ts w v) → GroupGoes old new R
  goes_of new R1 R g f =
      let one = g.1 in
      let stays = one.stays in (
        g.0,
        record {
          size = one.size;
          nodes = stays.nodes;
          work = stays.work;
          trace = one.trace;
          runs = λ past w r.
              let x = one.runs past w (record { runs = r; nodes = fit }) in
              let there = x.2 in
              (x.0, x.1, there.runs, f g.0 w x.1 x.3);
        },
      )

  module _ (mid : GroupView) (g : WentOf group_drive old mid (λ ts w v. RestartedSoFar cluster_spec group_drive group_restarting (length old.servers) ts w v)) where
    went_of : (new : GroupView) (R : List Event → World → World → Type 0) → GroupGoes mid new R → WentOf group_drive mid new R
    went_of new R q =
        let one = q.1 in (
          q.0,
          record {
            size = one.size;
            stays = record { nodes = one.nodes; work = one.work };
            trace = one.trace;
            runs = λ past w r.
                let x = one.runs past w r.runs in
                (x.0, x.1, record { runs = x.2; nodes = subst (λ z. NodesFit z) (sym one.nodes) r.nodes }, x.3);
          },
        )

    roomy : (past : List World) (w : World) → GroupRuns old past w → HasRoom (length old.servers) everybody (raft_of w)
    roomy past w r = room past w r.runs

    up_in_mid : Known group_drive mid (λ v. Quorum (length old.servers) (is_up_in v) × HasRoom (length old.servers) (is_up_in v) v)
    up_in_mid = all_up cluster_spec group_drive group_lawful group_restarting old mid h group roomy g

    same_size : length mid.servers ≡ all_n
    same_size = let one = g.1 in one.size

    then_goes : (new : GroupView) (R Q : List Event → World → World → Type 0) → GroupGoes mid new R → ((ts us : List Event) (w x v : World) → RestartedSoFar cluster_spec group_drive group_restarting all_n ts w x → R us x v → Q (ts ++ us) w v) → GroupGoes old new Q
    then_goes new R Q more f = goes_of new Q Q (further cluster_spec group_drive group_lawful group_restarting old mid h group roomy g new R Q (went_of new R more) f) (λ ts w v q. q)

    pub are_group_settled : (new : GroupView) (who : ℕ) → IsGroupSettled mid new who → AreGroupSettled old new who
    are_group_settled new who s = record {
      room = room;
      went = then_goes new (λ us x v. GroupSettles all_n who us x v) (λ ts w v. GroupRecovers all_n who ts w v) (subst (λ q. GroupGoes mid new (λ us x v. GroupSettles q who us x v)) same_size s.went)
          (λ ts us w x v a b. recovers all_n ts us w x v a who b);
    }

    pub why_group_all_unsettled : (new : GroupView) (why : Unsettled) → WhyGroupUnsettled mid new why → WhyGroupAllUnsettled old new why
    why_group_all_unsettled new NoQuorum q =
        let k = up_in_mid in
        let run = k.runs in
        let now = k.ever k.past k.moment k.runs in
        q.0 k.past k.moment run.runs (subst (λ z. Quorum z (is_server_up k.moment)) (sym same_size) now.0)
    why_group_all_unsettled new Exhausted q =
        let k = up_in_mid in
        let run = k.runs in
        let now = k.ever k.past k.moment k.runs in
        absurd (q.1 k.past k.moment run.runs (subst (λ z. HasRoom z (is_server_up k.moment) (raft_of k.moment)) (sym same_size) now.1))
    why_group_all_unsettled new NoMemory q = (room, then_goes new (λ us x v. GroupBegan us x v) _ q.2 (λ ts us w x v a b. inr (restarted_then all_n ts us w x v a (λ calm y z. GroupBegan calm y z) b)))
    why_group_all_unsettled new (Crashed who) q = (room, then_goes new (λ us x v. GroupFell who us x v) _ q.2 (λ ts us w x v a b. inr (restarted_then all_n ts us w x v a (λ calm y z. GroupFell who calm y z) b)))

  -- or not all could restart
  pub why_group_asleep : (new : GroupView) (why : Unsettled) → RestartsFail cluster_spec group_drive group_restarting old new why → WhyGroupAllUnsettled old new why
  why_group_asleep new NoQuorum q = q
  why_group_asleep new Exhausted q = absurd q
  why_group_asleep new NoMemory q = (room, goes_of new (λ ts w v. (who : ℕ) × WokenUntil cluster_spec group_drive group_restarting all_n who ts w v) _ q (λ ts w v c. inl (c.0, until all_n c.0 ts w v c.1)))
  why_group_asleep new (Crashed who) q = (room, goes_of new (λ ts w v. WokenUntil cluster_spec group_drive group_restarting all_n who ts w v) _ q (λ ts w v c. inl (until all_n who ts w v c)))
