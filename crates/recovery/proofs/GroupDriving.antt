-- A whole group is driven.
use Rattle.std.proofs.Common.{◌≡◌, ℕ, zero, suc, ◌+◌, ◌^◌, ◌<◌, ◌⊎◌, inl, inr, Some, None, Ok, Err, List, [], ◌∷◌, ◌++◌, length, map, take, refl, sym, ap, ◌∙◌, subst, arith, slice_get, append-nil}
use Rattle.std.proofs.lemmas.Option.{same_Some}
use Rattle.std.proofs.lemmas.List.{length-append}
use Rattle.rows.specs.declared.command.Command.{Command}
use Rattle.rows.specs.declared.refusal.Refusal.{Refusal}
use Rattle.rows.specs.declared.actor.Actor.TheVariants as actors
use Rattle.wire.specs.Frames.{Frame}
use Rattle.raft_model.specs.Messages.{Message}
use Rattle.raft_model.specs.Steps as raft_steps
use Rattle.raft_model.specs.Worlds as raft_worlds
use Rattle.raft_safety.proofs.Places.{get-some, get-within, get-more}
use Rattle.fsm_model.specs.ClusterMachine.{cluster_spec}
use Rattle.group_model.specs.Inputs as inputs
use Rattle.group_model.specs.Inputs.{AskTimeout, AskHeartbeat, AskCrash}
use Rattle.group_model.specs.Messages.{OfLog}
use Rattle.group_model.specs.Servers.{Server}
use Rattle.group_model.specs.Worlds.{World, Event, Deliver, AtServer, IsRestart, LogEventFits, happens, crash_of, crash_of_message, raft_of, raft_part, raft_messages}
use Rattle.group_safety.specs.Limits.{NodesFit}
use Rattle.group_safety.proofs.LimitedRuns.{limited_runs}
use Rattle.group_safety.proofs.Lists.{get_map, map_length, message_place}
use Rattle.group_safety.proofs.Projections.{projection}
use Rattle.group_frames.specs.GroupFrames.{CarriesGroup}
use Rattle.server.specs.declared.server.Outbox.{Outbox}
use Rattle.server.specs.ServerViews.{ServerView, RefinesServer}
use Rattle.world.specs.GroupWork.{work_of}
use Rattle.world.specs.GroupView.{GroupView, GroupRunsTo, nodes_of}
use Rattle.world.specs.GroupSteps.{GroupEventHappened, GroupActorCrashed, GroupStaysDown, SameView, RefusesGroupEvent}
use Rattle.world.specs.GroupClaims.{OneGroupList}
use Rattle.world.proofs.GroupRuns.{group_runs_are_one}
use Rattle.world.proofs.GroupServers.{same_group_count, same_group_nodes, same_group_runs}
use Rattle.world.proofs.Zips.{zip_at, zip_from, zip_none, zip_length}
use Rattle.recovery.specs.declared.calm_event.CalmEvent.{CalmEvent}
use Rattle.recovery.specs.declared.calm_event.CalmEvent.TheVariants as calms
use Rattle.recovery.specs.declared.unsettled.Unsettled.TheVariants.{NoMemory, Crashed}
use Rattle.recovery.specs.Inner.Drives.{LawfulDrive, EverOf, EverAt, HasRun, KnownOf, StandsThere, NoneThere, trail_here, trail_on, WentOf, IsOfLog, CanGo, HasGone, NotTaken}
use Rattle.recovery.specs.Inner.Goings.{GoesTo}
use Rattle.recovery.specs.Inner.Kinds.{HasNumber, group_event_of, GroupRuns, GroupStays, IsLogPlace, is_delivery, is_timeout, is_beat, GroupStep, group_drive}
use Rattle.recovery.proofs.Goings.{nil_end}
use Rattle.recovery.proofs.GroupSteps.{messages_behind, take_front, counted, own_sent, own_work, own_asked, own_log, own_goes, message_sent, message_work, message_asked, message_log, message_goes}
use Rattle.recovery.proofs.Rises.{get-past}

-- ---- the laws

-- as many messages of the log are sent as messages at all
sent_so : (w v : World) (ms : List (Message Command)) → v.sent ≡ w.sent ++ map OfLog ms → length v.sent + length (raft_messages w.sent) ≡ length w.sent + length (raft_messages v.sent)
sent_so w v ms h =
    let all : length v.sent ≡ length w.sent + length ms = ap length h ∙ (length-append w.sent (map OfLog ms) ∙ ap (λ k. length w.sent + k) (map_length OfLog ms)) in
    let log : length (raft_messages v.sent) ≡ length (raft_messages w.sent) + length ms = ap (λ l. length (raft_messages l)) h ∙ (ap length (messages_behind w.sent ms) ∙ length-append (raft_messages w.sent) ms) in
    omega (arith, all, log)

new_at : (w v : World) (ms : List (Message Command)) → v.sent ≡ w.sent ++ map OfLog ms → (j : ℕ) → length w.sent + j < length v.sent → IsLogPlace v (length w.sent + j) (length (raft_messages w.sent) + j)
new_at w v ms h j less =
    let all : length v.sent ≡ length w.sent + length ms = ap length h ∙ (length-append w.sent (map OfLog ms) ∙ ap (λ k. length w.sent + k) (map_length OfLog ms)) in
    let z = get-some ms j (omega (arith, all, less)) in
    record {
      message = z.0;
      at = ap (λ l. slice_get l (length w.sent + j)) h ∙ get-past w.sent (map OfLog ms) j (OfLog z.0) (get_map OfLog ms j z.0 z.1);
      place_is = sym (ap (λ l. length (raft_messages (take (length w.sent + j) l))) h ∙ counted w.sent ms j (omega (arith, all, less)));
    }

at_stays : (w v : World) (ms : List (Message Command)) → v.sent ≡ w.sent ++ map OfLog ms → (q p : ℕ) → IsLogPlace w q p → IsLogPlace v q p
at_stays w v ms h q p a = record {
  message = a.message;
  at = ap (λ l. slice_get l q) h ∙ get-more w.sent (map OfLog ms) q (OfLog a.message) a.at;
  place_is = a.place_is ∙ sym (ap (λ l. length (raft_messages (take q l))) h ∙ ap (λ l. length (raft_messages l)) (take_front w.sent (map OfLog ms) q (omega (arith, get-within w.sent q (OfLog a.message) a.at))));
}

pub group_lawful : LawfulDrive cluster_spec group_drive
group_lawful = record {
  one = λ view past past2 w w2 r r2. let q = group_runs_are_one view past past2 w w2 r.runs r2.runs in q.1;
  run = λ view past w r.
      let run = r.runs in
      let n = length view.servers in
      let p = projection n (nodes_of view) view.trace past w (limited_runs n (nodes_of view) view.trace past w r.nodes run.run) in
      (p.log_events, p.log_past, p.run);
  stays_here = λ view. record { nodes = refl; work = refl };
  stays_on = λ a b c x y. record { nodes = y.nodes ∙ x.nodes; work = y.work ∙ x.work };
  step_log = λ w e f v s. s.log;
  step_sent = λ w e f v s. sent_so w v s.messages s.sent;
  step_new = λ w e f v s j less. new_at w v s.messages s.sent j less;
  at_one = λ w q p p2 a b. a.place_is ∙ sym b.place_is;
  step_at = λ w e f v s q p a. at_stays w v s.messages s.sent q p a;
}

pub group_has_run : (view : GroupView) → OneGroupList view → NodesFit (nodes_of view) → HasRun group_drive view
group_has_run view l fit = record { past = l.past; moment = l.world; runs = record { runs = l.runs; nodes = fit } }

-- ---- what is read

pub group_sent_length : (view : GroupView) (count : ℕ) → count ≡ length (let o = view.outbox in o.frames) → EverOf group_drive view (λ w. count ≡ length w.sent)
group_sent_length view count is past w r = let run = r.runs in let st = run.refines in is ∙ zip_length (CarriesGroup cluster_spec) (let o = view.outbox in o.frames) w.sent st.sent

pub group_is_there : (view : GroupView) (k : ℕ) (h : ServerView) → slice_get view.servers k ≡ Some h → StandsThere group_drive cluster_spec k h.raft view
group_is_there view k h here past w r =
    let run = r.runs in
    let st = run.refines in
    let z = zip_at RefinesServer view.servers w.servers k h st.servers here in
    let s = z.0 in
    let is = z.2 in
    (s.raft, get_map raft_part w.servers k s z.1, is.raft)

pub group_is_not_there : (view : GroupView) (k : ℕ) → slice_get view.servers k ≡ None → NoneThere group_drive k view
group_is_not_there view k none past w r =
    let run = r.runs in
    let st = run.refines in
    none_in w.servers k (zip_none RefinesServer view.servers w.servers k st.servers none)
  where
    none_in : (xs : List Server) (j : ℕ) → slice_get xs j ≡ None → slice_get (map raft_part xs) j ≡ None
    none_in [] j h = refl
    none_in (x ∷ xs) zero h = absurd (cc)
    none_in (x ∷ xs) (suc j) h = none_in xs j h

-- to whom a message of the log goes
module _ (view : GroupView) (place : ℕ) where
  abbrev frames : List Frame
  frames = let o = view.outbox in o.frames

  -- the frame at the place of one
  its_frame : (past : List World) (w : World) → GroupRuns view past w → (p : ℕ) → IsLogPlace w place p → (z : Message Command) → slice_get (raft_messages w.sent) p ≡ Some z → (f : Frame) × (slice_get frames place ≡ Some f) × (f.to ≡ actors.Server z.to)
  its_frame past w r p a z there =
      let run = r.runs in
      let st = run.refines in
      let f = zip_from (CarriesGroup cluster_spec) frames w.sent place (OfLog a.message) st.sent a.at in
      let c = f.2 in
      let same : a.message ≡ z = same_Some a.message z (sym (message_place w.sent place a.message a.at) ∙ (ap (slice_get (raft_messages w.sent)) (sym a.place_is) ∙ there)) in
      (f.0, f.1, c.to ∙ ap (λ (q : Message Command). actors.Server q.to) same)

  pub group_is_for : (k : ℕ) (frame : Frame) → slice_get frames place ≡ Some frame → frame.to ≡ actors.Server k → EverAt group_drive view place (λ p w. GoesTo (Some k) p w)
  group_is_for k frame at to past w r p a z there =
      let f = its_frame past w r p a z there in
      let its : actors.Server k ≡ actors.Server z.to = sym to ∙ (ap (λ (q : Frame). q.to) (same_Some frame f.0 (sym at ∙ f.1)) ∙ f.2) in
      let same : k ≡ z.to = cc in
      ap (λ q. Some q) same

  pub group_is_for_client : (k : ℕ) (frame : Frame) → slice_get frames place ≡ Some frame → frame.to ≡ actors.Client k → EverAt group_drive view place (λ p w. GoesTo None p w)
  group_is_for_client k frame at to past w r p a z there =
      let f = its_frame past w r p a z there in
      absurd (let its : actors.Client k ≡ actors.Server z.to = sym to ∙ (ap (λ (q : Frame). q.to) (same_Some frame f.0 (sym at ∙ f.1)) ∙ f.2) in cc)

  pub group_is_for_none : slice_get frames place ≡ None → EverAt group_drive view place (λ p w. GoesTo None p w)
  group_is_for_none none past w r p a z there =
      let f = its_frame past w r p a z there in
      absurd (let q = sym none ∙ f.1 in cc)

-- ---- an event

-- a beat and a timeout
module _ (w v : World) (i : ℕ) where
  timeout_step : happens w (AtServer i inputs.Timeout) ≡ Ok v → GroupStep w (AtServer i inputs.Timeout) (raft_worlds.TimesOut i) v
  timeout_step h =
      let sent = own_sent w i inputs.Timeout AskTimeout refl (λ s. refl) (λ s. refl) (λ n t off. rw off refl) v h in
      record {
        is = is_timeout i;
        fits = subst (λ o. LogEventFits o) (sym (own_asked w i inputs.Timeout AskTimeout refl (λ s. refl) (λ s. refl) (λ n t off. rw off refl) v h)) tt;
        happens = h;
        log = own_log w i inputs.Timeout AskTimeout refl (λ s. refl) (λ s. refl) (λ n t off. rw off refl) v h;
        messages = sent.0;
        sent = sent.1;
      }

  beat_step : happens w (AtServer i inputs.Beat) ≡ Ok v → GroupStep w (AtServer i inputs.Beat) (raft_worlds.Beats i) v
  beat_step h =
      let sent = own_sent w i inputs.Beat AskHeartbeat refl (λ s. refl) (λ s. refl) (λ n t off. rw off refl) v h in
      record {
        is = is_beat i;
        fits = subst (λ o. LogEventFits o) (sym (own_asked w i inputs.Beat AskHeartbeat refl (λ s. refl) (λ s. refl) (λ n t off. rw off refl) v h)) tt;
        happens = h;
        log = own_log w i inputs.Beat AskHeartbeat refl (λ s. refl) (λ s. refl) (λ n t off. rw off refl) v h;
        messages = sent.0;
        sent = sent.1;
      }

  -- and a crash
  crash_rests : happens w (AtServer i inputs.Crash) ≡ Ok v → work_of w (AtServer i inputs.Crash) ≡ []
  crash_rests h = own_work w i inputs.Crash AskCrash refl (λ s. refl) (λ s. refl) (λ n t off. rw off refl) v h

-- a message of the log
delivery_step : (w v : World) (q p : ℕ) → IsLogPlace w q p → happens w (Deliver q) ≡ Ok v → GroupStep w (Deliver q) (raft_worlds.Deliver p) v
delivery_step w v q p a h =
    let sent = message_sent w q a.message a.at v h in
    record {
      is = is_delivery q p a;
      fits = subst (λ o. LogEventFits o) (sym (message_asked w q a.message a.at v h)) tt;
      happens = h;
      log = subst (λ k. raft_worlds.happens cluster_spec (raft_of w) (raft_worlds.Deliver k) ≡ Ok (raft_of v)) (sym a.place_is) (message_log w q a.message a.at v h);
      messages = sent.0;
      sent = sent.1;
    }

-- which step it is
step_of : (event : CalmEvent) (w v : World) (f : raft_worlds.Event Command) → IsOfLog group_drive w event f → happens w (group_event_of event) ≡ Ok v → GroupStep w (group_event_of event) f v
step_of (calms.Deliver q) w v f o h = subst (λ e. GroupStep w (Deliver q) e v) (sym o.2) (delivery_step w v q o.0 o.1 h)
step_of (calms.Timeout i) w v f o h = subst (λ e. GroupStep w (AtServer i inputs.Timeout) e v) (sym o) (timeout_step w v i h)
step_of (calms.Beat i) w v f o h = subst (λ e. GroupStep w (AtServer i inputs.Beat) e v) (sym o) (beat_step w v i h)

-- its server's workers get nothing
event_rests : (event : CalmEvent) (w v : World) (f : raft_worlds.Event Command) → IsOfLog group_drive w event f → happens w (group_event_of event) ≡ Ok v → work_of w (group_event_of event) ≡ []
event_rests (calms.Deliver q) w v f o h = let a = o.1 in message_work w q a.message a.at v h
event_rests (calms.Timeout i) w v f o h = own_work w i inputs.Timeout AskTimeout refl (λ s. refl) (λ s. refl) (λ n t off. rw off refl) v h
event_rests (calms.Beat i) w v f o h = own_work w i inputs.Beat AskHeartbeat refl (λ s. refl) (λ s. refl) (λ n t off. rw off refl) v h

-- whose it is
module _ (w : World) (who : ℕ) where
  crash_is : (event : CalmEvent) → CanGo group_drive cluster_spec event who w → crash_of w (group_event_of event) ≡ Some (AtServer who inputs.Crash)
  crash_is (calms.Deliver q) c =
      let can = c.2 in
      let a = c.1.1 in
      let actor : raft_worlds.acting_server cluster_spec (raft_of w) (raft_worlds.Deliver c.1.0) ≡ Some who = ap (raft_worlds.acting_server cluster_spec (raft_of w)) (sym c.1.2) ∙ can.actor in
      let there : slice_get (raft_messages w.sent) c.1.0 ≡ Some a.message = ap (slice_get (raft_messages w.sent)) a.place_is ∙ message_place w.sent q a.message a.at in
      let its : (let z = a.message in z.to) ≡ who = same_Some (let z = a.message in z.to) who (sym (ap (λ o. raft_worlds.receiver cluster_spec o) there) ∙ actor) in
      ap (λ o. crash_of_message o) a.at ∙ ap (λ k. Some (AtServer k inputs.Crash)) its
  crash_is (calms.Timeout i) c =
      let can = c.2 in
      let its : i ≡ who = same_Some i who (ap (raft_worlds.acting_server cluster_spec (raft_of w)) (sym c.1) ∙ can.actor) in
      ap (λ k. Some (AtServer k inputs.Crash)) its
  crash_is (calms.Beat i) c =
      let can = c.2 in
      let its : i ≡ who = same_Some i who (ap (raft_worlds.acting_server cluster_spec (raft_of w)) (sym c.1) ∙ can.actor) in
      ap (λ k. Some (AtServer k inputs.Crash)) its

  -- it is not refused
  goes_on : (event : CalmEvent) (r : Refusal) → CanGo group_drive cluster_spec event who w → happens w (group_event_of event) ≡ Err r → ⊥
  goes_on (calms.Deliver q) r c h =
      let can = c.2 in
      let a = c.1.1 in
      let log : raft_worlds.happens cluster_spec (raft_of w) (raft_worlds.Deliver c.1.0) ≡ Ok can.next = ap (raft_worlds.happens cluster_spec (raft_of w)) (sym c.1.2) ∙ can.happens in
      let there : slice_get (raft_messages w.sent) c.1.0 ≡ Some a.message = ap (slice_get (raft_messages w.sent)) a.place_is ∙ message_place w.sent q a.message a.at in
      let its : raft_worlds.input_to cluster_spec (raft_of w) (let z = a.message in z.to) (raft_steps.Arrives a.message) (slice_get (map raft_part w.servers) (let z = a.message in z.to)) ≡ Ok can.next = sym (ap (λ o. raft_worlds.delivers cluster_spec (raft_of w) o) there) ∙ log in
      message_goes w q a.message a.at r (slice_get (map raft_part w.servers) (let z = a.message in z.to)) refl can.next its h
  goes_on (calms.Timeout i) r c h =
      let can = c.2 in
      let log : raft_worlds.happens cluster_spec (raft_of w) (raft_worlds.TimesOut i) ≡ Ok can.next = ap (raft_worlds.happens cluster_spec (raft_of w)) (sym c.1) ∙ can.happens in
      own_goes w i inputs.Timeout AskTimeout refl (λ s. refl) (λ s. refl) (λ n t off. rw off refl) r (slice_get (map raft_part w.servers) i) refl can.next log h
  goes_on (calms.Beat i) r c h =
      let can = c.2 in
      let log : raft_worlds.happens cluster_spec (raft_of w) (raft_worlds.Beats i) ≡ Ok can.next = ap (raft_worlds.happens cluster_spec (raft_of w)) (sym c.1) ∙ can.happens in
      own_goes w i inputs.Beat AskHeartbeat refl (λ s. refl) (λ s. refl) (λ n t off. rw off refl) r (slice_get (map raft_part w.servers) i) refl can.next log h

no_restart : (event : CalmEvent) → IsRestart (group_event_of event) → ⊥
no_restart (calms.Deliver q) h = h
no_restart (calms.Timeout i) h = h
no_restart (calms.Beat i) h = h

module _ (old : GroupView) (event : CalmEvent) (who : ℕ) (k : KnownOf group_drive old (λ w. CanGo group_drive cluster_spec event who w)) where
  pub group_has_number : (count : ℕ) → count ≡ length (let o = old.outbox in o.frames) → count < 2 ^ 64 → HasNumber event
  group_has_number count is less = numbered event (k.ever k.past k.moment k.runs) (group_sent_length old count is k.past k.moment k.runs)
    where
      numbered : (e : CalmEvent) → CanGo group_drive cluster_spec e who k.moment → count ≡ length (let w = k.moment in w.sent) → HasNumber e
      numbered (calms.Deliver place) c here =
          let a = c.1.1 in
          let w = k.moment in
          omega (arith, get-within w.sent place (OfLog a.message) a.at, here, less)
      numbered (calms.Timeout i) c here = tt
      numbered (calms.Beat i) c here = tt

  module _ (own : Event) (is : own ≡ group_event_of event) (new : GroupView) where
    -- what stays, where its workers get nothing
    stays : (e : Event) → GroupEventHappened old e new → ((w v : World) → CanGo group_drive cluster_spec event who w → happens w e ≡ Ok v → work_of w e ≡ []) → GroupStays old new
    stays e h f =
        let r = k.runs in
        let run = r.runs in
        let n = h.runs k.past k.moment run in
        record {
          nodes = h.nodes;
          work = h.work k.moment run.refines ∙ (ap (λ l. (let o = old.outbox in o.work) ++ l) (f k.moment n.0 (k.ever k.past k.moment k.runs) n.1) ∙ append-nil (let o = old.outbox in o.work));
        }

    pub group_taken : GroupEventHappened old own new → WentOf group_drive old new (λ ts w v. HasGone group_drive event ts w v)
    group_taken h = (
      own ∷ [],
      record {
        size = h.size;
        stays = stays own h (λ w v c so. subst (λ e. work_of w e ≡ []) (sym is) (event_rests event w v c.0 c.1 (subst (λ e. happens w e ≡ Ok v) is so)));
        trace = h.trace;
        runs = λ past w r.
            let n = h.runs past w r.runs in (
              w ∷ [],
              n.0,
              record { runs = n.2; nodes = subst (λ z. NodesFit z) (sym h.nodes) r.nodes },
              λ f of. trail_on own f n.0 trail_here (subst (λ e. GroupStep w e f n.0) (sym is) (step_of event w n.0 f of (subst (λ e. happens w e ≡ Ok n.0) is n.1))),
            );
      },
    )

    pub group_crashed : GroupActorCrashed old own new ⊎ GroupStaysDown old own new → NotTaken group_drive old new (Crashed who)
    group_crashed (inr d) = absurd (no_restart event (subst (λ e. IsRestart e) is d.restart))
    group_crashed (inl c) =
        let z = c.happened in
        let crash : (past : List World) (w : World) → GroupRuns old past w → c.crash ≡ AtServer who inputs.Crash = λ past w r.
        let run = r.runs in
        same_Some c.crash (AtServer who inputs.Crash) (sym (c.actor w run.refines) ∙ (ap (λ e. crash_of w e) is ∙ crash_is w who event (k.ever past w r))) in
        let it = crash k.past k.moment k.runs in (
          c.crash ∷ [],
          record {
            size = z.size;
            stays = stays c.crash z (λ w v can so. subst (λ e. work_of w e ≡ []) (sym it) (crash_rests w v who (subst (λ e. happens w e ≡ Ok v) it so)));
            trace = z.trace;
            runs = λ past w r.
                let run = r.runs in
                let n = z.runs past w run in (
                  w ∷ [],
                  n.0,
                  record { runs = n.2; nodes = subst (λ q. NodesFit q) (sym z.nodes) r.nodes },
                  record {
                    before = w;
                    calm = [];
                    came = (refl, refl);
                    event = c.crash;
                    falls = record {
                      event = own;
                      actor = ap (λ e. crash_of w e) is ∙ crash_is w who event (k.ever past w r);
                      lacking = c.lacking w run.refines;
                      crash = subst (λ e. happens w e ≡ Ok n.0) it n.1;
                      own_is = it;
                    };
                    taken_are = refl;
                  },
                );
          },
        )

    pub group_refused_not : (cause : Refusal) → RefusesGroupEvent old own cause → ⊥
    group_refused_not cause h =
        let r = k.runs in
        goes_on k.moment who event cause (k.ever k.past k.moment k.runs) (subst (λ e. happens k.moment e ≡ Err cause) is (h k.past k.moment r.runs))

-- nothing happened
pub group_still : (old new : GroupView) → SameView old new → NotTaken group_drive old new NoMemory
group_still old new same = (
  [],
  record {
    size = same_group_count old new same;
    stays = record { nodes = same_group_nodes old new same; work = ap (λ (o : Outbox). o.work) same.outbox };
    trace = same.trace ∙ nil_end old.trace;
    runs = λ past w r. (
      [],
      w,
      record {
        runs = subst (λ l. GroupRunsTo new l w) (nil_end past) (same_group_runs old new same past w r.runs);
        nodes = subst (λ z. NodesFit z) (sym (same_group_nodes old new same)) r.nodes;
      },
      (refl, refl),
    );
  },
)

-- memory was wanting to make the event
pub group_unmade : (old : GroupView) → NotTaken group_drive old old NoMemory
group_unmade old = (
  [],
  record {
    size = refl;
    stays = record { nodes = refl; work = refl };
    trace = nil_end old.trace;
    runs = λ past w r. ([], w, subst (λ l. GroupRuns old l w) (nil_end past) r, (refl, refl));
  },
)
