-- Servers of the log alone are driven.
use Rattle.std.proofs.Common.{◌≡◌, ℕ, suc, ◌+◌, ◌^◌, ◌<◌, ◌⊎◌, inl, inr, Option, Some, None, Ok, List, [], ◌∷◌, ◌++◌, length, refl, sym, ap, ◌∙◌, subst, arith, slice_get, Bor, IfSome, IfNone}
use Rattle.std.specs.Option.{option_copied}
use Rattle.std.proofs.lemmas.Option.{same_Some}
use Rattle.rows.specs.declared.refusal.Refusal.{Refusal}
use Rattle.rows.specs.declared.actor.Actor.TheVariants as actors
use Rattle.wire.specs.Frames.{Frame}
use Rattle.machine_model.specs.MachineSpec.{MachineSpec}
use Rattle.raft_model.specs.Messages.{Message}
use Rattle.raft_model.specs.Worlds as raft_worlds
use Rattle.raft_model.specs.Worlds.{World, Event, Deliver, TimesOut, Beats, Crashes, happens, delivers}
use Rattle.raft_core.specs.Frames.{FrameCarries}
use Rattle.raft_core.specs.RaftView.{RaftView}
use Rattle.raft_core.specs.Steps.{RefinesRaft}
use Rattle.raft_safety.proofs.Places.{get-within}
use Rattle.group_inputs.specs.Events.{position_of}
use Rattle.world.specs.WorldView.{WorldView, RunsTo}
use Rattle.world.specs.Steps.{EventHappened, ActorCrashed, StaysDown, SameWorld, RefusesEvent}
use Rattle.world.proofs.Runs.{runs_are_one}
use Rattle.world.proofs.Same.{same_count, same_runs}
use Rattle.world.proofs.Zips.{zip_at, zip_none, zip_length}
use Rattle.recovery.specs.declared.calm_event.CalmEvent.{CalmEvent}
use Rattle.recovery.specs.declared.calm_event.CalmEvent.TheVariants as calms
use Rattle.recovery.specs.declared.unsettled.Unsettled.{Unsettled}
use Rattle.recovery.specs.declared.unsettled.Unsettled.TheVariants.{NoQuorum, Exhausted, NoMemory, Crashed}
use Rattle.recovery.specs.Runs.{Began}
use Rattle.recovery.specs.Settling.{Goes, Fell, WhyUnsettled, IsSettled}
use Rattle.recovery.specs.Inner.Spreads.{Came}
use Rattle.recovery.specs.Inner.Drives.{LawfulDrive, EverOf, EverAt, KnownOf, StandsThere, NoneThere, Trail, trail_here, trail_on, Drove, WentOf, IsOfLog, CanGo, HasGone, FellAfter, NotTaken, CameBy}
use Rattle.recovery.specs.Inner.Goings.{GoesTo, DriveSettled, WhyDriveUnsettled}
use Rattle.recovery.specs.Inner.Kinds.{HasNumber, log_event_of, log_drive}
use Rattle.recovery.proofs.Goings.{nil_end}

pub place_of : (place : ℕ) → position_of (place + 1) ≡ place
place_of place = let e : place + 1 ≡ suc place = omega arith in ap position_of e

module _ {S C : Type 0} (m : MachineSpec S C) where
  pub log_lawful : LawfulDrive m (log_drive m)
  log_lawful = record {
    one = λ view past past2 w w2 r r2. let q = runs_are_one m view past past2 w w2 r r2 in q.1;
    run = λ view past w r. (view.trace, past, r.run);
    stays_here = λ view. tt;
    stays_on = λ a b c x y. tt;
    step_log = λ w e f v s. s.happens;
    step_sent = λ w e f v s. omega arith;
    step_new = λ w e f v s j less. refl;
    at_one = λ w q p p2 a b. sym a ∙ b;
    step_at = λ w e f v s q p a. a;
  }

  -- ---- what is read

  pub sent_length : (view : WorldView S C) (count : ℕ) → count ≡ length view.sent → EverOf (log_drive m) view (λ w. count ≡ length w.sent)
  sent_length view count is past w r = let st = r.refines in is ∙ zip_length (FrameCarries m) view.sent w.sent st.sent

  pub is_there : (view : WorldView S C) (k : ℕ) (h : RaftView S C) → slice_get view.servers k ≡ Some h → StandsThere (log_drive m) m k h view
  is_there view k h here past w r = let st = r.refines in zip_at (RefinesRaft m) view.servers w.servers k h st.servers here

  pub is_not_there : (view : WorldView S C) (k : ℕ) → slice_get view.servers k ≡ None → NoneThere (log_drive m) k view
  is_not_there view k none past w r = let st = r.refines in zip_none (RefinesRaft m) view.servers w.servers k st.servers none

  -- a look-up of a server
  pub some_there : (view : WorldView S C) (k : ℕ) (r : Option (Bor (RaftView S C))) → option_copied r ≡ slice_get view.servers k → IfSome r (λ x. StandsThere (log_drive m) m k x.now view)
  some_there view k None h = tt
  some_there view k (Some x) h = is_there view k x.now (sym h)

  pub none_there : (view : WorldView S C) (k : ℕ) (r : Option (Bor (RaftView S C))) → option_copied r ≡ slice_get view.servers k → IfNone r (NoneThere (log_drive m) k view)
  none_there view k None h = is_not_there view k (sym h)
  none_there view k (Some x) h = tt

  -- who is to receive a message
  pub is_for : (view : WorldView S C) (place k : ℕ) (frame : Frame) → slice_get view.sent place ≡ Some frame → frame.to ≡ actors.Server k → EverAt (log_drive m) view place (λ p w. GoesTo (Some k) p w)
  is_for view place k frame at to past w r p same z there =
      let st = r.refines in
      let f = zip_at (FrameCarries m) view.sent w.sent place frame st.sent at in
      let c = f.2 in
      let one : f.0 ≡ z = same_Some f.0 z (sym f.1 ∙ (ap (slice_get w.sent) same ∙ there)) in
      let its : actors.Server k ≡ actors.Server (f.0).to = sym to ∙ c.to in
      let two : k ≡ (f.0).to = cc in
      ap (λ q. Some q) (two ∙ ap (λ (q : Message C). q.to) one)

  pub is_for_client : (view : WorldView S C) (place k : ℕ) (frame : Frame) → slice_get view.sent place ≡ Some frame → frame.to ≡ actors.Client k → EverAt (log_drive m) view place (λ p w. GoesTo None p w)
  is_for_client view place k frame at to past w r p same z there =
      let st = r.refines in
      let f = zip_at (FrameCarries m) view.sent w.sent place frame st.sent at in
      let c = f.2 in
      absurd (let its : actors.Client k ≡ actors.Server (f.0).to = sym to ∙ c.to in cc)

  pub is_for_none : (view : WorldView S C) (place : ℕ) → slice_get view.sent place ≡ None → EverAt (log_drive m) view place (λ p w. GoesTo None p w)
  is_for_none view place none past w r p same z there =
      let st = r.refines in
      absurd (let q = sym (zip_none (FrameCarries m) view.sent w.sent place st.sent none) ∙ (ap (slice_get w.sent) same ∙ there) in cc)

  -- ---- an event

  is_event : (event : CalmEvent) (w : World C) (f : Event C) → IsOfLog (log_drive m) w event f → f ≡ log_event_of event
  is_event (calms.Deliver place) w f h = h.2 ∙ ap (λ q. Deliver q) (sym h.1)
  is_event (calms.Timeout i) w f h = h
  is_event (calms.Beat i) w f h = h

  delivered : (w : World C) (p : ℕ) (o : Option (Message C)) → slice_get w.sent p ≡ o → (y : World C) → delivers m w o ≡ Ok y → p < length w.sent
  delivered w p None is y h = absurd (cc)
  delivered w p (Some z) is y h = get-within w.sent p z is

  module _ (old : WorldView S C) (event : CalmEvent) (who : ℕ) (k : KnownOf (log_drive m) old (λ w. CanGo (log_drive m) m event who w)) where
    pub has_number : (count : ℕ) → count ≡ length old.sent → count < 2 ^ 64 → HasNumber event
    has_number count is less = numbered event (k.ever k.past k.moment k.runs) (sent_length old count is k.past k.moment k.runs)
      where
        numbered : (e : CalmEvent) → CanGo (log_drive m) m e who k.moment → count ≡ length (let w = k.moment in w.sent) → HasNumber e
        numbered (calms.Deliver place) c here =
            let can = c.2 in
            let at = c.1 in
            let w = k.moment in
            let there : happens m w (Deliver at.0) ≡ Ok can.next = ap (happens m w) (sym at.2) ∙ can.happens in
            omega (arith, delivered w at.0 (slice_get w.sent at.0) refl can.next there, at.1, here, less)
        numbered (calms.Timeout i) c here = tt
        numbered (calms.Beat i) c here = tt

    module _ (own : Event C) (is : own ≡ log_event_of event) (new : WorldView S C) where
      pub taken : EventHappened m old own new → WentOf (log_drive m) old new (λ ts w v. HasGone (log_drive m) event ts w v)
      taken h = (
        own ∷ [],
        record {
          size = h.size;
          stays = tt;
          trace = h.trace;
          runs = λ past w r.
              let n = h.runs past w r in (
                w ∷ [],
                n.0,
                n.2,
                λ f of.
                    let same : own ≡ f = is ∙ sym (is_event event w f of) in
                    trail_on own f n.0 trail_here (record { own_is = same; happens = ap (happens m w) (sym same) ∙ n.1 }),
              );
        },
      )

      pub crashed : ActorCrashed m old own new ⊎ StaysDown m old own new → NotTaken (log_drive m) old new (Crashed who)
      crashed (inr d) =
          let c = k.ever k.past k.moment k.runs in
          let can = c.2 in
          absurd (can.other (subst (λ e. raft_worlds.IsRestart m e) (is ∙ sym (is_event event k.moment c.0 c.1)) d.restart))
      crashed (inl c) =
          let z = c.happened in (
            Crashes c.who ∷ [],
            record {
              size = z.size;
              stays = tt;
              trace = z.trace;
              runs = λ past w r.
                  let n = z.runs past w r in
                  let st = r.refines in
                  let can = k.ever past w r in
                  let goes = can.2 in
                  let named : own ≡ can.0 = is ∙ sym (is_event event w can.0 can.1) in
                  let its : c.who ≡ who = same_Some c.who who (sym (c.actor w st) ∙ (ap (raft_worlds.acting_server m w) named ∙ goes.actor)) in (
                    w ∷ [],
                    n.0,
                    n.2,
                    record {
                      before = w;
                      calm = [];
                      came = (refl, refl);
                      event = Crashes c.who;
                      falls = record {
                        event = own;
                        actor = ap (raft_worlds.acting_server m w) named ∙ goes.actor;
                        lacking = λ s here. c.lacking w s st (ap (slice_get w.servers) its ∙ here);
                        crash = ap (λ q. happens m w (Crashes q)) (sym its) ∙ n.1;
                        own_is = ap (λ q. Crashes q) its;
                      };
                      taken_are = refl;
                    },
                  );
            },
          )

      pub refused_not : (cause : Refusal) → RefusesEvent m old own cause → ⊥
      refused_not cause h =
          let c = k.ever k.past k.moment k.runs in
          let can = c.2 in
          let named : own ≡ c.0 = is ∙ sym (is_event event k.moment c.0 c.1) in
          let q = sym can.happens ∙ (ap (happens m k.moment) (sym named) ∙ h k.past k.moment k.runs) in
          cc

  -- nothing happened
  pub still : (old new : WorldView S C) → SameWorld old new → NotTaken (log_drive m) old new NoMemory
  still old new same = (
    [],
    record {
      size = same_count m old new same;
      stays = tt;
      trace = same.trace ∙ nil_end old.trace;
      runs = λ past w r. ([], w, subst (λ l. RunsTo m new l w) (nil_end past) (same_runs m old new same past w r), (refl, refl));
    },
  )

  -- ---- what is answered

  -- the events of a path are its own
  own_events : (w : World C) (ts es : List (Event C)) (v : World C) → Trail (log_drive m) w ts es v → es ≡ ts
  own_events w ts es v trail_here = refl
  own_events w ts es v (trail_on {taken = ts2} {es = es2} {x = x} e f y q s) = ap (λ l. l ++ f ∷ []) (own_events w ts2 es2 x q) ∙ ap (λ z. ts2 ++ z ∷ []) (sym s.own_is)

  goes : (old new : WorldView S C) (R1 : List (Event C) → World C → World C → Type 0) (R : List (Event C) → World C → World C → Type 0) → WentOf (log_drive m) old new R1 →
      ((ts : List (Event C)) (w v : World C) → R1 ts w v → R ts w v) → Goes m old new R
  goes old new R1 R g f =
      let one = g.1 in
      (g.0, record { size = one.size; trace = one.trace; runs = λ past w r. let x = one.runs past w r in (x.0, x.1, x.2, f g.0 w x.1 x.3) })

  told_so : (R : List (Event C) → World C → World C → Type 0) (ts : List (Event C)) (w v : World C) → Drove (log_drive m) ts w v R → R ts w v
  told_so R ts w v a = subst (λ l. R l w v) (own_events w ts a.events v a.path) a.told

  pub is_settled : (old new : WorldView S C) (who : ℕ) → DriveSettled (log_drive m) m old new who → IsSettled m old new who
  is_settled old new who s = record { quorum = s.quorum; room = s.room; went = goes old new _ _ s.went (λ ts w v a. told_so _ ts w v a) }

  began_by : (i : ℕ) (ts : List (Event C)) (w v : World C) → CameBy (log_drive m) m i ts w v → Began m ts w v
  began_by i ts w v a =
      let c = told_so (λ es x y. Came m i es x y) ts w v a in
      let way = c.way in
      record { who = i; timeouts = c.timeouts; beats = c.beats; recovery = way.recovery; taken_are = way.events }

  fell_by : (i who : ℕ) (ts : List (Event C)) (w v : World C) → FellAfter (log_drive m) (CameBy (log_drive m) m i) who ts w v → Fell m who ts w v
  fell_by i who ts w v a =
      let f = a.falls in
      record {
        before = a.before;
        calm = a.calm;
        began = began_by i a.calm w a.before a.came;
        event = f.event;
        actor = f.actor;
        lacking = f.lacking;
        crash = f.crash;
        taken_are = a.taken_are ∙ ap (λ z. a.calm ++ z ∷ []) f.own_is;
      }

  pub why_unsettled : (old new : WorldView S C) (why : Unsettled) → WhyDriveUnsettled (log_drive m) m old new why → WhyUnsettled m old new why
  why_unsettled old new NoQuorum h = h
  why_unsettled old new Exhausted h = h
  why_unsettled old new NoMemory h = (h.quorum, h.room, goes old new _ _ h.stops (λ ts w v a. began_by h.who ts w v a))
  why_unsettled old new (Crashed who) h = (h.quorum, h.room, goes old new _ _ h.stops (λ ts w v a. fell_by h.who who ts w v a))
