-- What a step of the log makes of a server of the group.
use Rattle.std.proofs.Common.{◌≡◌, ◌≢◌, ℕ, Bool, true, false, Option, Some, None, Result, Ok, Err, [], ◌++◌, map, refl, sym, ap, subst, ◌∙◌}
use Rattle.std.proofs.lemmas.List.{append-nil}
use Rattle.std.specs.Prelude.{IfSome, OnOk, OnErr, IfErr}
use Rattle.rows.specs.declared.command.Command.{Command}
use Rattle.rows.specs.declared.refusal.Refusal.{Refusal}
use Rattle.rows.specs.declared.refusal.Refusal.TheVariants as refusals
use Rattle.wire.specs.Messages.{Message as WireMessage}
use Rattle.raft_model.specs.Messages.{Message}
use Rattle.raft_model.specs.Rafts as rafts
use Rattle.raft_model.specs.Rafts.{Mode, is_leader, is_up}
use Rattle.raft_model.specs.Steps as raft_steps
use Rattle.raft_core.specs.declared.input.Input.{Input as RaftInput}
use Rattle.raft_core.specs.declared.input.Input.TheVariants as raft_inputs
use Rattle.raft_core.specs.RaftView.{RaftView}
use Rattle.raft_core.specs.Frames.{Means}
use Rattle.raft_core.specs.Inputs.{handed, Own}
use Rattle.raft_core.specs.Steps.{RefinesRaft, Steps, Takes, TakesMessage}
use Rattle.raft_core.specs.Refusals.{OutOfMemoryStays, Stays, MessageStays, RefusalShows}
use Rattle.raft_snapshot.specs.Watching.{SeesStep}
use Rattle.fsm_model.specs.Words.{State}
use Rattle.fsm_model.specs.ClusterMachine.{cluster_spec}
use Rattle.group_model.specs.Messages.{OfLog}
use Rattle.group_model.specs.Desks.{desk_after}
use Rattle.group_model.specs.Inputs.{Act, Ask, AskTimeout, AskHeartbeat, AskCompact, AskCrash, AskRestart, input_of}
use Rattle.group_model.specs.Servers.{Server, logged}
use Rattle.group_frames.proofs.Sending.{sends_log}
use Rattle.leader.specs.OpenDesks.{OpenDesk}
use Rattle.server.specs.declared.server.Outbox.{Outbox}
use Rattle.server.specs.ServerViews.{ServerView, RefinesServer, group_desk, IsOfLeader}
use Rattle.server.specs.Steps.{TakesTurn}
use Rattle.server.specs.Inner.DeskWatch.{DeskSees}
use Rattle.server.specs.Inner.LogSteps.{where_leads, DeskAfterRefusal, TakesLogMessage, TakesAsk, log_ask}
use Rattle.server.proofs.Leads.{LeadsOn, message_leads, timeout_step, beat_step, compact_step, crash_step, restart_step}
use Rattle.server.proofs.DeskFollows.{goes_on}
use Rattle.server.proofs.Servers.{mode_is}

-- ---- a step of the log

module _ (old new : ServerView) (seen : Option OpenDesk) (before after : Outbox) (input : raft_steps.Input Command) (s : Server) (is : RefinesServer old s)
    (steps : Steps cluster_spec old.raft s.raft input new.raft before.frames after.frames)
    (sees : SeesStep cluster_spec DeskSees s.raft steps.turn.server old.desk seen)
    (leads : (turn : rafts.RaftTurn Command) → raft_steps.step cluster_spec old.raft.size old.raft.me s.raft input ≡ Ok turn → is_leader turn.server.mode ≡ true → LeadsOn s.raft turn.server)
    (closed : new.desk ≡ where_leads (is_leader new.raft.server.mode) seen) where
  gone : (group_desk new.desk ≡ desk_after s.raft steps.turn.server (group_desk old.desk)) × IfSome new.desk (IsOfLeader steps.turn.server)
  gone =
      let mode : new.raft.server.mode ≡ steps.turn.server.mode = sym (mode_is new.raft steps.turn.server steps.refines) in
      goes_on s.raft steps.turn.server old.desk seen new.desk is.led sees (leads steps.turn steps.step) (closed ∙ ap (λ (m : Mode). where_leads (is_leader m) seen) mode)

  -- the turn of the definitions
  pub log_takes : (ask : Option Ask) → after.work ≡ before.work → TakesTurn (logged s (record { ask = ask; desk = s.desk; sent = []; work = [] }) (raft_steps.step cluster_spec old.raft.size old.raft.me s.raft input)) new before after
  log_takes ask work =
      let act : Act = record { ask = ask; desk = s.desk; sent = []; work = [] } in
      record {
        turn = record {
          server = record { raft = steps.turn.server; desk = desk_after s.raft steps.turn.server s.desk };
          sent = map OfLog steps.turn.sent ++ [];
          work = [];
        };
        is = ap (logged s act) steps.step;
        server = record { raft = steps.refines; desk = gone.0 ∙ ap (desk_after s.raft steps.turn.server) is.desk; led = gone.1 };
        sent = sends_log cluster_spec before.frames after.frames steps.turn.sent steps.sent;
        work = work ∙ sym (append-nil before.work);
      }

-- ---- a refusal

abbrev pub IsLedBy : RaftView State Command → Option OpenDesk → Type 0
IsLedBy raft d = IfSome d (λ (o : OpenDesk). is_leader raft.server.mode ≡ true)

-- a desk of one that leads stays where the server does
closed_stays : (raft : RaftView State Command) (d : Option OpenDesk) → IsLedBy raft d → where_leads (is_leader raft.server.mode) d ≡ d
closed_stays raft None h = none_stays (is_leader raft.server.mode) where
  none_stays : (b : Bool) → where_leads b None ≡ None
  none_stays true = refl
  none_stays false = refl
closed_stays raft (Some o) h = ap (λ b. where_leads b (Some o)) h

-- where it leads not, the desk is closed; else it is what was seen
pub closed_led : (raft : RaftView State Command) (seen desk : Option OpenDesk) → desk ≡ where_leads (is_leader raft.server.mode) seen → IsLedBy raft desk
closed_led raft seen desk closed = subst (IsLedBy raft) (sym closed) (by (is_leader raft.server.mode) refl seen) where
  by : (b : Bool) → is_leader raft.server.mode ≡ b → (d : Option OpenDesk) → IsLedBy raft (where_leads b d)
  by true leads None = tt
  by true leads (Some o) = leads
  by false leads d = tt

abbrev Answer : Type 0
Answer = Result (Unit {0}) Refusal

module _ (old : ServerView) (raft : RaftView State Command) (seen desk : Option OpenDesk)
    (closed : desk ≡ where_leads (is_leader raft.server.mode) seen) where
  -- it lost what it had, or nothing changed
  none_kept : is_leader raft.server.mode ≡ false → desk ≡ None
  none_kept down = closed ∙ ap (λ b. where_leads b seen) down

  all_kept : IsLedBy old.raft old.desk → raft ≡ old.raft → seen ≡ old.desk → desk ≡ old.desk
  all_kept inside is same = closed ∙ (ap (λ (v : RaftView State Command). where_leads (is_leader v.server.mode) seen) is ∙ (ap (where_leads (is_leader old.raft.server.mode)) same ∙ closed_stays old.raft old.desk inside))

  -- ---- a message of the log comes

  pub hear_takes : (read : WireMessage State Command) (before after : Outbox) (r : Answer)
      → OnOk r ((s : rafts.Raft Command) → RefinesRaft cluster_spec old.raft s → TakesMessage cluster_spec old.raft s read raft before.frames after.frames)
      → OnOk r ((s next : rafts.Raft Command) → RefinesRaft cluster_spec old.raft s → RefinesRaft cluster_spec raft next → SeesStep cluster_spec DeskSees s next old.desk seen)
      → after.work ≡ before.work
      → OnOk r ((said : Message Command) → Means cluster_spec read said → TakesLogMessage old said (record { raft = raft; desk = desk }) before after)
  hear_takes read before after (Ok u) taken sees work = λ said means s is.
      let steps = taken s.raft is.raft said means in
      log_takes old (record { raft = raft; desk = desk }) seen before after (raft_steps.Arrives said) s is steps (sees s.raft steps.turn.server is.raft steps.refines)
      (message_leads cluster_spec old.raft.size old.raft.me s.raft said) closed None work
  hear_takes read before after (Err cause) taken sees work = tt

  pub hear_desk : (r : Answer) → IsLedBy old.raft old.desk
      → IfErr r (λ cause. MessageStays cause old.raft raft)
      → IfErr r (λ cause. RefusalShows cause old.desk seen)
      → IfErr r (λ cause. DeskAfterRefusal cause old.desk desk)
  hear_desk (Ok u) inside stays unseen = tt
  hear_desk (Err refusals.NoMemory) inside stays unseen = none_kept (ap (λ (t : rafts.Raft Command). is_leader t.mode) stays.0)
  hear_desk (Err cause) inside stays unseen = all_kept inside stays unseen

-- ---- an input of the log's own

pub record IsAsked (n me : ℕ) (input : RaftInput) : Type 0 where
  pub ask : Ask
  pub is : log_ask input ≡ Some ask
  pub own : handed input ≡ Own (input_of ask)
  pub leads : (s : rafts.Raft Command) (turn : rafts.RaftTurn Command) → raft_steps.step cluster_spec n me s (input_of ask) ≡ Ok turn → is_leader turn.server.mode ≡ true → LeadsOn s turn.server

asked_by : (n me : ℕ) (input : RaftInput) → log_ask input ≢ None → IsAsked n me input
asked_by n me (raft_inputs.Frame bytes) asked = absurd (asked refl)
asked_by n me raft_inputs.Timeout asked = record { ask = AskTimeout; is = refl; own = refl; leads = timeout_step cluster_spec n me }
asked_by n me raft_inputs.Beat asked = record { ask = AskHeartbeat; is = refl; own = refl; leads = beat_step cluster_spec n me }
asked_by n me raft_inputs.Compact asked = record { ask = AskCompact; is = refl; own = refl; leads = compact_step cluster_spec n me }
asked_by n me raft_inputs.Crash asked = record { ask = AskCrash; is = refl; own = refl; leads = crash_step cluster_spec n me }
asked_by n me raft_inputs.Restart asked = record { ask = AskRestart; is = refl; own = refl; leads = restart_step cluster_spec n me }

down_leads_not : (mode : Mode) → is_up mode ≡ false → is_leader mode ≡ false
down_leads_not rafts.Down h = refl
down_leads_not rafts.Follower h = absurd (cc)
down_leads_not (rafts.Candidate votes) h = absurd (cc)
down_leads_not (rafts.Leader next match) h = absurd (cc)

lack_is_down : (old raft : RaftView State Command) (input : RaftInput) → log_ask input ≢ None → OutOfMemoryStays (handed input) old raft → is_leader raft.server.mode ≡ false
lack_is_down old raft (raft_inputs.Frame bytes) asked left = absurd (asked refl)
lack_is_down old raft raft_inputs.Timeout asked left = ap (λ (t : rafts.Raft Command). is_leader t.mode) left.0
lack_is_down old raft raft_inputs.Beat asked left = ap (λ (t : rafts.Raft Command). is_leader t.mode) left.0
lack_is_down old raft raft_inputs.Compact asked left = ap (λ (t : rafts.Raft Command). is_leader t.mode) left.0
lack_is_down old raft raft_inputs.Crash asked left = ap (λ (t : rafts.Raft Command). is_leader t.mode) left.0
lack_is_down old raft raft_inputs.Restart asked left =
    ap (λ (v : RaftView State Command). is_leader v.server.mode) left.1 ∙ down_leads_not old.server.mode left.0

module _ (old : ServerView) (raft : RaftView State Command) (seen desk : Option OpenDesk)
    (closed : desk ≡ where_leads (is_leader raft.server.mode) seen) (input : RaftInput) (asked : log_ask input ≢ None) where
  by : IsAsked old.raft.size old.raft.me input
  by = asked_by old.raft.size old.raft.me input asked

  pub own_takes : (before after : Outbox) (r : Answer)
      → OnOk r ((s : rafts.Raft Command) → RefinesRaft cluster_spec old.raft s → Takes cluster_spec old.raft s (handed input) raft before.frames after.frames)
      → OnOk r ((s next : rafts.Raft Command) → RefinesRaft cluster_spec old.raft s → RefinesRaft cluster_spec raft next → SeesStep cluster_spec DeskSees s next old.desk seen)
      → after.work ≡ before.work
      → OnOk r (TakesAsk old (log_ask input) (record { raft = raft; desk = desk }) before after)
  own_takes before after (Ok u) taken sees work =
      subst (λ a. TakesAsk old a (record { raft = raft; desk = desk }) before after) (sym by.is)
      (λ s is.
      let steps = subst (λ h. Takes cluster_spec old.raft s.raft h raft before.frames after.frames) by.own (taken s.raft is.raft) (input_of by.ask) refl in
      log_takes old (record { raft = raft; desk = desk }) seen before after (input_of by.ask) s is steps (sees s.raft steps.turn.server is.raft steps.refines) (by.leads s.raft) closed (Some by.ask) work)
  own_takes before after (Err cause) taken sees work = tt

  pub own_desk : (r : Answer) → IsLedBy old.raft old.desk
      → IfErr r (λ cause. Stays (handed input) cause old.raft raft)
      → IfErr r (λ cause. RefusalShows cause old.desk seen)
      → IfErr r (λ cause. DeskAfterRefusal cause old.desk desk)
  own_desk (Ok u) inside stays unseen = tt
  own_desk (Err refusals.NoMemory) inside stays unseen = none_kept old raft seen desk closed (lack_is_down old.raft raft input asked stays)
  own_desk (Err cause) inside stays unseen = all_kept old raft seen desk closed inside stays unseen

-- ---- a restart that is refused

closed_where_down : (raft : RaftView State Command) (d : Option OpenDesk) → is_up raft.server.mode ≡ false → IsLedBy raft d → d ≡ None
closed_where_down raft None down h = refl
closed_where_down raft (Some o) down h = absurd (let q : true ≡ false = sym h ∙ down_leads_not raft.server.mode down in cc)

pub restart_left : (old new : ServerView) (r : Answer) → IsLedBy old.raft old.desk → is_up old.raft.server.mode ≡ false
    → IfErr r (λ cause. Stays (Own raft_steps.Restart) cause old.raft new.raft)
    → IfErr r (λ cause. DeskAfterRefusal cause old.desk new.desk)
    → OnErr r (new ≡ old)
restart_left old new (Ok u) inside down left desk = tt
restart_left old new (Err refusals.NoMemory) inside down left desk =
    let same : new.desk ≡ old.desk = desk ∙ sym (closed_where_down old.raft old.desk down inside) in
    λ i. record { raft = left.1 i; desk = same i }
restart_left old new (Err cause) inside down left desk = λ i. record { raft = left i; desk = desk i }
