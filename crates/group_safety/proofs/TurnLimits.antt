-- A server whose act is within limits is within them after its turn, and sends what is.
use Rattle.std.proofs.Common.{◌≡◌, ℕ, Bool, true, false, cond, ◌==◌, Option, Some, None, Result, Ok, Err, List, [], ◌∷◌, subst, slice_get}
use Rattle.rows.specs.declared.command.Command.{Command}
use Rattle.rows.specs.declared.refusal.Refusal.{Refusal}
use Rattle.fields_model.proofs.RangeLaws.{fits_command}
use Rattle.machine_model.specs.declared.entry.Entry.{Entry}
use Rattle.raft_model.specs.Messages.{Message}
use Rattle.raft_model.specs.Rafts as rafts
use Rattle.raft_model.specs.Rafts.{Raft, is_leader}
use Rattle.raft_model.specs.Steps as raft_steps
use Rattle.raft_model.proofs.Cases.{same_ok}
use Rattle.fsm_model.specs.Words.{State}
use Rattle.fsm_model.specs.Effect.{applied}
use Rattle.fsm_model.specs.ClusterMachine.{cluster_spec}
use Rattle.group_model.specs.Messages.{Service, ServiceMessage}
use Rattle.group_model.specs.Desks.{Desk, follow_state, opened, after_entry, after_entries, applied_state, newly, desk_after}
use Rattle.group_model.specs.Inputs.{Act, Ask, AskTimeout, AskHeartbeat, AskPropose, AskCompact, AskCrash, AskRestart, input_of, rests}
use Rattle.group_model.specs.Servers as servers
use Rattle.group_model.specs.Servers.{Server, logged, asks_log, done}
use Rattle.group_model.specs.Worlds.{LogEventFits, log_request, event_at}
use Rattle.group_safety.specs.Limits.{ServiceFits}
use Rattle.group_safety.proofs.Honesty.{all_get, sent_from, service_from}
use Rattle.group_safety.proofs.ActRanges.{AskFits, DeskFits, Ranged, RangedResult}

-- ---- a desk after entries

opens_fit : (b : Bool) (s : State) → DeskFits (cond b (Some (opened s)) None)
opens_fit true s = tt
opens_fit false s = tt

entries_fit : (term : ℕ) (es : List (Entry Command)) (s : State) (d : Option Desk) → DeskFits d → DeskFits (after_entries term s es d)
entries_fit term [] s d h = h
entries_fit term (e ∷ es) s None h = entries_fit term es (applied s e.command) (after_entry term e.term (applied s e.command) None) (opens_fit (e.term == term) (applied s e.command))
entries_fit term (e ∷ es) s (Some d) h = entries_fit term es (applied s e.command) (Some (follow_state (applied s e.command) d)) h

after_fits : (b : Bool) (x : Option Desk) → DeskFits x → DeskFits (cond b x None)
after_fits true x h = h
after_fits false x h = tt

pub desk_fits : (s t : Raft Command) (d : Option Desk) → DeskFits d → DeskFits (desk_after s t d)
desk_fits s t d h = after_fits (is_leader t.mode) (after_entries t.term (applied_state s) (newly s t) d) (entries_fit t.term (newly s t) (applied_state s) d h)

-- ---- a server's turn

-- its desk and its messages are within their limits
pub record TurnFits (turn : servers.ServerTurn) : Type 0 where
  pub desk : DeskFits turn.server.desk
  pub services : (j : ℕ) (p : ServiceMessage) → slice_get turn.sent j ≡ Some (Service p) → ServiceFits p

pub turn_is : (a b : servers.ServerTurn) → let x : Result servers.ServerTurn Refusal = Ok a in x ≡ Ok b → TurnFits a → TurnFits b
turn_is a b e h = subst TurnFits (same_ok a b e) h

module _ (n i : ℕ) (s : Server) where
  logged_fits : (act : Act) (r : Result (rafts.RaftTurn Command) Refusal) (turn : servers.ServerTurn) → Ranged act → logged s act r ≡ Ok turn → TurnFits turn
  logged_fits act (Err e) turn h is = absurd (cc)
  logged_fits act (Ok t) turn h is = turn_is _ turn is (record {
    desk = desk_fits s.raft t.server act.desk h.desk;
    services = λ j p at. let q = sent_from t.sent act.sent j p at in all_get ServiceFits act.sent h.sent q.0 p q.1;
  })

  asks_fits : (act : Act) (o : Option Ask) (turn : servers.ServerTurn) → Ranged act → asks_log n i s act o ≡ Ok turn → TurnFits turn
  asks_fits act None turn h is = turn_is _ turn is (record { desk = h.desk; services = λ j p at. let q = service_from act.sent j p at in all_get ServiceFits act.sent h.sent q.0 p q.1 })
  asks_fits act (Some ask) turn h is = logged_fits act (raft_steps.step cluster_spec n i s.raft (input_of ask)) turn h is

  pub done_fits : (r : Result Act Refusal) (turn : servers.ServerTurn) → RangedResult r → done n i s r ≡ Ok turn → TurnFits turn
  done_fits (Err e) turn h is = absurd (cc)
  done_fits (Ok act) turn h is = asks_fits act act.ask turn h is

  pub log_message_fits : (message : Message Command) (turn : servers.ServerTurn) → DeskFits s.desk → servers.takes_log_message n i s message ≡ Ok turn → TurnFits turn
  log_message_fits message turn h is = logged_fits (rests s.desk) (raft_steps.step cluster_spec n i s.raft (raft_steps.Arrives message)) turn (record { ask = tt; sent = tt; desk = h }) is

-- what is asked of the log is an event of its world
pub asks_event : (i : ℕ) (o : Option Ask) → AskFits o → LogEventFits (event_at i o)
asks_event i None h = tt
asks_event i (Some AskTimeout) h = tt
asks_event i (Some AskHeartbeat) h = tt
asks_event i (Some (AskPropose c)) h = fits_command c h
asks_event i (Some AskCompact) h = tt
asks_event i (Some AskCrash) h = tt
asks_event i (Some AskRestart) h = tt

pub result_event : (i : ℕ) (r : Result Act Refusal) → RangedResult r → LogEventFits (event_at i (log_request r))
result_event i (Err e) h = tt
result_event i (Ok act) h = asks_event i act.ask h.ask
