-- The servers and workers of a scenario's group.
use Rattle.std.proofs.Common.{◌≡◌, ◌<◌, ◌++◌, ℕ, List, [], Option, Some, None, Result, Ok, Err, true, false, length, get_or, is_some, set, slice_get, append-nil, sym, refl, arith, inl, inr}
use Rattle.std.specs.Prelude.{◌≢◌, IfErr, MatchBool, MatchOption, OnOk}
use Rattle.std.proofs.lemmas.List.{set-get_or}
use Rattle.std.proofs.lemmas.Option.{slice_get_cases, slice_get_read}
use Rattle.rows.specs.declared.refusal.NoMemory.{NoMemory}
use Rattle.rows.specs.declared.refusal.Refusal.{Refusal}
use Rattle.rows.specs.declared.refusal.Refusal.TheVariants as refusals
use Rattle.rows.specs.declared.worker.Work.{Work}
use Rattle.raft_model.specs.Rafts.{is_up}
use Rattle.group_model.specs.Servers.{Server}
use Rattle.group_model.specs.Worlds.{Event}
use Rattle.group_inputs.specs.declared.server_input.ServerInput.{ServerInput}
use Rattle.server.specs.ServerViews.{RefinesServer, ServerView}
use Rattle.world.specs.GroupView.{GroupView}
use Rattle.workers.specs.PlanCounts.{WorkersView}
use Rattle.sim_play.specs.declared.play.Play.{Play}
use Rattle.sim_play.specs.PlayEvents.{EventRefused, Handed, IsDownIn, IsUpIn}
use Rattle.sim_play.specs.PlayWork.{IsAsked, WorkRefused, WorkersAsk, own_event}

-- ---- whether a server is up

module _ (world : GroupView) (server : ℕ) (view : ServerView) (at : Some view ≡ slice_get world.servers server) where
  pub down_in : ((s : Server) → RefinesServer view s → is_up s.raft.mode ≡ false) → IsDownIn world server
  down_in down other there s is = let same : other ≡ view = cc in down s (rw same at is)

  pub up_or_down : (applied : Option ℕ) → ((s : Server) → RefinesServer view s → MatchOption applied (is_up s.raft.mode ≡ false) (λ n. (is_up s.raft.mode ≡ true) × (n ≡ s.raft.commit))) → MatchBool (is_some applied) (IsUpIn world server) (IsDownIn world server)
  up_or_down None says = down_in says
  up_or_down (Some n) says = record { view = view; at = sym at; up = λ s is. (says s is).0 }

-- ---- the workers of one server

pub own_workers : (workers : List WorkersView) (place server : ℕ) (own : WorkersView) → length workers ≡ 5 → place ≡ server → place < 5 → own ≡ get_or workers place own → slice_get workers server ≡ Some own
own_workers workers place server own five is within at = rw (← is) (slice_get_read workers 5 place own (sym five) within at)

-- where nothing came, nothing changes
pub none_came : (world : GroupView) (server : ℕ) (workers : List WorkersView) → length workers ≡ 5 → server < 5 → IsUpIn world server → world.outbox.work ≡ [] → Handed world server workers workers
none_came world server workers five within up none = elim (slice_get_cases workers server).1 [
  | inl found ↦
      let own = found.0 in
      let same : own.waiting ++ world.outbox.work ≡ own.waiting = rw none (append-nil own.waiting) in
      record {
        before = own;
        after = own;
        own = found.2;
        handed = inl (up, rw same refl);
        others = sym (rw found.3 at (set-get_or workers server own));
      }
  | inr past ↦ absurd (omega (arith, past.0))
]

module _ (world : GroupView) (server place : ℕ) (workers : List WorkersView) (before after : WorkersView) (five : length workers ≡ 5) (is : place ≡ server) (within : place < 5) (at : before ≡ get_or workers place before) where
  grown : after.waiting ≡ before.waiting ++ world.outbox.work → after.plans ≡ before.plans → after ≡ record before { waiting = before.waiting ++ world.outbox.work }
  grown waiting plans = rw (← waiting, ← plans) refl

  -- what came waits behind what waited
  pub came : IsUpIn world server → (work : List Work) → work ≡ world.outbox.work → (r : Result (Unit {0}) NoMemory) → OnOk r (after.waiting ≡ before.waiting ++ work) → after.plans ≡ before.plans → OnOk r (Handed world server workers (set workers place after))
  came up work all (Ok u) waiting plans = record {
    before = before;
    after = after;
    own = own_workers workers place server before five is within at;
    handed = inl (up, grown (rw all at waiting) plans);
    others = rw is refl;
  }
  came up work all (Err e) waiting plans = tt

-- ---- a turn of a worker

module _ (old : Play) (place server : ℕ) (before after : WorkersView) (asked : Option ServerInput) (five : length old.workers ≡ 5) (is : place ≡ server) (within : place < 5) (at : before ≡ get_or old.workers place before) (asks : IsAsked old.world server before asked after) where
  abbrev asked_play : Play
  asked_play = record old { workers = set old.workers place after }

  workers_ask : WorkersAsk old server asked asked_play
  workers_ask = record {
    before = before;
    after = after;
    own = own_workers old.workers place server before five is within at;
    asks = asks;
    others = rw is refl;
  }

  -- what was asked is refused
  pub ask_refused : (input : ServerInput) → asked ≡ Some input → (event : Event) → event ≡ own_event server input → (new : Play) → (r : Result (Unit {0}) Refusal)
      → IfErr r (λ refusal. refusal ≢ refusals.NoMemory → EventRefused asked_play event refusal new) → IfErr r (λ refusal. refusal ≢ refusals.NoMemory → WorkRefused old server refusal new)
  ask_refused input some event sent new (Ok u) refused = tt
  ask_refused input some event sent new (Err e) refused = λ other. record {
    asked = asked;
    between = asked_play;
    worked = workers_ask;
    refused = rw some (rw sent at (refused other));
  }
