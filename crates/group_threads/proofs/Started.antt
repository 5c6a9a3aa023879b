-- A group that runs: why none was made, what an actor took, what a worker's server took.
use Rattle.std.proofs.Common.{◌≡◌, ℕ, zero, suc, List, [], ◌∷◌, Bool, true, false, true≢false, sym, refl, ap, ◌∙◌, subst, inl, inr, arith}
use Rattle.std.specs.Bool.{MatchBool, OnTrue}
use Rattle.std.specs.Prelude.{◌||◌, Result, Ok, Err, IfOk}
use Rattle.std.specs.List.{Contains}
use Rattle.rows.specs.declared.actor.Actor.{Actor}
use Rattle.rows.specs.declared.actor.Actor.TheVariants as actors
use Rattle.rows.specs.declared.refusal.Refusal.{Refusal}
use Rattle.rows.specs.declared.refusal.Refusal.TheVariants as refusals
use Rattle.rows.specs.declared.worker.Work.{Work}
use Rattle.lossy_net.specs.Queues.{AreNamedOnce, NoNet}
use Rattle.fsm_model.specs.Words.{State}
use Rattle.group_model.specs.NextStep.{IsNextStep, WorkerStep}
use Rattle.group_model.specs.NextStep as steps
use Rattle.group_model.specs.Worlds.{AtServer}
use Rattle.group_inputs.specs.declared.server_input.ServerInput.{ServerInput}
use Rattle.group_inputs.specs.Events.{server_input}
use Rattle.event_book.specs.Seats.{are_apart, lists_actor}
use Rattle.event_book.specs.Actors.{same_actor}
use Rattle.event_book.proofs.Actors.{and_true, is_same, not_true, or_later}
use Rattle.actor.specs.declared.group_actor.GroupActor.{GroupActor}
use Rattle.cells.specs.declared.own_input.OwnInput.{OwnInput}
use Rattle.workers.specs.declared.server_workers.Handled.{Handled}
use Rattle.workers.specs.declared.server_workers.Handled.TheVariants as handled
use Rattle.workers.specs.declared.server_workers.TakenWork.{TakenWork}
use Rattle.workers.specs.PlanCounts.{WorkersView, plans_under}
use Rattle.workers.specs.Working.{HandledAs}
use Rattle.cells.specs.Cells.{CellView, EnvelopeView, IsLedCell}
use Rattle.cells.specs.Turns.{CellHasState, TookTurn, WhyNoTurn, own_envelope}
use Rattle.group_threads.specs.Running.{TookInput, WhyNotRunning}
use Rattle.group_threads.specs.WorkerTurns.{AsksWith, CellIsBehind, IsBehind, IsTakenUp, RestsWith, StepsTo, TookAsked, TookAsking, WentSo, WhyNoWorkerTurn, WhyNotAsked, least_index}
use Rattle.group_threads.specs.Inner.Asked.{IsHandled, IsOwn, StepsAs, TookOwn, WhyNoStep, WhyNotOwn}

or_here : (b c : Bool) → b ≡ true → (b || c) ≡ true
or_here true c h = refl
or_here false c h = absurd (true≢false (sym h))

is_listed : (actors : List Actor) (a : Actor) → Contains actors a → lists_actor actors a ≡ true
is_listed [] a (k, within, is) = absurd (omega arith)
is_listed (x ∷ xs) a (zero, within, is) = or_here (same_actor x a) (lists_actor xs a) (is_same x a is)
is_listed (x ∷ xs) a (suc k, within, is) = or_later (same_actor x a) (lists_actor xs a) (is_listed xs a (k, omega arith, is))

named_once : (actors : List Actor) → are_apart actors ≡ true → AreNamedOnce actors
named_once [] apart = tt
named_once (x ∷ xs) apart =
    ((λ has. true≢false (sym (is_listed xs x has) ∙ not_true (lists_actor xs x) (are_apart xs) apart)), named_once xs (and_true (lists_actor xs x) (are_apart xs) apart))

-- a net of actors that stand once is refused for its room alone
pub why_not_running : (actors : List Actor) (capacity : ℕ) (r : Refusal) → are_apart actors ≡ true → NoNet actors capacity r → WhyNotRunning capacity r
why_not_running actors capacity r apart (inl (is, none)) = inl (is, λ capacity. none (capacity, named_once actors apart))
why_not_running actors capacity r apart (inr (is, has)) = inr (is, has.0)

pub took_input : (n : ℕ) (actor : Actor) (input : OwnInput) (work : List Work) (sent : List EnvelopeView) (unsent : ℕ) → TookTurn n (own_envelope actor input) work sent unsent → TookInput n actor input
took_input n actor input work sent unsent took = (work, sent, unsent, took)

-- ---- what a worker does with what it took up

pub each_is_handled : {E : Type 0} (state : State) (index : ℕ) (taken : TakenWork) (step : WorkerStep) (q : Result Handled E) → IsNextStep state index taken.work.response taken.plans step → IfOk q (HandledAs taken.work.from step)
    → IfOk q (IsHandled state index taken)
each_is_handled state index taken step (Ok h) next is = record { step = step; next = next; handled = is }
each_is_handled state index taken step (Err e) next is = is

pub cell_is_behind : (n server least : ℕ) (c : CellView) (a : GroupActor) (b : Bool) → IsLedCell n c → a ≡ c.actor → MatchBool b (IsBehind server least a) (¬ IsBehind server least a) → OnTrue b (CellIsBehind n server least)
cell_is_behind n server least c a true led is behind = (c, led, subst (IsBehind server least) is behind)
cell_is_behind n server least c a false led is behind = tt

pub steps_as : (n server : ℕ) (taken : TakenWork) (state found : State) (index : ℕ) (h : Handled) → CellHasState n (actors.Server server) state index → found ≡ state → IsHandled found index taken h → StepsAs n server taken h
steps_as n server taken state found index h applied same done =
    let d = subst (λ s. IsHandled s index taken h) same done in
    record {
      step = d.step;
      steps = record { state = state; index = index; applied = applied; next = d.next };
      handled = d.handled;
    }

module _ (n server : ℕ) (taken : TakenWork) where
  -- what becomes of it tells which step it was
  waits : (step : WorkerStep) → StepsTo n server taken step → HandledAs taken.work.from step handled.Waits → StepsTo n server taken steps.Later
  waits steps.Later to is = to
  waits steps.Drop to is = absurd cc
  waits (steps.Ask request) to is = absurd is

  dropped : (step : WorkerStep) → StepsTo n server taken step → HandledAs taken.work.from step handled.Dropped → StepsTo n server taken steps.Drop
  dropped steps.Later to is = absurd cc
  dropped steps.Drop to is = to
  dropped (steps.Ask request) to is = absurd is

  pub rests_behind : (b : Bool) (least : ℕ) → b ≡ false → least ≡ least_index taken.work.response → CellIsBehind n server least → RestsWith n server taken b
  rests_behind b least is same behind = subst (RestsWith n server taken) (sym is) (inl (subst (CellIsBehind n server) same behind))

  pub rests_later : (b : Bool) (h : Handled) → b ≡ false → h ≡ handled.Waits → StepsAs n server taken h → RestsWith n server taken b
  rests_later b h is waits_so so =
      let d = subst (StepsAs n server taken) waits_so so in
      subst (RestsWith n server taken) (sym is) (inr (waits d.step d.steps d.handled))

  pub rests_dropped : (b : Bool) (h : Handled) → b ≡ true → h ≡ handled.Dropped → StepsAs n server taken h → RestsWith n server taken b
  rests_dropped b h is dropped_so so =
      let d = subst (StepsAs n server taken) dropped_so so in
      subst (RestsWith n server taken) (sym is) (dropped d.step d.steps d.handled)

  asks : (input : ServerInput) (own : OwnInput) → IsOwn input own → (step : WorkerStep) → StepsTo n server taken step → HandledAs taken.work.from step (handled.Asks input) → AsksWith n server taken own
  asks input own each steps.Later to is = absurd cc
  asks input own each steps.Drop to is = absurd cc
  asks input own each (steps.Ask request) to is = record {
    request = request;
    step = to;
    asks = λ i. each.event i ∙ ap (λ k. AtServer i (server_input k)) is;
  }

  -- an own input that carries what is asked
  asks_with : (h : Handled) (input : ServerInput) (own : OwnInput) → h ≡ handled.Asks input → StepsAs n server taken h → IsOwn input own → AsksWith n server taken own
  asks_with h input own is so each =
      let d = subst (StepsAs n server taken) is so in
      asks input own each d.step d.steps d.handled

  pub took_asked : (h : Handled) (input : ServerInput) (work : List Work) (sent : List EnvelopeView) (unsent : ℕ) → h ≡ handled.Asks input → StepsAs n server taken h → TookOwn n server input work sent unsent → TookAsked n server taken work sent unsent
  took_asked h input work sent unsent is so t = (t.own, asks_with h input t.own is so t.is, t.took)

  -- why nothing came of it
  pub no_step_taken : (all : List Actor) (r : Refusal) → WhyNoStep n all server r → WhyNotAsked n all server taken r
  no_step_taken all r (inl none) = inl none
  no_step_taken all r (inr is) = inr (inl is)

  pub no_memory_taken : (all : List Actor) (r : Refusal) → r ≡ refusals.NoMemory → WhyNotAsked n all server taken r
  no_memory_taken all r is = inr (inl is)

  pub asked_refused : (all : List Actor) (h : Handled) (input : ServerInput) (r : Refusal) → h ≡ handled.Asks input → StepsAs n server taken h → WhyNotOwn n all server input r → WhyNotAsked n all server taken r
  asked_refused all h input r is so (inl none) = inr (inl none)
  asked_refused all h input r is so (inr (own, each, inl none)) = inl (inl none)
  asked_refused all h input r is so (inr (own, each, inr refuses)) = inr (inr (own, asks_with h input own is so each, refuses))

-- ---- what a server takes of what its workers ask

pub own_lacks_memory : (n server : ℕ) (all : List Actor) (input : ServerInput) (r : Refusal) → r ≡ refusals.NoMemory → WhyNotOwn n all server input r
own_lacks_memory n server all input r is = inl is

pub took_own : (n server : ℕ) (input : ServerInput) (own : OwnInput) (e : EnvelopeView) (work : List Work) (sent : List EnvelopeView) (unsent : ℕ) → IsOwn input own → e ≡ own_envelope (actors.Server server) own → TookTurn n e work sent unsent → TookOwn n server input work sent unsent
took_own n server input own e work sent unsent each is took = record { own = own; is = each; took = subst (λ k. TookTurn n k work sent unsent) is took }

pub own_refused : (n server : ℕ) (all : List Actor) (input : ServerInput) (own : OwnInput) (e : EnvelopeView) (r : Refusal) → IsOwn input own → e ≡ own_envelope (actors.Server server) own → WhyNoTurn n all (actors.Server server) e r → WhyNotOwn n all server input r
own_refused n server all input own e r each is why = inr (own, each, subst (λ k. WhyNoTurn n all (actors.Server server) k r) is why)

-- ---- a worker's turn

pub nothing_waited : (n server : ℕ) (before : WorkersView) (b : Bool) → b ≡ false → before.waiting ≡ [] → WentSo n server b
nothing_waited n server before b is none = subst (WentSo n server) (sym is) (inl (before, none))

pub taken_up : (taken : TakenWork) (before : WorkersView) (rest : List Work) → before.waiting ≡ taken.work ∷ rest → taken.plans ≡ plans_under taken.work.response before.plans → IsTakenUp taken
taken_up taken before rest oldest counted = record { before = before; rest = rest; oldest = oldest; counted = counted }

module _ (n server : ℕ) (taken : TakenWork) (up : IsTakenUp taken) where
  pub took_asking : (work : List Work) (sent : List EnvelopeView) (unsent : ℕ) → TookAsked n server taken work sent unsent → TookAsking n server work sent unsent
  took_asking work sent unsent took = (taken, up, took)

  pub went_so : (b : Bool) → RestsWith n server taken b → WentSo n server b
  went_so true rests = (taken, up, rests)
  went_so false rests = inr (taken, up, rests)

  pub why_no_turn : (all : List Actor) (r : Refusal) → WhyNotAsked n all server taken r → WhyNoWorkerTurn n all server r
  why_no_turn all r why = (taken, up, why)
