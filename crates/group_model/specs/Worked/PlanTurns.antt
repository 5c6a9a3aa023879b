-- Plan turns: two jobs that each want 600 of the one node's 1000.
use Rattle.std.specs.Prelude.{◌≡◌, ℕ, Bool, true, false, is_some, Some, None, Result, Ok, Err, List, [], ◌∷◌, ◌++◌}
use Rattle.rows.specs.declared.refusal.Refusal.{Refusal}
use Rattle.rows.specs.declared.plan.Plan.{Plan}
use Rattle.rows.specs.declared.command.Command.{Command}
use Rattle.rows.specs.declared.command.Command.TheVariants as commands
use Rattle.rows.specs.declared.reason.Reason.TheVariants as reasons
use Rattle.rows.specs.declared.worker.WorkerRequest.TheVariants.{Take, Submit}
use Rattle.rows.specs.declared.worker.AskedRequest.TheVariants as asked
use Rattle.rows.specs.declared.worker.WorkerResponse.TheVariants.{Delivered, PlanResult, Refused}
use Rattle.machine_model.specs.declared.entry.Entry.{Entry}
use Rattle.raft_model.specs.Rafts as rafts
use Rattle.fsm_model.specs.Words.{no_rows}
use Rattle.fsm_model.specs.Worked.Words.{main, size, eval_id}
use Rattle.group_model.specs.Desks.{after_entries}
use Rattle.group_model.specs.Inputs as inputs
use Rattle.group_model.specs.Servers as servers
use Rattle.group_model.specs.Servers.{Server}
use Rattle.group_model.specs.Messages.{Service, BetweenServers, Asks, Answers}
use Rattle.group_model.specs.Order.{in_order}
use Rattle.group_model.specs.Worked.Words.{token, entry, after_inputs, sent_by, a, b, narrow, at_narrow}

abbrev pub plan_of : ℕ → ℕ → List ℕ → Plan
plan_of index serial job = record {
  eval = eval_id index 0;
  token = token 1 serial;
  job = job;
  version = index;
  snapshot = 4;
  stops = [];
  places = record { group = main; index = 0; node = 1 } ∷ [];
}

abbrev pub submits : ℕ → Plan → inputs.Input
submits from p = inputs.Arrives (BetweenServers from 0 (Asks (Submit p)))

abbrev pub takes_from : ℕ → inputs.Input
takes_from from = inputs.Arrives (BetweenServers from 0 (Asks Take))

-- servers 1 and 2 were given the two evaluations, and submit their plans
abbrev pub both_submitted : List inputs.Input
both_submitted = takes_from 1 ∷ takes_from 2 ∷ submits 1 (plan_of 3 1 a) ∷ submits 2 (plan_of 4 2 b) ∷ []

-- the first plan is appended
abbrev pub FirstPlan : Type 0
FirstPlan = sent_by (servers.step 3 0 (after_inputs at_narrow both_submitted) inputs.PlanTurn) ≡ Service (BetweenServers 0 1 (Answers (PlanResult (record { eval = eval_id 3 0; token = token 1 1; last = 5; placed = 1; refused = [] })))) ∷ []

-- The second is held against the state after the whole log, where the first has its room, though
-- nothing more is committed.
abbrev pub SecondPlan : Type 0
SecondPlan = sent_by (servers.step 3 0 (after_inputs at_narrow (both_submitted ++ inputs.PlanTurn ∷ [])) inputs.PlanTurn) ≡ Service (BetweenServers 0 2 (Answers (PlanResult (record { eval = eval_id 4 0; token = token 1 2; last = 5; placed = 0; refused = 1 ∷ [] })))) ∷ []

-- what is appended of it
abbrev pub a_is_placed : Command
a_is_placed = commands.Plan (record {
  eval = eval_id 3 0;
  token = token 1 1;
  job = a;
  snapshot = 4;
  stops = [];
  places = record { group = main; index = 0; node = 1; size = size 600 100 } ∷ [];
})

abbrev pub OneEntry : Type 0
OneEntry = (after_inputs at_narrow (both_submitted ++ inputs.PlanTurn ∷ inputs.PlanTurn ∷ inputs.PlanTurn ∷ [])).raft.log ≡ narrow ++ entry 1 a_is_placed ∷ []

-- A plan under an earlier token of the evaluation is refused.
abbrev pub OldTokenPlan : Type 0
OldTokenPlan =
    sent_by (servers.step 3 0 (after_inputs at_narrow (takes_from 1 ∷ inputs.Lapse (eval_id 3 0) ∷ takes_from 2 ∷ submits 1 (plan_of 3 1 a) ∷ [])) inputs.PlanTurn)
    ≡ Service (BetweenServers 0 1 (Answers (Refused (asked.Submit (eval_id 3 0) (token 1 1)) reasons.TokenDiffers))) ∷ []

-- A leader of term 2 over the same rows, whose no-op is applied: a plan under a token of term 1 is
-- refused.
abbrev pub led_again : List (Entry Command)
led_again = narrow ++ entry 2 commands.Noop ∷ []

abbrev pub next_leader : Server
next_leader = record {
  raft = record { term = 2; vote = Some 0; log = led_again; covered = 0; commit = 5; known = None; mode = rafts.Leader (6 ∷ 6 ∷ 6 ∷ []) (0 ∷ 5 ∷ 0 ∷ []) };
  desk = after_entries 2 no_rows led_again None;
}

abbrev pub FirstOfTheTerm : Type 0
FirstOfTheTerm = sent_by (servers.step 3 0 next_leader (takes_from 1)) ≡ Service (BetweenServers 0 1 (Answers (Delivered (Some (record { eval = eval_id 3 0; token = token 2 1; wait = 5 }))))) ∷ []

abbrev pub OldTermPlan : Type 0
OldTermPlan =
    sent_by (servers.step 3 0 (after_inputs next_leader (takes_from 1 ∷ submits 1 (plan_of 3 1 a) ∷ [])) inputs.PlanTurn)
    ≡ Service (BetweenServers 0 1 (Answers (Refused (asked.Submit (eval_id 3 0) (token 1 1)) reasons.TokenDiffers))) ∷ []

abbrev pub open_after : Result servers.ServerTurn Refusal → Bool
open_after (Ok turn) = is_some turn.server.desk
open_after (Err r) = true

-- A desk does not outlive a crash.
abbrev pub ClosedByCrash : Type 0
ClosedByCrash = open_after (servers.step 3 0 (after_inputs at_narrow both_submitted) inputs.Crash) ≡ false

-- ---- the queue: of priorities 50, 70 and 70 the second goes, then the third, then the first

abbrev pub QueueOrder : Type 0
QueueOrder = in_order (λ (x : ℕ × ℕ). x.1) ((1, 50) ∷ (2, 70) ∷ (3, 70) ∷ []) ≡ (2, 70) ∷ (3, 70) ∷ (1, 50) ∷ []
