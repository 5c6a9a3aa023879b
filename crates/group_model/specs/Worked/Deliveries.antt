-- Deliveries of one evaluation: three at most, each under a token of its own, and then it is
-- failed.
use Rattle.std.specs.Prelude.{◌≡◌, ℕ, Option, Some, None, List, [], ◌∷◌, ◌++◌, map}
use Rattle.rows.specs.declared.evaluation.EvalId.{EvalId}
use Rattle.rows.specs.declared.token.Delivery.{Delivery}
use Rattle.rows.specs.declared.command.StatusChange.TheVariants as changes
use Rattle.rows.specs.declared.command.Command.TheVariants as commands
use Rattle.fsm_model.specs.Worked.Words.{eval_id}
use Rattle.group_model.specs.Desks.{Desk}
use Rattle.group_model.specs.Inputs as inputs
use Rattle.group_model.specs.Servers as servers
use Rattle.rows.specs.declared.worker.WorkerRequest.TheVariants.{Take}
use Rattle.rows.specs.declared.worker.WorkerResponse.TheVariants.{Delivered}
use Rattle.group_model.specs.Messages.{GroupMessage, Service, BetweenServers, Asks, Answers}
use Rattle.group_model.specs.Brokers.{Task, failed}
use Rattle.group_model.specs.Worked.Words.{token, entry, log, leader, after_inputs, sent_by}

-- server 1 asks
abbrev pub asks : inputs.Input
asks = inputs.Arrives (BetweenServers 1 0 (Asks Take))

-- what it gets, after these inputs
abbrev pub gets : List inputs.Input → List GroupMessage
gets before = sent_by (servers.step 3 0 (after_inputs leader before) asks)

abbrev pub gives : Option Delivery → List GroupMessage
gives what = Service (BetweenServers 0 1 (Answers (Delivered what))) ∷ []

abbrev pub four : ℕ → Option Delivery
four serial = Some (record { eval = eval_id 4 0; token = token 1 serial; wait = 4 })

abbrev pub lapse : inputs.Input
lapse = inputs.Lapse (eval_id 4 0)

abbrev pub thrice : List inputs.Input
thrice = asks ∷ lapse ∷ asks ∷ lapse ∷ asks ∷ lapse ∷ []

-- Each delivery has the next serial; after three there is none.
abbrev pub FirstDelivery : Type 0
FirstDelivery = gets [] ≡ gives (four 1)

abbrev pub SecondDelivery : Type 0
SecondDelivery = gets (asks ∷ lapse ∷ []) ≡ gives (four 2)

abbrev pub ThirdDelivery : Type 0
ThirdDelivery = gets (asks ∷ lapse ∷ asks ∷ lapse ∷ []) ≡ gives (four 3)

abbrev pub NoFourth : Type 0
NoFourth = gets thrice ≡ gives None

-- While it is out nobody gets it.
abbrev pub OutOnce : Type 0
OutOnce = gets (asks ∷ []) ≡ gives None

abbrev pub failed_at : Option Desk → List EvalId
failed_at None = []
failed_at (Some d) = map (λ (t : Task). t.id) (failed d.broker)

abbrev pub Failed : Type 0
Failed = failed_at (after_inputs leader thrice).desk ≡ eval_id 4 0 ∷ []

-- A reap appends that it failed; a second one appends nothing.
abbrev pub Reaped : Type 0
Reaped = (after_inputs leader (thrice ++ inputs.Reap ∷ [])).raft.log ≡ log ++ entry 1 (commands.EvalStatus (eval_id 4 0) changes.Failed) ∷ []

abbrev pub ReapedOnce : Type 0
ReapedOnce = (after_inputs leader (thrice ++ inputs.Reap ∷ inputs.Reap ∷ [])).raft.log ≡ log ++ entry 1 (commands.EvalStatus (eval_id 4 0) changes.Failed) ∷ []
