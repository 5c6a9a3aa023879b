-- What becomes of a plan that was judged.
use Rattle.std.specs.Prelude.{◌≡◌, ℕ, List, Result, Ok, IfOk, length}
use Rattle.rows.specs.Ids.{AreRisingNodes}
use Rattle.rows.specs.declared.allocation.AllocId.{AllocId}
use Rattle.rows.specs.declared.command.AcceptedPlace.{AcceptedPlace}
use Rattle.rows.specs.declared.command.AcceptedPlan.{AcceptedPlan}
use Rattle.rows.specs.declared.refusal.Refusal.{Refusal}
use Rattle.rows.specs.declared.worker.WorkerResponse.{WorkerResponse}
use Rattle.rows.specs.declared.worker.WorkerResponse.TheVariants.{PlanResult}
use Rattle.group_model.specs.Acceptance.{Accepted, plan_of_accepted}
use Rattle.group_model.specs.Desks.{QueuedPlan}
use Rattle.group_model.specs.Inputs.{Act}
use Rattle.group_model.specs.Plans.{after_accept}
use Rattle.group_model.specs.Servers.{Server, open_desk, at_desk}
use Rattle.leader.specs.Verdicts.{Judged}
use Rattle.server.specs.ServerViews.{ServerView}

-- what is kept of it is proposed, and its sender is told
abbrev pub settling : ServerView → Judged → Server → Result Act Refusal
settling view j s =
    at_desk (open_desk s) (λ d. Ok (after_accept view.raft.me s.raft d j.queued j.kept))

-- the nodes of which nothing is kept strictly rise
abbrev pub RefusesRising : Judged → Type 0
RefusesRising j = IfOk j.kept (λ (a : Accepted). AreRisingNodes a.refused)

-- what is kept
abbrev pub kept_with : List AllocId → List AcceptedPlace → List ℕ → Accepted
kept_with stops places refused = record { stops = stops; places = places; refused = refused }

-- the result that its sender is told
abbrev pub result_with : AcceptedPlan → ℕ → Accepted → WorkerResponse
result_with p last a = PlanResult (record {
  eval = p.eval;
  token = p.token;
  last = last;
  placed = length a.places;
  refused = a.refused;
})

-- this is kept of the plan of one that waited, submitted by this server's workers
pub record KeptOf (from : ℕ) (p : AcceptedPlan) (a : Accepted) (w : QueuedPlan) : Type 0 where
  pub sender : w.from ≡ from
  pub plan : p ≡ plan_of_accepted w.plan a
