-- When an act is within limits: what it proposes, what it sends, and the plans at its desk.
use Rattle.std.proofs.Common.{◌≡◌, Bool, true, false, cond, Option, Some, None, Result, Ok, Err}
use Rattle.std.specs.List.{AllByRecursion}
use Rattle.rows.specs.Fits.{EvalIdFits, PlanFits, CommandFits}
use Rattle.rows.specs.declared.refusal.Refusal.{Refusal}
use Rattle.rows.specs.States.{IsState}
use Rattle.group_model.specs.Brokers.{Task}
use Rattle.group_model.specs.Desks.{Desk, QueuedPlan, applied_state, projected_state}
use Rattle.group_model.specs.Inputs.{Act, Ask, AskPropose}
use Rattle.group_model.specs.Servers.{Server}
use Rattle.group_safety.specs.Limits.{ServiceFits}

abbrev pub AskFits : Option Ask → Type 0
AskFits (Some (AskPropose c)) = CommandFits c
AskFits _ = Unit {0}

abbrev pub QueuedFits : QueuedPlan → Type 0
QueuedFits w = PlanFits w.plan

abbrev pub DeskFits : Option Desk → Type 0
DeskFits None = Unit {0}
DeskFits (Some d) = AllByRecursion QueuedFits d.plans

abbrev pub TaskFits : Task → Type 0
TaskFits t = EvalIdFits t.id

pub record Ranged (act : Act) : Type 0 where
  pub ask : AskFits act.ask
  pub sent : AllByRecursion ServiceFits act.sent
  pub desk : DeskFits act.desk

abbrev pub RangedResult : Result Act Refusal → Type 0
RangedResult (Err r) = Unit {0}
RangedResult (Ok act) = Ranged act

-- a server whose states and desk are within their limits
pub record ServerIsInRange (s : Server) : Type 0 where
  pub applied : IsState (applied_state s.raft)
  pub whole : IsState (projected_state s.raft)
  pub desk : DeskFits s.desk
  pub tasks : (d : Desk) → s.desk ≡ Some d → AllByRecursion TaskFits d.broker.tasks

pub ranged_cond : (b : Bool) (x y : Act) → Ranged x → Ranged y → Ranged (cond b x y)
ranged_cond true x y a c = a
ranged_cond false x y a c = c

pub result_cond : (b : Bool) (x y : Result Act Refusal) → RangedResult x → RangedResult y → RangedResult (cond b x y)
result_cond true x y a c = a
result_cond false x y a c = c
