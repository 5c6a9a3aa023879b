-- Which values the types hold: the ranges of the parts of ids, rows and commands.
use Rattle.std.specs.Prelude.{ℕ, ◌<◌, ◌≤◌, ◌^◌, List, length}
use Rattle.std.specs.List.{AllByRecursion}
use Rattle.rows.specs.Names.{NameFits}
use Rattle.rows.specs.Groups.{AreGroups}
use Rattle.rows.specs.Batches.{BatchFits}
use Rattle.rows.specs.Ids.{AreRisingIds, AreRisingNodes}
use Rattle.rows.specs.Listings.{AreListed}
use Rattle.rows.specs.declared.size.Size.{Size}
use Rattle.rows.specs.declared.token.Token.{Token}
use Rattle.rows.specs.declared.token.Delivery.{Delivery}
use Rattle.rows.specs.declared.job.Group.{Group}
use Rattle.rows.specs.declared.job.JobSpec.{JobSpec}
use Rattle.rows.specs.declared.job.Job.{Job}
use Rattle.rows.specs.declared.node.NodeSpec.{NodeSpec}
use Rattle.rows.specs.declared.node.Node.{Node}
use Rattle.rows.specs.declared.evaluation.EvalId.{EvalId}
use Rattle.rows.specs.declared.evaluation.Evaluation.{Evaluation}
use Rattle.rows.specs.declared.allocation.AllocId.{AllocId}
use Rattle.rows.specs.declared.allocation.Allocation.{Allocation}
use Rattle.rows.specs.declared.plan.Place.{Place}
use Rattle.rows.specs.declared.plan.Plan.{Plan}
use Rattle.rows.specs.declared.command.StatusChange.{StatusChange}
use Rattle.rows.specs.declared.command.StatusChange.TheVariants as changes
use Rattle.rows.specs.declared.command.AcceptedPlace.{AcceptedPlace}
use Rattle.rows.specs.declared.command.AcceptedPlan.{AcceptedPlan}
use Rattle.rows.specs.declared.command.Report.{Report}
use Rattle.rows.specs.declared.command.Command.{Command}
use Rattle.rows.specs.declared.listing.ListedAllocation.{ListedAllocation}
use Rattle.rows.specs.declared.command.Command.TheVariants as commands

-- ---- numbers

abbrev pub IndexFits : ℕ → Type 0
IndexFits n = n < 2 ^ 40

-- of an entry, a leader's term, a serial
abbrev pub FromOneFits : ℕ → Type 0
FromOneFits n = (1 ≤ n) × (n < 2 ^ 40)

abbrev pub QuantityFits : ℕ → Type 0
QuantityFits n = (1 ≤ n) × (n ≤ 1000000)

abbrev pub SpaceFits : ℕ → Type 0
SpaceFits n = n ≤ 1000000

abbrev pub NodeIdFits : ℕ → Type 0
NodeIdFits n = (1 ≤ n) × (n ≤ 64)

abbrev pub OrdinalFits : ℕ → Type 0
OrdinalFits n = n ≤ 63

abbrev pub PriorityFits : ℕ → Type 0
PriorityFits n = (1 ≤ n) × (n ≤ 100)

abbrev pub GroupCountFits : ℕ → Type 0
GroupCountFits n = n ≤ 64

-- ---- sizes, ids, tokens

abbrev pub SizeFits : Size → Type 0
SizeFits z = QuantityFits z.cpu × QuantityFits z.mem × SpaceFits z.disk

abbrev pub EvalIdFits : EvalId → Type 0
EvalIdFits e = FromOneFits e.index × (e.slot < 256)

abbrev pub AllocIdFits : AllocId → Type 0
AllocIdFits a = FromOneFits a.index × OrdinalFits a.slot

abbrev pub TokenFits : Token → Type 0
TokenFits t = FromOneFits t.term × FromOneFits t.serial

abbrev pub DeliveryFits : Delivery → Type 0
DeliveryFits d = EvalIdFits d.eval × TokenFits d.token × IndexFits d.wait

-- ---- rows

abbrev pub GroupFits : Group → Type 0
GroupFits g = NameFits g.name × GroupCountFits g.count × NameFits g.class × SizeFits g.size

abbrev pub GroupsFit : List Group → Type 0
GroupsFit gs = AreGroups gs × AllByRecursion GroupFits gs

abbrev pub JobSpecFits : JobSpec → Type 0
JobSpecFits j = NameFits j.name × PriorityFits j.priority × GroupsFit j.groups

abbrev pub JobFits : Job → Type 0
JobFits j = NameFits j.name × PriorityFits j.priority × IndexFits j.version × GroupsFit j.groups

abbrev pub NodeSpecFits : NodeSpec → Type 0
NodeSpecFits n = NodeIdFits n.number × NameFits n.class × SizeFits n.size

abbrev pub NodeFits : Node → Type 0
NodeFits n = NodeIdFits n.number × NameFits n.class × SizeFits n.size × IndexFits n.room

abbrev pub EvaluationFits : Evaluation → Type 0
EvaluationFits e = EvalIdFits e.id × NameFits e.job × PriorityFits e.priority × IndexFits e.snapshot

abbrev pub AllocationFits : Allocation → Type 0
AllocationFits a = AllocIdFits a.id × NameFits a.job × NameFits a.group × OrdinalFits a.index × NodeIdFits a.node × SizeFits a.size × EvalIdFits a.eval

-- ---- plans and commands

abbrev pub PlaceFits : Place → Type 0
PlaceFits p = NameFits p.group × OrdinalFits p.index × NodeIdFits p.node

abbrev pub PlanFits : Plan → Type 0
PlanFits p = EvalIdFits p.eval × TokenFits p.token × NameFits p.job × IndexFits p.version × IndexFits p.snapshot × BatchFits AllocIdFits p.stops × BatchFits PlaceFits p.places

abbrev pub StatusChangeFits : StatusChange → Type 0
StatusChangeFits (changes.Blocked snapshot) = IndexFits snapshot
StatusChangeFits _ = Unit {0}

abbrev pub AcceptedPlaceFits : AcceptedPlace → Type 0
AcceptedPlaceFits p = NameFits p.group × OrdinalFits p.index × NodeIdFits p.node × SizeFits p.size

abbrev pub AcceptedPlanFits : AcceptedPlan → Type 0
AcceptedPlanFits p = EvalIdFits p.eval × TokenFits p.token × NameFits p.job × IndexFits p.snapshot × BatchFits AllocIdFits p.stops × BatchFits AcceptedPlaceFits p.places

abbrev pub ReportFits : Report → Type 0
ReportFits r = AllocIdFits r.id

abbrev pub ReportsFit : List Report → Type 0
ReportsFit rs = (1 ≤ length rs) × BatchFits ReportFits rs

abbrev pub RisingIdsFit : List AllocId → Type 0
RisingIdsFit ids = AreRisingIds ids × AllByRecursion AllocIdFits ids

-- nodes in strictly rising number are at most 64
abbrev pub RisingNodesFit : List ℕ → Type 0
RisingNodesFit nodes = AreRisingNodes nodes × BatchFits NodeIdFits nodes

abbrev pub ListedAllocationFits : ListedAllocation → Type 0
ListedAllocationFits r = AllocIdFits r.id × SizeFits r.size

abbrev pub ListingFits : List ListedAllocation → Type 0
ListingFits rows = AreListed rows × AllByRecursion ListedAllocationFits rows

abbrev pub CommandFits : Command → Type 0
CommandFits commands.Noop = Unit {0}
CommandFits (commands.JobPut job) = JobSpecFits job
CommandFits (commands.JobStop name) = NameFits name
CommandFits (commands.NodePut node) = NodeSpecFits node
CommandFits (commands.NodeDown node) = NodeIdFits node
CommandFits (commands.Disconnect node) = NodeIdFits node
CommandFits (commands.Drain node force) = NodeIdFits node
CommandFits (commands.DrainDone node) = NodeIdFits node
CommandFits (commands.Migrate ids) = RisingIdsFit ids
CommandFits (commands.EvalPut name) = NameFits name
CommandFits (commands.EvalStatus eval change) = EvalIdFits eval × StatusChangeFits change
CommandFits (commands.Plan plan) = AcceptedPlanFits plan
CommandFits (commands.Report node items) = NodeIdFits node × ReportsFit items
