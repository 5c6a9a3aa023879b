-- Whether a node has room for one more of a group, and the first reason where it has none; and how
-- many nodes there are of each verdict.
use Rattle.std.specs.Prelude.{◌≡◌, ℕ, ◌+◌, Bool, nat_eq, nat_le, bytes_eq, if◌then◌else◌, List}
use Rattle.std.specs.List.{count_by}
use Rattle.rows.specs.declared.size.Size.{Size}
use Rattle.rows.specs.declared.job.Group.{Group}
use Rattle.rows.specs.declared.node.Node.{Node}
use Rattle.rows.specs.NodeStatuses.{is_ready}
use Rattle.fsm_tables.specs.Claims.{Claim, used}
use Rattle.sim_metrics.specs.declared.counting.NodeCounts.{NodeCounts}
use Rattle.sim_metrics.specs.declared.verdict.Verdict.{Verdict}
use Rattle.sim_metrics.specs.declared.verdict.Verdict.TheVariants.{OtherClass, NotReady, NotEligible, LacksCpu, LacksMemory, LacksDisk, HasRoom}

-- the first reason, by the tests of class, of readiness, of eligibility, of processor time, of
-- memory and of disk
abbrev pub first_reason : (of_class ready eligible cpu memory disk : Bool) → Verdict
first_reason of_class ready eligible cpu memory disk =
    if of_class then (if ready then (if eligible then (if cpu then (if memory then (if disk then HasRoom else LacksDisk) else LacksMemory) else LacksCpu) else NotEligible) else NotReady) else OtherClass

-- where so much of the node is in use
abbrev pub verdict_with : Size → Group → Node → Verdict
verdict_with load g n =
    first_reason (bytes_eq n.class g.class) (is_ready n.status) n.eligible (nat_le (load.cpu + g.size.cpu) n.size.cpu) (nat_le (load.mem + g.size.mem) n.size.mem)
    (nat_le (load.disk + g.size.disk) n.size.disk)

-- where so much is claimed
abbrev pub verdict : List Claim → Group → Node → Verdict
verdict cs g n = verdict_with (used n.number cs) g n

-- ---- counts

abbrev pub verdict_number : Verdict → ℕ
verdict_number OtherClass = 0
verdict_number NotReady = 1
verdict_number NotEligible = 2
verdict_number LacksCpu = 3
verdict_number LacksMemory = 4
verdict_number LacksDisk = 5
verdict_number HasRoom = 6

abbrev pub is_verdict : Verdict → Verdict → Bool
is_verdict kind v = nat_eq (verdict_number kind) (verdict_number v)

-- how many there are of each
pub record AreCounts (vs : List Verdict) (c : NodeCounts) : Type 0 where
  pub other_class : c.other_class ≡ count_by (is_verdict OtherClass) vs
  pub not_ready : c.not_ready ≡ count_by (is_verdict NotReady) vs
  pub not_eligible : c.not_eligible ≡ count_by (is_verdict NotEligible) vs
  pub lack_cpu : c.lack_cpu ≡ count_by (is_verdict LacksCpu) vs
  pub lack_memory : c.lack_memory ≡ count_by (is_verdict LacksMemory) vs
  pub lack_disk : c.lack_disk ≡ count_by (is_verdict LacksDisk) vs
  pub have_room : c.have_room ≡ count_by (is_verdict HasRoom) vs

-- how many there are in all
abbrev pub total_of : NodeCounts → ℕ
total_of c = c.other_class + c.not_ready + c.not_eligible + c.lack_cpu + c.lack_memory + c.lack_disk + c.have_room
