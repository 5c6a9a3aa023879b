-- Commands of the replicated state, and what a worker submits.
use Rattle.std.specs.Prelude.{ℕ, nat_lt, if◌then◌else◌, ◌^◌, Bool, List, [], ◌∷◌, Option, Some, None}
use Rattle.rows.specs.Ids.{id_rises}
use Rattle.rows.specs.Changes.{status_of, snapshot_of}
use Rattle.rows.specs.declared.allocation.AllocId.{AllocId}
use Rattle.rows.specs.declared.evaluation.EvalId.{EvalId}
use Rattle.rows.specs.declared.evaluation.EvalStatus.{EvalStatus}
use Rattle.rows.specs.declared.evaluation.EvalStatus.TheVariants as eval_statuses
use Rattle.rows.specs.declared.job.JobSpec.{JobSpec}
use Rattle.rows.specs.declared.node.NodeSpec.{NodeSpec}
use Rattle.rows.specs.declared.plan.Place.{Place}
use Rattle.rows.specs.declared.plan.Plan.{Plan}
use Rattle.rows.specs.declared.command.AcceptedPlace.{AcceptedPlace}
use Rattle.rows.specs.declared.command.AcceptedPlan.{AcceptedPlan}
use Rattle.rows.specs.declared.command.Report.{Report}
use Rattle.rows.specs.declared.command.ReportedState.{ReportedState}
use Rattle.rows.specs.declared.command.ReportedState.TheVariants as reported
use Rattle.rows.specs.declared.command.StatusChange.{StatusChange}
use Rattle.rows.specs.declared.command.StatusChange.TheVariants as changes
use Rattle.rows.specs.declared.command.Command.{Command}
use Rattle.rows.specs.declared.command.Command.TheVariants as commands
use Rattle.fields_model.specs.Format.{Format, number, nothing, enumerated, made, ◌then◌, depends, list, ruled_list, some, tagged, variant, never, choice}
use Rattle.fields_model.specs.Fields.{index, bool}
use Rattle.fields_model.specs.Ids.{name, size, node_id, ordinal, priority, evaluation_id, allocation_id, token}
use Rattle.fields_model.specs.Rows.{groups, eval_status, allocation_id_behind}

-- ---- what commands hold

-- what is asked of a job: its name, priority and groups
abbrev pub job_spec : ℕ → Format JobSpec
job_spec version = made (λ p. record { name = p.0; priority = p.1.0; groups = p.1.1 }) (λ j. (j.name, (j.priority, j.groups))) (name then priority then (groups version))

-- what a node says of itself: its number, class and size
abbrev pub node_spec : ℕ → Format NodeSpec
node_spec version = made (λ p. record { number = p.0; class = p.1.0; size = p.1.1 }) (λ n. (n.number, (n.class, n.size))) (node_id then name then (size version))

abbrev pub batch : {A : Type 0} → Format A → Format (List A)
batch f = list 1 64 f

-- at most 64 ids in any order, and 1 to 64 that rise strictly
abbrev pub stops : Format (List AllocId)
stops = list 1 64 allocation_id

abbrev pub rising_ids : Format (List AllocId)
rising_ids = some (ruled_list 1 64 id_rises allocation_id allocation_id_behind)

-- a place of a plan: group, index and node; and one that was accepted, with its size
abbrev pub place : Format Place
place = made (λ p. record { group = p.0; index = p.1.0; node = p.1.1 }) (λ x. (x.group, (x.index, x.node))) (name then ordinal then node_id)

abbrev pub accepted_place : ℕ → Format AcceptedPlace
accepted_place version = made (λ p. record { group = p.0; index = p.1.0; node = p.1.1.0; size = p.1.1.1 }) (λ x. (x.group, (x.index, (x.node, x.size)))) (name then ordinal then node_id then (size version))

-- what a worker submits: evaluation, token, job, version, snapshot, stops and places
abbrev pub plan_end : Format (ℕ × (ℕ × (List AllocId × List Place)))
plan_end = index then index then stops then list 1 64 place

abbrev pub plan : Format Plan
plan = made (λ p. let end = p.1.1.1 in record { eval = p.0; token = p.1.0; job = p.1.1.0; version = end.0; snapshot = end.1.0; stops = end.1.1.0; places = end.1.1.1 })
    (λ x. (x.eval, (x.token, (x.job, (x.version, (x.snapshot, (x.stops, x.places))))))) (evaluation_id then token then name then plan_end)

-- what was accepted of one: evaluation, token, job, snapshot, stops and places
abbrev pub accepted_end : ℕ → Format (ℕ × (List AllocId × List AcceptedPlace))
accepted_end version = index then stops then list 1 64 (accepted_place version)

abbrev pub accepted_plan : ℕ → Format AcceptedPlan
accepted_plan version = made (λ p. let end = p.1.1.1 in record { eval = p.0; token = p.1.0; job = p.1.1.0; snapshot = end.0; stops = end.1.0; places = end.1.1 })
    (λ x. (x.eval, (x.token, (x.job, (x.snapshot, (x.stops, x.places)))))) (evaluation_id then token then name then (accepted_end version))

-- one byte: 1 running, 2 complete, 3 failed
abbrev pub code_of_reported : ReportedState → ℕ
code_of_reported reported.Running = 1
code_of_reported reported.Complete = 2
code_of_reported reported.Failed = 3

abbrev pub reported_state : Format ReportedState
reported_state = enumerated 1 (reported.Running ∷ reported.Complete ∷ reported.Failed ∷ []) code_of_reported

-- an item of a report: the allocation and its state; a report has 1 to 64
abbrev pub report : Format Report
report = made (λ p. record { id = p.0; state = p.1 }) (λ r. (r.id, r.state)) (allocation_id then reported_state)

abbrev pub reports : Format (List Report)
reports = some (list 1 64 report)

-- what becomes of an evaluation: the status, and the index of the state at which it was found
-- blocked, which is 0 for any other
abbrev pub snapshot_limit : EvalStatus → ℕ
snapshot_limit eval_statuses.Blocked = 2 ^ 40
snapshot_limit _ = 1

abbrev pub change_to : EvalStatus × ℕ → StatusChange
change_to (eval_statuses.Pending, snapshot) = changes.Pending
change_to (eval_statuses.Blocked, snapshot) = changes.Blocked snapshot
change_to (eval_statuses.Complete, snapshot) = changes.Complete
change_to (eval_statuses.Failed, snapshot) = changes.Failed

abbrev pub change_parts : StatusChange → EvalStatus × ℕ
change_parts c = (status_of c, snapshot_of c)

abbrev pub status_change : Format StatusChange
status_change = made change_to change_parts (depends eval_status 8 (λ status. number 8 0 (snapshot_limit status)))

-- ---- commands

abbrev pub tag_of : Command → ℕ
tag_of commands.Noop = 0
tag_of (commands.JobPut _) = 1
tag_of (commands.JobStop _) = 2
tag_of (commands.NodePut _) = 3
tag_of (commands.NodeDown _) = 4
tag_of (commands.Drain _ _) = 5
tag_of (commands.DrainDone _) = 6
tag_of (commands.Migrate _) = 7
tag_of (commands.EvalPut _) = 8
tag_of (commands.EvalStatus _ _) = 9
tag_of (commands.Plan _) = 10
tag_of (commands.Report _ _) = 11
tag_of (commands.Disconnect _) = 12

-- how many tags there are in a version
abbrev pub tags_in : ℕ → ℕ
tags_in version = if nat_lt version 3 then 12 else 13

-- what a command of each kind holds
abbrev pub noop_of : Command → Option (Unit {0})
noop_of commands.Noop = Some tt
noop_of _ = None

abbrev pub job_put_of : Command → Option (JobSpec)
job_put_of (commands.JobPut x) = Some x
job_put_of _ = None

abbrev pub job_stop_of : Command → Option (List ℕ)
job_stop_of (commands.JobStop x) = Some x
job_stop_of _ = None

abbrev pub node_put_of : Command → Option (NodeSpec)
node_put_of (commands.NodePut x) = Some x
node_put_of _ = None

abbrev pub node_down_of : Command → Option (ℕ)
node_down_of (commands.NodeDown x) = Some x
node_down_of _ = None

abbrev pub disconnect_of : Command → Option (ℕ)
disconnect_of (commands.Disconnect x) = Some x
disconnect_of _ = None

abbrev pub drain_of : Command → Option (ℕ × Bool)
drain_of (commands.Drain x y) = Some (x, y)
drain_of _ = None

abbrev pub drain_done_of : Command → Option (ℕ)
drain_done_of (commands.DrainDone x) = Some x
drain_done_of _ = None

abbrev pub migrate_of : Command → Option (List AllocId)
migrate_of (commands.Migrate x) = Some x
migrate_of _ = None

abbrev pub eval_put_of : Command → Option (List ℕ)
eval_put_of (commands.EvalPut x) = Some x
eval_put_of _ = None

abbrev pub eval_status_of : Command → Option (EvalId × StatusChange)
eval_status_of (commands.EvalStatus x y) = Some (x, y)
eval_status_of _ = None

abbrev pub plan_of : Command → Option (AcceptedPlan)
plan_of (commands.Plan x) = Some x
plan_of _ = None

abbrev pub report_of : Command → Option (ℕ × List Report)
report_of (commands.Report x y) = Some (x, y)
report_of _ = None

-- the text after the tag, for the tags from 7 on and for all
abbrev pub later_bodies : ℕ → ℕ → Format Command
later_bodies version =
    choice 7 (variant (λ x. commands.Migrate x) migrate_of rising_ids)
    (choice 8 (variant (λ x. commands.EvalPut x) eval_put_of name)
    (choice 9 (variant (λ x. commands.EvalStatus x.0 x.1) eval_status_of (evaluation_id then status_change))
    (choice 10 (variant (λ x. commands.Plan x) plan_of (accepted_plan version))
    (choice 11 (variant (λ x. commands.Report x.0 x.1) report_of (node_id then reports))
    (choice 12 (variant (λ x. commands.Disconnect x) disconnect_of node_id)
    (λ _. never))))))

abbrev pub bodies : ℕ → ℕ → Format Command
bodies version =
    choice 0 (variant (λ _. commands.Noop) noop_of nothing)
    (choice 1 (variant (λ x. commands.JobPut x) job_put_of (job_spec version))
    (choice 2 (variant (λ x. commands.JobStop x) job_stop_of name)
    (choice 3 (variant (λ x. commands.NodePut x) node_put_of (node_spec version))
    (choice 4 (variant (λ x. commands.NodeDown x) node_down_of node_id)
    (choice 5 (variant (λ x. commands.Drain x.0 x.1) drain_of (node_id then bool))
    (choice 6 (variant (λ x. commands.DrainDone x) drain_done_of node_id)
    (later_bodies version)))))))

-- a command: its tag from 0 to 11, and from version 3 on to 12, and what it holds
abbrev pub command : ℕ → Format Command
command version = tagged tag_of (number 1 0 (tags_in version)) (bodies version)
