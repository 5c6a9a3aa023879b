-- The laws of commands.
use Rattle.std.proofs.Common.{◌≡◌, nat_lt, cond, true, false, ℕ, ◌^◌, ◌≤◌, ◌<◌, Bool, List, [], ◌∷◌, Some, refl, ap, sym, arith}
use Rattle.rows.specs.declared.allocation.AllocId.{AllocId}
use Rattle.rows.specs.declared.evaluation.EvalId.{EvalId}
use Rattle.rows.specs.declared.evaluation.EvalStatus.{EvalStatus}
use Rattle.rows.specs.declared.evaluation.EvalStatus.TheVariants as eval_statuses
use Rattle.rows.specs.declared.job.JobSpec.{JobSpec}
use Rattle.rows.specs.declared.node.NodeSpec.{NodeSpec}
use Rattle.rows.specs.declared.command.AcceptedPlan.{AcceptedPlan}
use Rattle.rows.specs.declared.command.Report.{Report}
use Rattle.rows.specs.declared.command.ReportedState.TheVariants as reported
use Rattle.rows.specs.declared.command.StatusChange.{StatusChange}
use Rattle.rows.specs.declared.command.StatusChange.TheVariants as changes
use Rattle.rows.specs.declared.command.Command.{Command}
use Rattle.rows.specs.declared.command.Command.TheVariants as commands
use Rattle.fields_model.specs.Format.{Lawful}
use Rattle.fields_model.proofs.FormatLaws.{number_lawful, nothing_lawful, made_lawful, then_lawful, depends_lawful, list_lawful, ruled_list_lawful, kept_lawful, enumerated_lawful, no_choice, variant_choice, choice_lawful}
use Rattle.fields_model.proofs.FieldLaws.{index_lawful, bool_lawful}
use Rattle.fields_model.proofs.IdLaws.{name_lawful, size_lawful, node_id_lawful, ordinal_lawful, priority_lawful, evaluation_id_lawful, allocation_id_lawful, token_lawful}
use Rattle.fields_model.specs.Rows.{eval_status}
use Rattle.fields_model.proofs.RowLaws.{groups_lawful, eval_status_lawful, allocation_id_is_ruled}
use Rattle.fields_model.specs.Commands.{job_spec, node_spec, stops, rising_ids, place, accepted_place, plan_end, plan, accepted_end, accepted_plan, reported_state, report, reports, snapshot_limit, change_to, change_parts, status_change, tag_of, tags_in, disconnect_of, noop_of, job_put_of, job_stop_of, node_put_of, node_down_of, drain_of, drain_done_of, migrate_of, eval_put_of, eval_status_of, plan_of, report_of, command}

pub job_spec_lawful : (version : ℕ) → Lawful (job_spec version)
job_spec_lawful version = made_lawful _ _ _ (λ _. refl) (λ _ _. refl) (then_lawful _ _ name_lawful (then_lawful _ _ priority_lawful (groups_lawful version)))

pub node_spec_lawful : (version : ℕ) → Lawful (node_spec version)
node_spec_lawful version = made_lawful _ _ _ (λ _. refl) (λ _ _. refl) (then_lawful _ _ node_id_lawful (then_lawful _ _ name_lawful (size_lawful version)))

pub stops_lawful : Lawful stops
stops_lawful = list_lawful 1 64 _ (omega arith) (omega arith) allocation_id_lawful

pub rising_ids_lawful : Lawful rising_ids
rising_ids_lawful = kept_lawful _ _ (ruled_list_lawful 1 64 _ _ _ (omega arith) (omega arith) allocation_id_lawful allocation_id_is_ruled)

pub place_lawful : Lawful place
place_lawful = made_lawful _ _ _ (λ _. refl) (λ _ _. refl) (then_lawful _ _ name_lawful (then_lawful _ _ ordinal_lawful node_id_lawful))

pub accepted_place_lawful : (version : ℕ) → Lawful (accepted_place version)
accepted_place_lawful version = made_lawful _ _ _ (λ _. refl) (λ _ _. refl) (then_lawful _ _ name_lawful (then_lawful _ _ ordinal_lawful (then_lawful _ _ node_id_lawful (size_lawful version))))

pub plan_end_lawful : Lawful plan_end
plan_end_lawful = then_lawful _ _ index_lawful (then_lawful _ _ index_lawful (then_lawful _ _ stops_lawful (list_lawful 1 64 _ (omega arith) (omega arith) place_lawful)))

pub plan_lawful : Lawful plan
plan_lawful = made_lawful _ _ _ (λ _. refl) (λ _ _. refl) (then_lawful _ _ evaluation_id_lawful (then_lawful _ _ token_lawful (then_lawful _ _ name_lawful plan_end_lawful)))

pub accepted_end_lawful : (version : ℕ) → Lawful (accepted_end version)
accepted_end_lawful version = then_lawful _ _ index_lawful (then_lawful _ _ stops_lawful (list_lawful 1 64 _ (omega arith) (omega arith) (accepted_place_lawful version)))

pub accepted_plan_lawful : (version : ℕ) → Lawful (accepted_plan version)
accepted_plan_lawful version = made_lawful _ _ _ (λ _. refl) (λ _ _. refl) (then_lawful _ _ evaluation_id_lawful (then_lawful _ _ token_lawful (then_lawful _ _ name_lawful (accepted_end_lawful version))))

pub reported_state_lawful : Lawful reported_state
reported_state_lawful = enumerated_lawful 1 (reported.Running ∷ reported.Complete ∷ reported.Failed ∷ []) _ refl

pub report_lawful : Lawful report
report_lawful = made_lawful _ _ _ (λ _. refl) (λ _ _. refl) (then_lawful _ _ allocation_id_lawful reported_state_lawful)

pub reports_lawful : Lawful reports
reports_lawful = kept_lawful _ _ (list_lawful 1 64 _ (omega arith) (omega arith) report_lawful)

-- a change is made of its status and its index, and these of it
change_again : (c : StatusChange) → change_to (change_parts c) ≡ c
change_again changes.Pending = refl
change_again (changes.Blocked snapshot) = refl
change_again changes.Complete = refl
change_again changes.Failed = refl

pub none_else : (n : ℕ) → n < 1 → 0 ≡ n
none_else n lt = omega arith

parts_again : (p : EvalStatus × ℕ) → p.1 < snapshot_limit p.0 → change_parts (change_to p) ≡ p
parts_again (eval_statuses.Pending, n) lt = let made : ℕ → EvalStatus × ℕ = λ (k : ℕ). (eval_statuses.Pending, k) in ap made (none_else n lt)
parts_again (eval_statuses.Blocked, n) lt = refl
parts_again (eval_statuses.Complete, n) lt = let made : ℕ → EvalStatus × ℕ = λ (k : ℕ). (eval_statuses.Complete, k) in ap made (none_else n lt)
parts_again (eval_statuses.Failed, n) lt = let made : ℕ → EvalStatus × ℕ = λ (k : ℕ). (eval_statuses.Failed, k) in ap made (none_else n lt)

snapshots_held : (s : EvalStatus) → snapshot_limit s ≤ 256 ^ 8
snapshots_held eval_statuses.Pending = omega arith
snapshots_held eval_statuses.Blocked = omega arith
snapshots_held eval_statuses.Complete = omega arith
snapshots_held eval_statuses.Failed = omega arith

pub status_change_lawful : Lawful status_change
status_change_lawful = made_lawful _ _ _ change_again (λ p fits. parts_again p fits.1.1)
    (depends_lawful eval_status 8 _ eval_status_lawful (λ s fits. number_lawful 8 0 (snapshot_limit s) (omega arith) (snapshots_held s)) (λ s fits. omega arith))

-- each kind is made of what it holds
noop_there : (v : Command) (a : Unit {0}) → noop_of v ≡ Some a → commands.Noop ≡ v
noop_there commands.Noop a e = refl
noop_there _ a e = absurd cc

job_put_there : (v : Command) (a : JobSpec) → job_put_of v ≡ Some a → commands.JobPut a ≡ v
job_put_there (commands.JobPut x) a e = cc
job_put_there _ a e = absurd cc

job_stop_there : (v : Command) (a : List ℕ) → job_stop_of v ≡ Some a → commands.JobStop a ≡ v
job_stop_there (commands.JobStop x) a e = cc
job_stop_there _ a e = absurd cc

node_put_there : (v : Command) (a : NodeSpec) → node_put_of v ≡ Some a → commands.NodePut a ≡ v
node_put_there (commands.NodePut x) a e = cc
node_put_there _ a e = absurd cc

node_down_there : (v : Command) (a : ℕ) → node_down_of v ≡ Some a → commands.NodeDown a ≡ v
node_down_there (commands.NodeDown x) a e = cc
node_down_there _ a e = absurd cc

disconnect_there : (v : Command) (a : ℕ) → disconnect_of v ≡ Some a → commands.Disconnect a ≡ v
disconnect_there (commands.Disconnect x) a e = cc
disconnect_there _ a e = absurd cc

tags_few : (b : Bool) → cond b 12 13 ≤ 256
tags_few true = omega arith
tags_few false = omega arith

drain_is : (p q : ℕ × Bool) → Some p ≡ Some q → p ≡ q
drain_is p q e = cc

drain_there : (v : Command) (a : ℕ × Bool) → drain_of v ≡ Some a → commands.Drain a.0 a.1 ≡ v
drain_there (commands.Drain x y) a e = ap (λ (p : ℕ × Bool). commands.Drain p.0 p.1) (sym (drain_is (x, y) a e))
drain_there _ a e = absurd cc

drain_done_there : (v : Command) (a : ℕ) → drain_done_of v ≡ Some a → commands.DrainDone a ≡ v
drain_done_there (commands.DrainDone x) a e = cc
drain_done_there _ a e = absurd cc

migrate_there : (v : Command) (a : List AllocId) → migrate_of v ≡ Some a → commands.Migrate a ≡ v
migrate_there (commands.Migrate x) a e = cc
migrate_there _ a e = absurd cc

eval_put_there : (v : Command) (a : List ℕ) → eval_put_of v ≡ Some a → commands.EvalPut a ≡ v
eval_put_there (commands.EvalPut x) a e = cc
eval_put_there _ a e = absurd cc

eval_status_is : (p q : EvalId × StatusChange) → Some p ≡ Some q → p ≡ q
eval_status_is p q e = cc

eval_status_there : (v : Command) (a : EvalId × StatusChange) → eval_status_of v ≡ Some a → commands.EvalStatus a.0 a.1 ≡ v
eval_status_there (commands.EvalStatus x y) a e = ap (λ (p : EvalId × StatusChange). commands.EvalStatus p.0 p.1) (sym (eval_status_is (x, y) a e))
eval_status_there _ a e = absurd cc

plan_there : (v : Command) (a : AcceptedPlan) → plan_of v ≡ Some a → commands.Plan a ≡ v
plan_there (commands.Plan x) a e = cc
plan_there _ a e = absurd cc

report_is : (p q : ℕ × List Report) → Some p ≡ Some q → p ≡ q
report_is p q e = cc

report_there : (v : Command) (a : ℕ × List Report) → report_of v ≡ Some a → commands.Report a.0 a.1 ≡ v
report_there (commands.Report x y) a e = ap (λ (p : ℕ × List Report). commands.Report p.0 p.1) (sym (report_is (x, y) a e))
report_there _ a e = absurd cc

pub command_lawful : (version : ℕ) → Lawful (command version)
command_lawful version = choice_lawful tag_of _ _ (number_lawful 1 0 (tags_in version) (omega arith) (tags_few (nat_lt version 3)))
    (variant_choice tag_of 0 _ _ _ _ (record { back = λ _. refl; there = noop_there }) (λ _. refl) nothing_lawful
    (variant_choice tag_of 1 _ _ _ _ (record { back = λ _. refl; there = job_put_there }) (λ _. refl) (job_spec_lawful version)
    (variant_choice tag_of 2 _ _ _ _ (record { back = λ _. refl; there = job_stop_there }) (λ _. refl) name_lawful
    (variant_choice tag_of 3 _ _ _ _ (record { back = λ _. refl; there = node_put_there }) (λ _. refl) (node_spec_lawful version)
    (variant_choice tag_of 4 _ _ _ _ (record { back = λ _. refl; there = node_down_there }) (λ _. refl) node_id_lawful
    (variant_choice tag_of 5 _ _ _ _ (record { back = λ _. refl; there = drain_there }) (λ _. refl) (then_lawful _ _ node_id_lawful bool_lawful)
    (variant_choice tag_of 6 _ _ _ _ (record { back = λ _. refl; there = drain_done_there }) (λ _. refl) node_id_lawful
    (variant_choice tag_of 7 _ _ _ _ (record { back = λ _. refl; there = migrate_there }) (λ _. refl) rising_ids_lawful
    (variant_choice tag_of 8 _ _ _ _ (record { back = λ _. refl; there = eval_put_there }) (λ _. refl) name_lawful
    (variant_choice tag_of 9 _ _ _ _ (record { back = λ _. refl; there = eval_status_there }) (λ _. refl) (then_lawful _ _ evaluation_id_lawful status_change_lawful)
    (variant_choice tag_of 10 _ _ _ _ (record { back = λ _. refl; there = plan_there }) (λ _. refl) (accepted_plan_lawful version)
    (variant_choice tag_of 11 _ _ _ _ (record { back = λ _. refl; there = report_there }) (λ _. refl) (then_lawful _ _ node_id_lawful reports_lawful)
    (variant_choice tag_of 12 _ _ _ _ (record { back = λ _. refl; there = disconnect_there }) (λ _. refl) node_id_lawful
    (no_choice tag_of))))))))))))))
