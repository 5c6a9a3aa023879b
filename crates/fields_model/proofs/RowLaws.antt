-- The laws of groups and rows.
use Rattle.std.proofs.Common.{ℕ, [], ◌∷◌, refl, arith}
use Rattle.std.specs.Ordering.{nat_cmp}
use Rattle.rows.specs.Rising.{is_behind}
use Rattle.rows.specs.Groups.{group_is_new}
use Rattle.rows.specs.Ids.{id_rises}
use Rattle.rows.specs.Keys.{name_cmp, eval_cmp, alloc_cmp, job_name, node_number, eval_id, alloc_id}
use Rattle.rows.specs.declared.node.NodeStatus.TheVariants as node_statuses
use Rattle.rows.specs.declared.node.DrainMode.TheVariants as drains
use Rattle.rows.specs.declared.evaluation.EvalStatus.TheVariants as eval_statuses
use Rattle.rows.specs.declared.allocation.Desired.TheVariants as desires
use Rattle.rows.specs.declared.allocation.ClientState.TheVariants as clients
use Rattle.fields_model.specs.Format.{Lawful, IsRuled}
use Rattle.fields_model.proofs.FormatLaws.{made_lawful, then_lawful, kept_lawful, ruled_list_lawful, kept_is_ruled, keyed_is_ruled, enumerated_lawful}
use Rattle.fields_model.proofs.FieldLaws.{index_lawful, bool_lawful}
use Rattle.fields_model.specs.Ids.{allocation_id}
use Rattle.fields_model.proofs.IdLaws.{name_lawful, size_lawful, node_id_lawful, ordinal_lawful, priority_lawful, group_count_lawful, evaluation_id_lawful, allocation_id_lawful}
use Rattle.fields_model.specs.Rows.{node_status, drain_mode, eval_status, desired, client_state, group, group_behind, groups, allocation_id_behind, job, job_behind, node, node_behind, evaluation, evaluation_behind, allocation, allocation_behind}

pub node_status_lawful : (version : ℕ) → Lawful (node_status version)
node_status_lawful version = kept_lawful _ _ (enumerated_lawful 0 (node_statuses.Ready ∷ node_statuses.Down ∷ node_statuses.Disconnected ∷ []) _ refl)

pub drain_mode_lawful : Lawful drain_mode
drain_mode_lawful = enumerated_lawful 0 (drains.Off ∷ drains.Slow ∷ drains.Force ∷ []) _ refl

pub eval_status_lawful : Lawful eval_status
eval_status_lawful = enumerated_lawful 0 (eval_statuses.Pending ∷ eval_statuses.Blocked ∷ eval_statuses.Complete ∷ eval_statuses.Failed ∷ []) _ refl

pub desired_lawful : Lawful desired
desired_lawful = enumerated_lawful 0 (desires.Run ∷ desires.Stop ∷ []) _ refl

pub client_state_lawful : (version : ℕ) → Lawful (client_state version)
client_state_lawful version = kept_lawful _ _ (enumerated_lawful 0 (clients.Pending ∷ clients.Running ∷ clients.Complete ∷ clients.Failed ∷ clients.Lost ∷ clients.Unknown ∷ []) _ refl)

pub group_lawful : (version : ℕ) → Lawful (group version)
group_lawful version = made_lawful _ _ _ (λ _. refl) (λ _ _. refl) (then_lawful _ _ name_lawful (then_lawful _ _ group_count_lawful (then_lawful _ _ name_lawful (size_lawful version))))

pub group_is_ruled : (version : ℕ) → IsRuled group_is_new (group version) (group_behind version)
group_is_ruled version = keyed_is_ruled _ _ _ _ _ (λ _. refl) (λ _. refl) name_lawful (then_lawful _ _ group_count_lawful (then_lawful _ _ name_lawful (size_lawful version)))

pub groups_lawful : (version : ℕ) → Lawful (groups version)
groups_lawful version = kept_lawful _ _ (ruled_list_lawful 1 8 _ _ _ (omega arith) (omega arith) (group_lawful version) (group_is_ruled version))

pub allocation_id_is_ruled : IsRuled id_rises allocation_id allocation_id_behind
allocation_id_is_ruled = kept_is_ruled _ _ allocation_id_lawful

pub job_lawful : (version : ℕ) → Lawful (job version)
job_lawful version = made_lawful _ _ _ (λ _. refl) (λ _ _. refl) (then_lawful _ _ name_lawful (then_lawful _ _ priority_lawful (then_lawful _ _ bool_lawful (then_lawful _ _ index_lawful (groups_lawful version)))))

pub job_is_ruled : (version : ℕ) → IsRuled (λ front j. is_behind name_cmp job_name front j.name) (job version) (job_behind version)
job_is_ruled version = keyed_is_ruled _ _ _ _ _ (λ _. refl) (λ _. refl) name_lawful (then_lawful _ _ priority_lawful (then_lawful _ _ bool_lawful (then_lawful _ _ index_lawful (groups_lawful version))))

pub node_lawful : (version : ℕ) → Lawful (node version)
node_lawful version = made_lawful _ _ _ (λ _. refl) (λ _ _. refl) (then_lawful _ _ node_id_lawful (then_lawful _ _ name_lawful (then_lawful _ _ (size_lawful version) (then_lawful _ _ (node_status_lawful version) (then_lawful _ _ bool_lawful (then_lawful _ _ drain_mode_lawful index_lawful))))))

pub node_is_ruled : (version : ℕ) → IsRuled (λ front n. is_behind nat_cmp node_number front n.number) (node version) (node_behind version)
node_is_ruled version = keyed_is_ruled _ _ _ _ _ (λ _. refl) (λ _. refl) node_id_lawful (then_lawful _ _ name_lawful (then_lawful _ _ (size_lawful version) (then_lawful _ _ (node_status_lawful version) (then_lawful _ _ bool_lawful (then_lawful _ _ drain_mode_lawful index_lawful)))))

pub evaluation_lawful : Lawful evaluation
evaluation_lawful = made_lawful _ _ _ (λ _. refl) (λ _ _. refl) (then_lawful _ _ evaluation_id_lawful (then_lawful _ _ name_lawful (then_lawful _ _ priority_lawful (then_lawful _ _ eval_status_lawful index_lawful))))

pub evaluation_is_ruled : IsRuled (λ front e. is_behind eval_cmp eval_id front e.id) evaluation evaluation_behind
evaluation_is_ruled = keyed_is_ruled _ _ _ _ _ (λ _. refl) (λ _. refl) evaluation_id_lawful (then_lawful _ _ name_lawful (then_lawful _ _ priority_lawful (then_lawful _ _ eval_status_lawful index_lawful)))

pub allocation_lawful : (version : ℕ) → Lawful (allocation version)
allocation_lawful version = made_lawful _ _ _ (λ _. refl) (λ _ _. refl) (then_lawful _ _ allocation_id_lawful (then_lawful _ _ name_lawful (then_lawful _ _ (then_lawful _ _ name_lawful (then_lawful _ _ ordinal_lawful (then_lawful _ _ node_id_lawful (size_lawful version)))) (then_lawful _ _ desired_lawful (then_lawful _ _ (client_state_lawful version) (then_lawful _ _ bool_lawful evaluation_id_lawful))))))

pub allocation_is_ruled : (version : ℕ) → IsRuled (λ front a. is_behind alloc_cmp alloc_id front a.id) (allocation version) (allocation_behind version)
allocation_is_ruled version = keyed_is_ruled _ _ _ _ _ (λ _. refl) (λ _. refl) allocation_id_lawful (then_lawful _ _ name_lawful (then_lawful _ _ (then_lawful _ _ name_lawful (then_lawful _ _ ordinal_lawful (then_lawful _ _ node_id_lawful (size_lawful version)))) (then_lawful _ _ desired_lawful (then_lawful _ _ (client_state_lawful version) (then_lawful _ _ bool_lawful evaluation_id_lawful)))))
