-- The laws of the text of a state.
use Rattle.std.proofs.Common.{◌≡◌, ℕ, refl, arith}
use Rattle.fields_model.specs.Format.{Lawful}
use Rattle.fields_model.proofs.FormatLaws.{made_lawful, then_lawful, ruled_list_lawful}
use Rattle.fields_model.proofs.FieldLaws.{index_lawful}
use Rattle.fields_model.proofs.RowLaws.{job_lawful, job_is_ruled, node_lawful, node_is_ruled, evaluation_lawful, evaluation_is_ruled, allocation_lawful, allocation_is_ruled}
use Rattle.fields_model.specs.StateText.{jobs, nodes, evaluations, allocations, tables, state}

pub jobs_lawful : (version : ℕ) → Lawful (jobs version)
jobs_lawful version = ruled_list_lawful 4 256 _ _ _ (omega arith) (omega arith) (job_lawful version) (job_is_ruled version)

pub nodes_lawful : (version : ℕ) → Lawful (nodes version)
nodes_lawful version = ruled_list_lawful 4 64 _ _ _ (omega arith) (omega arith) (node_lawful version) (node_is_ruled version)

pub evaluations_lawful : Lawful evaluations
evaluations_lawful = ruled_list_lawful 4 65536 _ _ _ (omega arith) (omega arith) evaluation_lawful evaluation_is_ruled

pub allocations_lawful : (version : ℕ) → Lawful (allocations version)
allocations_lawful version = ruled_list_lawful 4 65536 _ _ _ (omega arith) (omega arith) (allocation_lawful version) (allocation_is_ruled version)

pub tables_lawful : (version : ℕ) → Lawful (tables version)
tables_lawful version = then_lawful _ _ (jobs_lawful version) (then_lawful _ _ (nodes_lawful version) (then_lawful _ _ evaluations_lawful (allocations_lawful version)))

pub state_lawful : (version : ℕ) → Lawful (state version)
state_lawful version = made_lawful _ _ _ (λ _. refl) (λ _ _. refl) (then_lawful _ _ index_lawful (tables_lawful version))

-- the greatest length of a state's text, in bytes
pub state_most : (version : ℕ) → (state version).most ≡ 10334808
state_most version = refl
