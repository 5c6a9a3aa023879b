use Rattle.std.specs.Cmp.{nat_cmp_total}
use Rattle.std.specs.Cmp.Lexicographic.{nat_list_cmp_total}
use Rattle.std.specs.Ordering.{nat_cmp}
use Rattle.rows.specs.Keys.{name_cmp, eval_cmp, alloc_cmp, job_name, node_number, eval_id, alloc_id}
use Rattle.rows.proofs.KeyLaws.{eval_cmp_total, alloc_cmp_total}
use Rattle.fsm_tables.proofs.SetLaws.{same_rows}
use Rattle.fsm_tables.proofs.laws.tables_are_sets.Goals as goal

pub returns-clause-jobs : goal.returns-clause-jobs
returns-clause-jobs c = same_rows name_cmp job_name nat_list_cmp_total

pub returns-clause-nodes : goal.returns-clause-nodes
returns-clause-nodes c = same_rows nat_cmp node_number nat_cmp_total

pub returns-clause-evals : goal.returns-clause-evals
returns-clause-evals c = same_rows eval_cmp eval_id eval_cmp_total

pub returns-clause-allocs : goal.returns-clause-allocs
returns-clause-allocs c = same_rows alloc_cmp alloc_id alloc_cmp_total
