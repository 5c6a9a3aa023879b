use Rattle.std.proofs.Common.{arith}
use Rattle.fields_model.proofs.StateTextLaws.{jobs_lawful, nodes_lawful, evaluations_lawful, allocations_lawful}
use Rattle.fields_model.proofs.RangeLaws.{jobs_in_order, nodes_in_order, evaluations_in_order, allocations_in_order}
use Rattle.fsm_state.proofs.text.ClusterField.read_at.Goals as goal

pub from_rows-requires-clause-jobs : goal.from_rows-requires-clause-jobs
from_rows-requires-clause-jobs c =
    let s = (jobs_lawful c.args.version).found c.args.bytes.now c.in_ok-count.at c.in_ok-jobs.jobs c.in_ok-jobs.at (λ i. omega (arith, c.type_inv.bytes i)) c.in_ok-jobs.ensures in
    jobs_in_order c.args.version c.in_ok-jobs.jobs s.fits

pub from_rows-requires-clause-nodes : goal.from_rows-requires-clause-nodes
from_rows-requires-clause-nodes c =
    let s = (nodes_lawful c.args.version).found c.args.bytes.now c.in_ok-jobs.at c.in_ok-nodes.nodes c.in_ok-nodes.at (λ i. omega (arith, c.type_inv.bytes i)) c.in_ok-nodes.ensures in
    nodes_in_order c.args.version c.in_ok-nodes.nodes s.fits

pub from_rows-requires-clause-evals : goal.from_rows-requires-clause-evals
from_rows-requires-clause-evals c =
    let s = evaluations_lawful.found c.args.bytes.now c.in_ok-nodes.at c.in_ok-evals.evals c.in_ok-evals.at (λ i. omega (arith, c.type_inv.bytes i)) c.in_ok-evals.ensures in
    evaluations_in_order c.in_ok-evals.evals s.fits

pub from_rows-requires-clause-allocs : goal.from_rows-requires-clause-allocs
from_rows-requires-clause-allocs c =
    let s = (allocations_lawful c.args.version).found c.args.bytes.now c.in_ok-evals.at c.in_ok-allocs.allocs c.in_ok-allocs.at (λ i. omega (arith, c.type_inv.bytes i)) c.in_ok-allocs.ensures in
    allocations_in_order c.args.version c.in_ok-allocs.allocs s.fits
