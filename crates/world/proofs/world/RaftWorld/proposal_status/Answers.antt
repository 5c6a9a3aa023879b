use Rattle.std.proofs.Common.{◌≡◌, ◌≢◌, sym}
use Rattle.world.proofs.Standings.{no_standing, standing_is, settled_in, lost_in, covered_in, settled_ever}
use Rattle.world.proofs.world.RaftWorld.proposal_status.Goals as goal

pub returns-in_err-raft-clause-value : goal.returns-in_err-raft-clause-value
returns-in_err-raft-clause-value g c past w runs = rw c.from_residual.ensures (no_standing g.M.Machine.spec c.args.self.now c.args.server c.args.ticket.index c.args.ticket.term past w runs (sym c.in_err-raft.ensures))

pub returns-clause-value : goal.returns-clause-value
returns-clause-value g c past w runs = standing_is g.M.Machine.spec c.args.self.now c.args.server c.args.ticket.index c.args.ticket.term past w runs c.in_ok-raft.field-0.now c.proposal_status.result (sym c.in_ok-raft.ensures) c.proposal_status.ensures.value

pub returns-clause-settled : goal.returns-clause-settled
returns-clause-settled g c h =
    let now = c.args.self.now in
    let ticket = c.args.ticket in
    settled_ever g.M.Machine.spec now c.one_list.ensures c.commit_is_final.ensures.settled c.args.server ticket.index (λ t. t ≡ ticket.term)
    (λ past w runs. settled_in ticket.index ticket.term w c.args.server c.proposal_status.result (standing_is g.M.Machine.spec now c.args.server ticket.index ticket.term past w runs c.in_ok-raft.field-0.now c.proposal_status.result (sym c.in_ok-raft.ensures) c.proposal_status.ensures.value) h)

pub returns-clause-lost : goal.returns-clause-lost
returns-clause-lost g c h =
    let now = c.args.self.now in
    let ticket = c.args.ticket in
    settled_ever g.M.Machine.spec now c.one_list.ensures c.commit_is_final.ensures.settled c.args.server ticket.index (λ t. t ≢ ticket.term)
    (λ past w runs. lost_in ticket.index ticket.term w c.args.server c.proposal_status.result (standing_is g.M.Machine.spec now c.args.server ticket.index ticket.term past w runs c.in_ok-raft.field-0.now c.proposal_status.result (sym c.in_ok-raft.ensures) c.proposal_status.ensures.value) h)

pub returns-clause-covered : goal.returns-clause-covered
returns-clause-covered g c h one =
    let now = c.args.self.now in
    let ticket = c.args.ticket in
    settled_ever g.M.Machine.spec now c.one_list.ensures c.commit_is_final.ensures.settled c.args.server ticket.index (λ t. Unit {0})
    (λ past w runs. covered_in ticket.index ticket.term one w c.args.server c.proposal_status.result (standing_is g.M.Machine.spec now c.args.server ticket.index ticket.term past w runs c.in_ok-raft.field-0.now c.proposal_status.result (sym c.in_ok-raft.ensures) c.proposal_status.ensures.value) h)
