use Rattle.std.proofs.Common.{◌≡◌, ◌≢◌, sym}
use Rattle.world.proofs.Standings.{settled_in, lost_in, covered_in}
use Rattle.world.proofs.GroupStandings.{no_standing, standing_is, settled_in_group}
use Rattle.group_model.specs.Worlds.{raft_of}
use Rattle.world.proofs.group.world.World.proposal_status.Goals as goal

pub returns-in_err-server-clause-value : goal.returns-in_err-server-clause-value
returns-in_err-server-clause-value c past w runs = rw c.from_residual.ensures (no_standing c.args.self.now c.args.server c.args.ticket.index c.args.ticket.term past w runs (sym c.in_err-server.ensures))

pub returns-clause-value : goal.returns-clause-value
returns-clause-value c past w runs = standing_is c.args.self.now c.args.server c.args.ticket.index c.args.ticket.term past w runs c.in_ok-server.field-0.now c.proposal_status.result (sym c.in_ok-server.ensures) c.proposal_status.ensures

pub returns-clause-settled : goal.returns-clause-settled
returns-clause-settled c h =
    let now = c.args.self.now in
    let ticket = c.args.ticket in
    settled_in_group now c.one_list.ensures c.clients.ensures.nodes c.limits_are_kept.ensures c.commit_is_final.ensures c.args.server ticket.index (λ t. t ≡ ticket.term)
    (λ past w runs. settled_in ticket.index ticket.term (raft_of w) c.args.server c.proposal_status.result (standing_is now c.args.server ticket.index ticket.term past w runs c.in_ok-server.field-0.now c.proposal_status.result (sym c.in_ok-server.ensures) c.proposal_status.ensures) h)

pub returns-clause-lost : goal.returns-clause-lost
returns-clause-lost c h =
    let now = c.args.self.now in
    let ticket = c.args.ticket in
    settled_in_group now c.one_list.ensures c.clients.ensures.nodes c.limits_are_kept.ensures c.commit_is_final.ensures c.args.server ticket.index (λ t. t ≢ ticket.term)
    (λ past w runs. lost_in ticket.index ticket.term (raft_of w) c.args.server c.proposal_status.result (standing_is now c.args.server ticket.index ticket.term past w runs c.in_ok-server.field-0.now c.proposal_status.result (sym c.in_ok-server.ensures) c.proposal_status.ensures) h)

pub returns-clause-covered : goal.returns-clause-covered
returns-clause-covered c h one =
    let now = c.args.self.now in
    let ticket = c.args.ticket in
    settled_in_group now c.one_list.ensures c.clients.ensures.nodes c.limits_are_kept.ensures c.commit_is_final.ensures c.args.server ticket.index (λ t. Unit {0})
    (λ past w runs. covered_in ticket.index ticket.term one (raft_of w) c.args.server c.proposal_status.result (standing_is now c.args.server ticket.index ticket.term past w runs c.in_ok-server.field-0.now c.proposal_status.result (sym c.in_ok-server.ensures) c.proposal_status.ensures) h)
