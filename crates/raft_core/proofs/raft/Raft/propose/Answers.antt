use Rattle.std.proofs.Common.{rules, ◌≡◌, suc, Err, arith, length, length-append, [], ◌∷◌, ◌++◌, sym, ap, ◌∙◌}
use Rattle.std.proofs.lemmas.Bool.{lt-ltb}
use Rattle.machine_model.specs.declared.entry.Entry.{Entry}
use Rattle.raft_model.specs.Rafts.{Raft, is_leader, extended}
use Rattle.raft_model.specs.Logs.{MAX}
use Rattle.rows.specs.declared.refusal.Refusal.TheVariants as refusals
use Rattle.raft_core.specs.RaftView.{RaftView, mode_of}
use Rattle.raft_core.proofs.Lives.{grown, leader_room, second_grown, second_behind, extended_by, term_up, log_up}
use Rattle.raft_core.proofs.Proposals.{refused_each, hides_each, proposed_each}
use Rattle.raft_core.proofs.Tickets.{ticket_each}
use Rattle.raft_core.proofs.raft.Raft.propose.Goals as goal

pub returns-in_err-weigh-clause-refused : goal.returns-in_err-weigh-clause-refused
returns-in_err-weigh-clause-refused g c =
    let is : c.from_residual.result ≡ Err c.in_err-weigh.field-0.0 = search rules in
    rw is (refused_each g.M.Machine.spec c.args.self.now c.covered_is_committed.ensures c.args.command c.in_err-weigh.field-0.0 c.in_err-weigh.ensures.refused)

pub returns-in_err-weigh-clause-unhidden : goal.returns-in_err-weigh-clause-unhidden
returns-in_err-weigh-clause-unhidden g c =
    let is : c.from_residual.result ≡ Err c.in_err-weigh.field-0.0 = search rules in
    rw is (hides_each g.M.Machine.spec c.args.self.now c.covered_is_committed.ensures c.args.command c.in_err-weigh.field-0.0 c.in_err-weigh.ensures.refused)

pub returns-in_err-append-clause-unhidden : goal.returns-in_err-append-clause-unhidden
returns-in_err-append-clause-unhidden g c =
    let old = c.args.self.now in
    let weighed = c.in_ok-weigh.ensures in
    let is : c.from_residual-in_err-append.result ≡ Err refusals.NoMemory = search rules in
    rw is (hides_each g.M.Machine.spec old c.covered_is_committed.ensures c.args.command refusals.NoMemory (weighed.leads, lt-ltb (length old.server.log) MAX (omega (arith, weighed.index_left))))

pub project_next-requires-clause-state : goal.project_next-requires-clause-state
project_next-requires-clause-state g c =
    let i = c.self.inside in
    second_behind g.M.Machine.spec i.log.base i.log.entries _ i.role i.machine i.projected c.append.new.self.base c.append.new.self.entries c.append.ensures.base c.in_ok-append.ensures.ok c.self.invariant.second

pub invariant_of-self-2 : goal.invariant_of-self-2
invariant_of-self-2 g c =
    let m = g.M.Machine.spec in
    let i = c.self.inside in
    let weighed = c.in_ok-weigh.ensures in
    let entry : Entry g.row.M-Command.Denot = record { term = i.term; command = c.new.result } in
    let leads = ap (λ (x : RaftView g.row.M.Denot g.row.M-Command.Denot). is_leader x.server.mode) c.self.view_is ∙ ap (λ (s : Raft g.row.M-Command.Denot). is_leader s.mode) weighed.same.server ∙ weighed.leads in
    let index_left = leader_room i.machine _ _ i.log.entries (i.log.entries ++ entry ∷ []) _ _ _ i.role i.votes.items i.next.items i.matched.items leads in
    let projected = rw (c.append.ensures.base, c.in_ok-append.ensures.ok) at c.project_next.ensures in
    let second = second_grown m i.log.base i.machine c.project_next.new.projected _ _ i.log.entries (i.log.entries ++ entry ∷ []) _ _ _ i.role i.votes.items i.next.items i.matched.items leads projected in
    rw (c.append.ensures.base, c.in_ok-append.ensures.ok) (grown m i.me i.size i.term i.log.base i.log.entries entry i.role i.role i.commit i.votes.items i.next.items i.matched.items i.machine i.projected c.project_next.new.projected c.self.invariant c.self.invariant.elected index_left second)

pub returns-clause-taken : goal.returns-clause-taken
returns-clause-taken g c =
    let i = c.self.inside in
    let weighed = c.in_ok-weigh.ensures in
    let x : Raft g.row.M-Command.Denot = record { term = i.term; vote = i.vote; log = i.log.entries; covered = i.log.base.index; commit = i.commit; known = i.known; mode = mode_of i.role i.votes.items i.next.items i.matched.items } in
    let grows = rw c.new.ensures at c.in_ok-append.ensures.ok in
    let next = extended_by i.machine x c.args.command c.append.new.self.entries grows ∙ ap (λ (v : RaftView g.row.M.Denot g.row.M-Command.Denot). extended v.server c.args.command) c.self.view_is ∙ ap (λ (v : Raft g.row.M-Command.Denot). extended v c.args.command) weighed.same.server in
    let base = c.append.ensures.base ∙ ap (λ (v : RaftView g.row.M.Denot g.row.M-Command.Denot). v.base) c.self.view_is ∙ weighed.same.base in
    proposed_each g.M.Machine.spec c.args.self.now c.covered_is_committed.ensures c.args.command _ weighed.taken base (rw c.append.ensures.base next)

pub returns-clause-shown : goal.returns-clause-shown
returns-clause-shown g c =
    let i = c.self.inside in
    let weighed = c.in_ok-weigh.ensures in
    let x : Raft g.row.M-Command.Denot = record { term = i.term; vote = i.vote; log = i.log.entries; covered = i.log.base.index; commit = i.commit; known = i.known; mode = mode_of i.role i.votes.items i.next.items i.matched.items } in
    let grows = rw c.new.ensures at c.in_ok-append.ensures.ok in
    let next = extended_by i.machine x c.args.command c.append.new.self.entries grows ∙ ap (λ (v : RaftView g.row.M.Denot g.row.M-Command.Denot). extended v.server c.args.command) c.self.view_is ∙ ap (λ (v : Raft g.row.M-Command.Denot). extended v c.args.command) weighed.same.server in
    (c.append.ensures.base ∙ ap (λ (v : RaftView g.row.M.Denot g.row.M-Command.Denot). v.base) c.self.view_is ∙ weighed.same.base, rw c.append.ensures.base next)

pub returns-clause-ticket : goal.returns-clause-ticket
returns-clause-ticket g c =
    let i = c.self.inside in
    let old = c.args.self.now in
    let weighed = c.in_ok-weigh.ensures in
    let x : Raft g.row.M-Command.Denot = record { term = i.term; vote = i.vote; log = i.log.entries; covered = i.log.base.index; commit = i.commit; known = i.known; mode = mode_of i.role i.votes.items i.next.items i.matched.items } in
    let entry : Entry g.row.M-Command.Denot = record { term = i.term; command = c.args.command } in
    let grows : c.append.new.self.entries ≡ i.log.entries ++ entry ∷ [] = rw c.new.ensures at c.in_ok-append.ensures.ok in
    let kept = ap (λ (v : RaftView g.row.M.Denot g.row.M-Command.Denot). v.server) c.self.view_is ∙ weighed.same.server in
    let next = extended_by i.machine x c.args.command c.append.new.self.entries grows ∙ ap (λ (v : Raft g.row.M-Command.Denot). extended v c.args.command) kept in
    let base = c.append.ensures.base ∙ ap (λ (v : RaftView g.row.M.Denot g.row.M-Command.Denot). v.base) c.self.view_is ∙ weighed.same.base in
    let size : length i.log.entries ≡ length old.server.log = ap length (sym (log_up i.machine x)) ∙ ap (λ (v : Raft g.row.M-Command.Denot). length v.log) kept in
    let place : c.last.result ≡ suc (length old.server.log) = omega (arith, c.last.ensures.value, ap length grows, length-append i.log.entries (entry ∷ []), size) in
    let own : i.term ≡ old.server.term = sym (term_up i.machine x) ∙ ap (λ (v : Raft g.row.M-Command.Denot). v.term) kept in
    ticket_each g.M.Machine.spec old c.covered_is_committed.ensures _ _ c.args.command c.last.result i.term base (rw c.append.ensures.base next) place own
