use Rattle.std.proofs.Common.{rules, ◌≡◌, suc, length, arith}
use Rattle.raft_model.specs.Logs.{last_term}
use Rattle.raft_core.proofs.Lives.{term_up, log_up}
use Rattle.raft_core.proofs.raft.Raft.start_election.Goals as goal

pub returns-clause-taken : goal.returns-clause-taken
returns-clause-taken g c =
    let i = c.self.inside in
    let old = c.args.self.now in
    let own : old.server.term ≡ i.term = rw (← c.self.view_is) (term_up i.machine _) in
    let log : old.server.log ≡ i.log.entries = rw (← c.self.view_is) (log_up i.machine _) in
    let term : c.next-term.result ≡ suc old.server.term = omega (arith, c.next-term.ensures, own) in
    let last : c.last.result ≡ length old.server.log = c.last.ensures.shown in
    let last_is : c.last_term.result ≡ last_term old.server.log = rw log c.last_term.ensures.value in
    let asked = rw (term, last, last_is, ← c.self.view_is) at c.in_ok-ask.ensures.ok in
    record { server = search rules; base = search rules; me = search rules; size = search rules; sent = rw (← c.self.view_is) asked }
