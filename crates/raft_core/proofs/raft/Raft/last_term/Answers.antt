use Rattle.std.proofs.Common.{rules, ◌≡◌, ◌∙◌, ap}
use Rattle.raft_model.specs.Rafts.{Raft}
use Rattle.raft_snapshot.specs.Kept.{IsLogOf}
use Rattle.raft_core.proofs.Lives.{log_up}
use Rattle.raft_core.proofs.raft.Raft.last_term.Goals as goal

pub returns-clause-value : goal.returns-clause-value
returns-clause-value g c = λ s r.
    let i = c.self.inside in
    let log : c.args.self.now.server.log ≡ i.log.entries = rw (← c.self.view_is) (log_up i.machine _) in
    let base : c.args.self.now.base ≡ i.log.base = search rules in
    let is : IsLogOf g.M.Machine.spec i.log s.log = record {
      covered = r.covered;
      fits = rw (← base) r.fits;
      is = rw (← log) (ap (λ (x : Raft _). x.log) r.is);
    } in
    c.last_term.ensures.whole s.log is
