use Rattle.std.proofs.Common.{◌≡◌, sym, subst}
use Rattle.std.specs.Prelude.{OnErr}
use Rattle.server.proofs.LogSteps.{IsLedBy, restart_left}
use Rattle.server.proofs.server.Server.restart_only.Goals as goal
use Rattle.server.proofs.server.Server.restart_only.Goals.{in-Restart, in_default}

pub returns-clause-left : goal.returns-clause-left
returns-clause-left c =
    let old = c.args.self.now in
    let inside : IsLedBy old.raft old.desk = subst (λ v. IsLedBy v.raft v.desk) c.self.view_is c.self.invariant in
    elim c.match-input.branch [
      | in-Restart w ↦
          let got = w.step_log.ensures in
          subst (λ r. OnErr r (c.match-input.self ≡ old)) (sym w.result-is)
          (subst (λ v. OnErr w.step_log.result (v ≡ old)) (sym w.self-is)
          (restart_left old w.step_log.new.self w.step_log.result inside c.requires got.stays got.desk))
      | in_default w ↦ subst (λ r. OnErr r (c.match-input.self ≡ old)) (sym w.result-is) w.self-is
    ]
