use Rattle.std.proofs.Common.{rules, ◌≡◌, true, refl}
use Rattle.raft_model.specs.Rafts.{is_leader}
use Rattle.raft_core.proofs.Fills.{whole_each}
use Rattle.raft_core.proofs.raft.Raft.projected.Goals as goal

pub returns : goal.returns
returns g c =
    let made = c.in_ok-make_projected.ensures in
    let leads : is_leader c.args.self.now.server.mode ≡ true = search rules in (
      (refl, (λ r. tt), (made.same, made.has)),
      record {
        value = whole_each g.M.Machine.spec c.args.self.now c.make_projected.new.self c.projected_machine.result made.same leads c.projected_machine.ensures;
        refused = tt;
        held = tt;
        same = tt;
      },
    )
