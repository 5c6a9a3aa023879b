use Rattle.std.proofs.Common.{◌≢◌, rules}
use Rattle.std.specs.Prelude.{codes}
use Rattle.example_bank_server.proofs.Handing.{kept_log, remembered}
use Rattle.example_bank_server.proofs.node.delta_of.Goals as goal

pub returns-in-Some : goal.returns-in-Some
returns-in-Some g c = λ old all may.
    let item = c.args.item.now in
    let other : item ≢ codes "C" = search rules in
    c.changed.ensures old (remembered c.args.before.now c.in-Some.before old c.in-Some.is all) (kept_log item old c.args.server.now other may)
