use Rattle.std.proofs.Common.{IsTrue, rules, ◌≢◌, ◌↔◌}
use Rattle.sim_files.proofs.Apart.{apart}
use Rattle.sim_files.proofs.shelf.lie_apart.Goals as goal

pub returns-in-Some-Some : goal.returns-in-Some-Some
returns-in-Some-Some c =
    let one = c.in-Some-Some.one.now in
    let other = c.in-Some-Some.other.now in
    let differ : IsTrue c.ne.result ↔ (one ≢ other) = search rules in
    rw (c.in-Some-Some.is-0, c.in-Some-Some.is-1) (apart one other _ differ)
