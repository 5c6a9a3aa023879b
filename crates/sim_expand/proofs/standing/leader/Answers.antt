use Rattle.std.proofs.Common.{◌≡◌, ◌∙◌, ◌≤◌, [], ap, drop, fold, length, rules, sym}
use Rattle.std.proofs.Math.ListN.{drop_of_length-le}
use Rattle.std.specs.Prelude.{option_map}
use Rattle.sim_expand.specs.Inner.Standings.{later}
use Rattle.sim_expand.proofs.Leading.{lent_leads}
use Rattle.sim_expand.proofs.standing.leader.Goals as goal

pub returns : goal.returns
returns c =
    let servers = c.args.servers.now in
    let past : length servers ≤ c.loop-server.server-index = search rules in
    let none : drop c.loop-server.server-index servers ≡ [] = drop_of_length-le servers past in
    lent_leads servers c.loop-server.found (sym (ap (fold later (option_map (λ s. s.now) c.loop-server.found)) none) ∙ c.loop-server.invariant)
