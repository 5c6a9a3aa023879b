use Rattle.std.proofs.Common.{refl}
use Rattle.cells.proofs.Members.{of_group_either, group_within, lacks_server}
use Rattle.cells.proofs.opening.is_group.Goals as goal

pub returns-then-not-are_within : goal.returns-then-not-are_within
returns-then-not-are_within c = λ g. c.if-not-are_within.ensures (group_within c.args.n c.args.m c.args.all.now g)

pub returns-then-not-has_servers : goal.returns-then-not-has_servers
returns-then-not-has_servers c = lacks_server c.args.n c.args.m c.args.all.now (c.if-not-has_servers.ensures.no refl)

pub returns : goal.returns
returns c = of_group_either c.has_clients.result c.args.n c.args.m c.args.all.now c.if-not-are_within.ensures (c.if-not-has_servers.ensures.yes refl) c.has_clients.ensures.yes c.has_clients.ensures.no
