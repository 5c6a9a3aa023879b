use Rattle.std.proofs.Common.{arith}
use Rattle.std.proofs.lemmas.Bool.{MatchBool-at_true}
use Rattle.rows.specs.GroupSizes.{IsGroup}
use Rattle.world.proofs.GroupBegins.{made_group, made_new, made_reached}
use Rattle.world.proofs.GroupShown.{shown_first}
use Rattle.world.proofs.group.world.World.new.Goals as goal

pub invariant_of-result : goal.invariant_of-result
invariant_of-result c =
    let size : IsGroup c.args.n = MatchBool-at_true _ _ c.if-not-is_group_size.false c.is_group_size.ensures.both in
    let s = c.in_ok-new_servers.ensures in
    made_reached c.args.n c.args.nodes.now _
    (made_group c.args.n c.args.nodes.now c.in_ok-new_servers.field-0.items c.in_ok-new_clients.field-0.items c.new.result size (omega arith) s.count s.places s.newcomers c.in_ok-new_clients.ensures c.new.ensures)
    c.all_ranges.ensures

pub returns-clause-ok : goal.returns-clause-ok
returns-clause-ok c =
    let size : IsGroup c.args.n = MatchBool-at_true _ _ c.if-not-is_group_size.false c.is_group_size.ensures.both in
    let s = c.in_ok-new_servers.ensures in
    made_new c.args.n c.args.nodes.now _
    (made_group c.args.n c.args.nodes.now c.in_ok-new_servers.field-0.items c.in_ok-new_clients.field-0.items c.new.result size (omega arith) s.count s.places s.newcomers c.in_ok-new_clients.ensures c.new.ensures)

pub returns-clause-shown : goal.returns-clause-shown
returns-clause-shown c =
    let size : IsGroup c.args.n = MatchBool-at_true _ _ c.if-not-is_group_size.false c.is_group_size.ensures.both in
    let s = c.in_ok-new_servers.ensures in
    shown_first c.args.n c.args.nodes.now _
    (made_new c.args.n c.args.nodes.now _
    (made_group c.args.n c.args.nodes.now c.in_ok-new_servers.field-0.items c.in_ok-new_clients.field-0.items c.new.result size (omega arith) s.count s.places s.newcomers c.in_ok-new_clients.ensures c.new.ensures))
