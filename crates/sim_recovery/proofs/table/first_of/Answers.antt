use Rattle.std.proofs.Common.{◌≡◌, ◌≤◌, ◌∙◌, ap, arith, length, map, rules, sym, take}
use Rattle.std.proofs.lemmas.List.{take-map, take_all}
use Rattle.group_inputs.specs.Events.{group_event, group_events}
use Rattle.sim_recovery.proofs.table.first_of.Goals as goal

pub returns-in-Some : goal.returns-in-Some
returns-in-Some c =
    let is : c.in-Some.front.now ≡ take c.args.after c.args.events.now = search rules in
    ap group_events is ∙ sym (take-map group_event c.args.after c.args.events.now)

pub returns-in-None : goal.returns-in-None
returns-in-None c =
    let past : length c.args.events.now ≤ c.args.after = search (rules, arith) in
    sym (take-map group_event c.args.after c.args.events.now ∙ ap (map group_event) (take_all c.args.after c.args.events.now past))
