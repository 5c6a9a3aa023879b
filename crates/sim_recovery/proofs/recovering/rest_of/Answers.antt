use Rattle.std.proofs.Common.{◌≡◌, ◌-◌, ◌≤◌, ◌∙◌, ap, arith, drop, length, map, rules, sym, take}
use Rattle.std.proofs.Math.ListN.{drop_of_length-le}
use Rattle.std.proofs.lemmas.List.{drop-map, take_rest}
use Rattle.group_inputs.specs.Events.{group_event, group_events}
use Rattle.sim_recovery.proofs.recovering.rest_of.Goals as goal

pub returns-in-Some : goal.returns-in-Some
returns-in-Some c =
    let events = c.args.events.now in
    let n = c.args.before in
    let is : c.in-Some.rest.now ≡ take (length events - n) (drop n events) = search rules in
    ap group_events (is ∙ take_rest events n) ∙ sym (drop-map group_event c.args.before c.args.events.now)

pub returns-in-None : goal.returns-in-None
returns-in-None c =
    let past : length c.args.events.now ≤ c.args.before = search (rules, arith) in
    sym (drop-map group_event c.args.before c.args.events.now ∙ ap (map group_event) (drop_of_length-le c.args.events.now past))
