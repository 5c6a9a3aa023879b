use Rattle.std.proofs.Common.{◌∙◌, Some, ap, sym, option_map}
use Rattle.sim_scenario.specs.Objects.{members_count}
use Rattle.sim_scenario.proofs.Objects.{count_of}
use Rattle.sim_scenario.proofs.scenario.keys_of.Goals as goal

pub returns-in-Some : goal.returns-in-Some
returns-in-Some c =
    ap Some (c.len.ensures.len ∙ sym (count_of c.in-Some.members.now.entries))
    ∙ ap (option_map members_count) c.in-Some.ensures
