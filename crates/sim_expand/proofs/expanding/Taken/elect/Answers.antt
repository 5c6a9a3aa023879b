use Rattle.std.proofs.Common.{◌≤◌, ◌∙◌, ap, arith, length, map, string_bytes, subst, sym, take}
use Rattle.std.specs.List.{All}
use Rattle.std.proofs.Math.Nat.{min-le_left}
use Rattle.std.proofs.lemmas.List.{length-take, take-map}
use Rattle.std.proofs.lemmas.List.Elements.{All-take}
use Rattle.sim_expand.specs.Inner.Taking.{IsNoFlowLine}
use Rattle.sim_expand.proofs.Elections.{electing, election_steps}
use Rattle.sim_expand.proofs.Taking.{and_so, if_stops_with_more}
use Rattle.sim_expand.proofs.expanding.Taken.elect.Goals as goal

pub take_elected-requires-clause-steps : goal.take_elected-requires-clause-steps
take_elected-requires-clause-steps c =
    let lines = c.in-Ok.lines.items in
    let all = All-take IsNoFlowLine 10000 (map string_bytes lines) (election_steps _ _ _ _ c.in-Ok.ensures.lines) in
    let first = ap (map string_bytes) (c.first_elected.ensures ∙ ap (take 10000) c.deref.ensures.value) ∙ sym (take-map string_bytes 10000 lines) in
    subst (All IsNoFlowLine) (sym first) all

pub returns-in-Ok-clause-ok : goal.returns-in-Ok-clause-ok
returns-in-Ok-clause-ok c =
    let lines = c.in-Ok.lines.items in
    let first = ap (map string_bytes) (c.first_elected.ensures ∙ ap (take 10000) c.deref.ensures.value) ∙ sym (take-map string_bytes 10000 lines) in
    let is = rw c.from-servers.ensures at (rw c.trace.ensures.value at c.in-Ok.ensures.lines) in
    and_so c.take_elected.result c.take_elected.ensures.ok (λ more. (map string_bytes c.first_elected.result.now, electing c.args.self.now (map string_bytes lines) _ c.requires is first, more))

pub returns-in-Ok-clause-refused : goal.returns-in-Ok-clause-refused
returns-in-Ok-clause-refused c =
    let own = c.first_elected.result.now in
    let cut = ap length c.first_elected.ensures ∙ length-take 10000 c.deref.result.now in
    let few : length own ≤ 10000 = omega (arith, cut, min-le_left 10000 (length c.deref.result.now)) in
    if_stops_with_more c.take_elected.result (length own) 10000 c.args.self.now few c.take_elected.ensures.refused
