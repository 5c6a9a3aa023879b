use Rattle.std.proofs.Common.{◌≡◌, Err, length, map, rules, string_bytes, subst}
use Rattle.std.proofs.lemmas.List.{length-map}
use Rattle.sim_expand.specs.Inner.Taking.{TakesUpTo}
use Rattle.sim_expand.proofs.Times.{if_stops_after, some_after, stops_at_once}
use Rattle.sim_expand.proofs.Taking.{and_so, some_lines}
use Rattle.sim_expand.proofs.expanding.Taken.go.Goals as goal

pub flow-requires : goal.flow-requires
flow-requires c = c.in_ok-take_lines.ensures.ok.more.stands

pub returns-in_err-take_lines-clause-refused : goal.returns-in_err-take_lines-clause-refused
returns-in_err-take_lines-clause-refused c =
    let same : c.from_residual.result ≡ Err c.in_err-take_lines.field-0.0 = search rules in
    rw same (stops_at_once (length c.args.lines.now) c.args.self.now c.in_err-take_lines.field-0.0 c.requires.few c.in_err-take_lines.ensures.refused)

pub returns-clause-ok : goal.returns-clause-ok
returns-clause-ok c =
    let n = length c.args.lines.now in
    let some : TakesUpTo n c.args.self.now c.take_lines.new.self = subst (λ k. TakesUpTo k c.args.self.now c.take_lines.new.self) (length-map c.args.lines.now string_bytes) (some_lines (map string_bytes c.args.lines.now) c.args.self.now c.take_lines.new.self c.requires.steps c.in_ok-take_lines.ensures.ok) in
    and_so c.flow.result c.flow.ensures.ok (some_after n c.args.self.now c.take_lines.new.self c.flow.new.self c.requires.few some)

pub returns-clause-refused : goal.returns-clause-refused
returns-clause-refused c =
    let n = length c.args.lines.now in
    let some : TakesUpTo n c.args.self.now c.take_lines.new.self = subst (λ k. TakesUpTo k c.args.self.now c.take_lines.new.self) (length-map c.args.lines.now string_bytes) (some_lines (map string_bytes c.args.lines.now) c.args.self.now c.take_lines.new.self c.requires.steps c.in_ok-take_lines.ensures.ok) in
    if_stops_after n c.flow.result c.args.self.now c.take_lines.new.self c.requires.few some c.flow.ensures.refused
