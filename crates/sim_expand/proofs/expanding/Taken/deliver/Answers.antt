use Rattle.std.proofs.Common.{◌≡◌, ◌∙◌, ◌+◌, ◌<◌, ◌≤◌, Err, arith, rules}
use Rattle.sim_expand.proofs.Delivering.{delivered_and_more, delivers_more, delivers_reached, none_delivered}
use Rattle.sim_expand.proofs.Taking.{none_of_these, stops_behind, stops_with_more}
use Rattle.sim_expand.proofs.expanding.Taken.deliver.Goals as goal

pub loop-init : goal.loop-init
loop-init c = none_delivered c.args.self.now c.args.self.now (none_of_these c.args.self.now c.requires.stands)

pub next_message-requires-clause-stands : goal.next_message-requires-clause-stands
next_message-requires-clause-stands c = c.loop.invariant.3.more.stands

pub next_message-requires-clause-behind : goal.next_message-requires-clause-behind
next_message-requires-clause-behind c = c.loop.invariant.3.behind ∙ c.requires.behind

pub pass-requires-clause-stands : goal.pass-requires-clause-stands
pass-requires-clause-stands c = c.next_message.ensures.3.more.stands

pub pass-requires-clause-behind : goal.pass-requires-clause-behind
pass-requires-clause-behind c = c.next_message.ensures.3.behind ∙ c.loop.invariant.3.behind ∙ c.requires.behind

pub loop-preserved : goal.loop-preserved
loop-preserved c =
    let i = c.loop.counter in
    let taken = delivered_and_more i 0 c.args.self.now c.loop.self c.next_message.new.self c.loop.invariant c.next_message.ensures in
    delivers_more (i + 0 + 1) (i + 1) c.args.self.now c.pass.new.self (omega arith) (delivered_and_more (i + 0) 1 c.args.self.now c.next_message.new.self c.pass.new.self taken c.in_ok-pass.ensures.ok)

pub returns-in_default-clause-ok : goal.returns-in_default-clause-ok
returns-in_default-clause-ok c =
    let i = c.loop.counter in
    let within : i < c.args.most = search rules in
    delivers_more (i + 0) c.args.most c.args.self.now c.next_message.new.self (omega (arith, within)) (delivered_and_more i 0 c.args.self.now c.loop.self c.next_message.new.self c.loop.invariant c.next_message.ensures)

pub returns-in_err-pass-clause-refused : goal.returns-in_err-pass-clause-refused
returns-in_err-pass-clause-refused c =
    let i = c.loop.counter in
    let within : i < c.args.most = search rules in
    let same : c.from_residual.result ≡ Err c.in_err-pass.field-0.0 = search rules in
    let taken = delivered_and_more i 0 c.args.self.now c.loop.self c.next_message.new.self c.loop.invariant c.next_message.ensures in
    let now = delivers_reached (i + 0) c.args.self.now c.next_message.new.self taken in
    rw same (stops_with_more (i + 0 + 1) c.args.most c.args.self.now c.in_err-pass.field-0.0 (omega (arith, within)) (stops_behind (i + 0) 1 c.args.self.now c.next_message.new.self c.in_err-pass.field-0.0 now c.in_err-pass.ensures.refused))

pub returns-clause-ok : goal.returns-clause-ok
returns-clause-ok c =
    let within : c.loop.counter ≤ c.args.most = search rules in
    delivers_more c.loop.counter c.args.most c.args.self.now c.loop.self within c.loop.invariant
