use Rattle.std.proofs.Common.{◌≡◌, ◌<◌, ◌≤◌, ◌*◌, Err, arith, false, rules, subst, true}
use Rattle.sim_expand.specs.Counts.{most_at_once}
use Rattle.sim_expand.specs.Inner.Taking.{TakesIf, WhyNoMore}
use Rattle.sim_expand.proofs.Times.{no_more_times, once_in_vain, once_more, stops_once_more}
use Rattle.sim_expand.proofs.Taking.{none_more, up_to_more, was_of_none, was_of_use}
use Rattle.sim_expand.proofs.expanding.Taken.settle.Goals as goal

pub loop-init : goal.loop-init
loop-init c =
    let m = most_at_once c.args.self.now.behind in
    up_to_more 0 (0 * m) c.args.self.now c.args.self.now (omega arith) (none_more c.args.self.now c.requires)

pub round-requires : goal.round-requires
round-requires c = c.loop.invariant.3.more.stands

pub returns-then-not-done-clause-ok : goal.returns-then-not-done-clause-ok
returns-then-not-done-clause-ok c =
    let m = most_at_once c.args.self.now.behind in
    let no_done : c.in_ok-done.done ≡ false = search rules in
    let within : c.loop.counter < c.args.most = search rules in
    let once = subst (λ b. TakesIf c.in_ok-done.done (most_at_once b) c.loop.self c.round.new.self) c.loop.invariant.3.behind c.in_ok-done.ensures.ok in
    once_in_vain c.loop.counter c.args.most m c.args.self.now c.loop.self c.round.new.self c.loop.invariant (omega (arith, within)) (was_of_none c.in_ok-done.done m c.loop.self c.round.new.self no_done once)

pub loop-preserved : goal.loop-preserved
loop-preserved c =
    let m = most_at_once c.args.self.now.behind in
    let done : c.in_ok-done.done ≡ true = search rules in
    let once = subst (λ b. TakesIf c.in_ok-done.done (most_at_once b) c.loop.self c.round.new.self) c.loop.invariant.3.behind c.in_ok-done.ensures.ok in
    once_more c.loop.counter c.args.most m c.args.self.now c.loop.self c.round.new.self c.loop.invariant (was_of_use c.in_ok-done.done m c.loop.self c.round.new.self done once)

pub returns-in_err-done-clause-refused : goal.returns-in_err-done-clause-refused
returns-in_err-done-clause-refused c =
    let m = most_at_once c.args.self.now.behind in
    let within : c.loop.counter < c.args.most = search rules in
    let same : c.from_residual-in_err-done.result ≡ Err c.in_err-done.field-0.0 = search rules in
    let why = subst (λ b. WhyNoMore (most_at_once b) c.loop.self c.in_err-done.field-0.0) c.loop.invariant.3.behind c.in_err-done.ensures.refused in
    rw same (stops_once_more c.loop.counter c.args.most m c.args.self.now c.loop.self c.round.new.self c.loop.invariant c.in_err-done.field-0.0 within why)

pub returns-clause-ok : goal.returns-clause-ok
returns-clause-ok c =
    let within : c.loop.counter ≤ c.args.most = search rules in
    no_more_times c.loop.counter c.args.most (most_at_once c.args.self.now.behind) c.args.self.now c.loop.self c.loop.self c.loop.invariant within

pub returns-then-left-eq0-clause-ok : goal.returns-then-left-eq0-clause-ok
returns-then-left-eq0-clause-ok c =
    let within : c.loop.counter < c.args.most = search rules in
    no_more_times c.loop.counter c.args.most (most_at_once c.args.self.now.behind) c.args.self.now c.loop.self c.loop.self c.loop.invariant (omega (arith, within))
