use Rattle.sim_expand.proofs.Taking.{and_so, if_elects_stops, if_settles_stops, now_behind, still_before}
use Rattle.sim_expand.proofs.expanding.Taken.take.Goals as goal

pub returns-in-Plain-clause-ok : goal.returns-in-Plain-clause-ok
returns-in-Plain-clause-ok c = rw c.in-Plain.is (and_so c.plain.result c.plain.ensures.ok (λ some. (some.0, rw c.as_str.ensures.value at some.1, some.2.more)))

pub returns-in-Plain-clause-behind : goal.returns-in-Plain-clause-behind
returns-in-Plain-clause-behind c = rw c.in-Plain.is (and_so c.plain.result c.plain.ensures.ok (λ some. still_before c.args.self.now some.0 c.plain.new.self some.2))

pub returns-in-Plain-clause-refused : goal.returns-in-Plain-clause-refused
returns-in-Plain-clause-refused c = rw c.in-Plain.is (rw c.as_str.ensures.value at c.plain.ensures.refused)

pub returns-in-Settle-clause-ok : goal.returns-in-Settle-clause-ok
returns-in-Settle-clause-ok c = rw c.in-Settle.is (and_so c.settle.result c.settle.ensures.ok (λ some. (some.0, (rw c.unwrap_or.ensures at some.1, some.2), some.3.more)))

pub returns-in-Settle-clause-behind : goal.returns-in-Settle-clause-behind
returns-in-Settle-clause-behind c = rw c.in-Settle.is (and_so c.settle.result c.settle.ensures.ok (λ some. still_before c.args.self.now some.0 c.settle.new.self some.3))

pub returns-in-Settle-clause-refused : goal.returns-in-Settle-clause-refused
returns-in-Settle-clause-refused c = rw c.in-Settle.is (if_settles_stops c.settle.result c.in-Settle.count c.args.self.now (rw c.unwrap_or.ensures at c.settle.ensures.refused))

pub returns-in-Elect-clause-ok : goal.returns-in-Elect-clause-ok
returns-in-Elect-clause-ok c = rw c.in-Elect.is c.elect.ensures.ok

pub returns-in-Elect-clause-behind : goal.returns-in-Elect-clause-behind
returns-in-Elect-clause-behind c = rw c.in-Elect.is (and_so c.elect.result c.elect.ensures.behind (now_behind c.args.self.now.behind c.elect.new.self.behind))

pub returns-in-Elect-clause-refused : goal.returns-in-Elect-clause-refused
returns-in-Elect-clause-refused c = rw c.in-Elect.is (if_elects_stops c.elect.result c.args.self.now c.elect.ensures.refused)
