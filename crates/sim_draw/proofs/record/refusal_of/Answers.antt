use Rattle.std.proofs.Common.{sym, arith}
use Rattle.sim_draw.proofs.Fetching.{fetched_same}
use Rattle.sim_draw.proofs.record.refusal_of.Goals as goal

pub returns-clause-refused : goal.returns-clause-refused
returns-clause-refused c = record {
  refusal = c.in-Err.refusal;
  number_is = sym c.number.ensures;
  cause = c.in-Err.ensures.cause (grind (arith, c.eq.ensures, c.if-eq.false));
  same = fetched_same _ _ _ c.in-Err.ensures.err c.take_work-work.ensures.rest;
}
