use Rattle.std.proofs.Common.{inl, inr, refl, rules}
use Rattle.std.proofs.lemmas.Result.{err_from_is_err_and}
use Rattle.sim_sweep.specs.Rows.{WhyNoRow}
use Rattle.sim_sweep.proofs.row.row_of.Goals as goal

pub returns-clause-row : goal.returns-clause-row
returns-clause-row c =
    let played = rw c.deref-2.ensures.value at c.in_ok-refused.ensures.played in
    record {
      is_key = refl;
      first = c.in_ok-play.play;
      last = c.play_lines.new.play;
      begun = rw (c.keyed.ensures, c.deref.ensures.value) at c.in_ok-play.ensures.ok;
      refused = played.0;
      played = played.2;
      found = search rules;
      counted = played.1;
      ended = c.in_ok-end.ensures;
    }

pub returns-in_err-refused-clause-refused : goal.returns-in_err-refused-clause-refused
returns-in_err-refused-clause-refused c =
    let p = err_from_is_err_and c.from_residual-in_err-refused.result c.from_residual-in_err-refused.ensures.1 in
    let fault = rw c.deref-2.ensures.value at c.in_err-refused.ensures.fault in
    let why : WhyNoRow c.args.scenario.now c.args.settings c.in_err-refused.field-0.0 = elim fault [
      | inl memory ↦ inl memory
      | inr other ↦ inr (other.0, inr other.1)
    ] in
    rw (p.1, p.2) why
