use Rattle.std.proofs.Common.{◌≡◌, Err, inl, inr, map, rules, string_bytes}
use Rattle.sim_play.specs.PlaySteps.{StepRefused, StepTaken}
use Rattle.runner.specs.Expansions.{TakesLines}
use Rattle.runner.proofs.Expansions.{played_steps}
use Rattle.runner.proofs.expanding.expanded_text.Goals as goal

pub returns-clause-plain : goal.returns-clause-plain
returns-clause-plain c =
    let lines = map string_bytes c.in_ok-lines.lines.items in
    let run = rw c.deref.ensures.value at c.in_ok-lines.ensures.taken in
    record {
      short = c.in_ok-short.short;
      read = c.in_ok-short.ensures.ok;
      lines = lines;
      taken = record { order = rw (c.deref.ensures.value, c.deref-2.ensures.value) at c.in_ok-lines.ensures.order; play = run.0; taken = run.1 };
      good = played_steps StepTaken StepRefused lines run.1.first run.1.refused run.0 run.1.played;
      plain = rw (c.deref-3.ensures.value, c.deref-4.ensures.value) at c.in_ok-form.ensures.ok;
      is = rw (c.deref-3.ensures.value, c.deref-4.ensures.value) at c.in_ok-form.ensures.form;
    }

pub returns-in_err-lines-clause-refused : goal.returns-in_err-lines-clause-refused
returns-in_err-lines-clause-refused c =
    let same : c.from_residual-in_err-lines.result ≡ Err c.in_err-lines.field-0.0 = search rules in
    let why = rw (c.deref.ensures.value, c.deref-2.ensures.value) at c.in_err-lines.ensures.refused in
    rw same (elim why [
      | inl memory ↦ inl memory
      | inr none ↦ inr (none.0, inr (c.in_ok-short.short, c.in_ok-short.ensures.ok, inl none.1))
    ])

pub returns-in_err-form-clause-refused : goal.returns-in_err-form-clause-refused
returns-in_err-form-clause-refused c =
    let same : c.from_residual-in_err-form.result ≡ Err c.in_err-form.field-0.0 = search rules in
    let run = rw c.deref.ensures.value at c.in_ok-lines.ensures.taken in
    let taken : TakesLines c.in_ok-short.short (map string_bytes c.in_ok-lines.lines.items) = record {
      order = rw (c.deref.ensures.value, c.deref-2.ensures.value) at c.in_ok-lines.ensures.order;
      play = run.0;
      taken = run.1;
    } in
    let why = rw (c.deref-3.ensures.value, c.deref-4.ensures.value) at c.in_err-form.ensures.refused in
    rw same (elim why [
      | inl memory ↦ inl memory
      | inr none ↦ inr (none.0, inr (c.in_ok-short.short, c.in_ok-short.ensures.ok, inr (_, taken, none.1)))
    ])
