use Rattle.std.proofs.Common.{refl, ◌∙◌}
use Rattle.std.proofs.lemmas.Result.{IfOk-from_err}
use Rattle.wire.specs.Inner.Said.{said_body}
use Rattle.wire.proofs.Framing.{body_within}
use Rattle.wire.proofs.Sizes.{Behind, four_inside, length_fits, sized_text, nothing_came, part_came}
use Rattle.wire.proofs.writing.append_sized.Goals as goal

pub returns-in_err-extend_from_slice : goal.returns-in_err-extend_from_slice
returns-in_err-extend_from_slice g c = record {
  ok = IfOk-from_err c.from_residual.result _ c.from_residual.ensures.0;
  agrees = IfOk-from_err c.from_residual.result _ c.from_residual.ensures.0;
  err = nothing_came c.from_residual.result c.in_err-extend_from_slice.ensures.items;
}

pub returns-in_err-append_said : goal.returns-in_err-append_said
returns-in_err-append_said g c = record {
  ok = IfOk-from_err c.from_residual-in_err-append_said.result _ c.from_residual-in_err-append_said.ensures.0;
  agrees = IfOk-from_err c.from_residual-in_err-append_said.result _ c.from_residual-in_err-append_said.ensures.0;
  err = part_came _ _ c.from_residual-in_err-append_said.result c.in_ok-extend_from_slice.ensures.items c.in_err-append_said.ensures.value;
}

pub put_size-requires : goal.put_size-requires
put_size-requires g c =
    let spec = g.M.Machine.spec in
    let law = g.met.M.Machine.lawful in
    let behind : Behind _ _ _ _ _ _ = record { place = c.len-size_at.ensures ∙ c.args.out.now.ok.0; four_are = refl; four_came = c.in_ok-extend_from_slice.ensures.items; text_came = c.in_ok-append_said.ensures.value.1 } in
    record { room = four_inside behind; short = length_fits behind (body_within spec law (said_body c.args.said.now) c.in_ok-append_said.ensures.value.0) }

pub returns : goal.returns
returns g c =
    let behind : Behind _ _ _ _ _ _ = record { place = c.len-size_at.ensures ∙ c.args.out.now.ok.0; four_are = refl; four_came = c.in_ok-extend_from_slice.ensures.items; text_came = c.in_ok-append_said.ensures.value.1 } in
    record { ok = (c.in_ok-append_said.ensures.value.0, sized_text behind _ c.put_size.ensures); agrees = c.in_ok-append_said.ensures.agrees; err = tt }
