use Rattle.std.proofs.Common.{Some, sym, ap, ◌∙◌, arith}
use Rattle.std.proofs.lemmas.Option.{slice_get-get_or}
use Rattle.plan_apply.proofs.Naming.{counted_itself}
use Rattle.plan_apply.proofs.names.are_alone.Goals as goal

pub is_alone-requires : goal.is_alone-requires
is_alone-requires c =
    let place = c.place-item.result in
    let ks = c.args.more.now in
    let i = c.loop-place.place-index in
    record { one = counted_itself place ks i (slice_get-get_or ks i place (omega arith) ∙ ap Some (sym c.place-item.is)) }
