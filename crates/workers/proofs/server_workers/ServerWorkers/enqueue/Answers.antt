use Rattle.std.proofs.Common.{◌≡◌, ◌<◌, List, ◌∷◌, ◌++◌, length, take, sym, ap, ◌∙◌, subst, rules, arith, length-append}
use Rattle.std.specs.Prelude.{Err, OnErr}
use Rattle.std.proofs.Math.Seq.{take-append_seam}
use Rattle.std.specs.Vec.Iter.{into_iter_items}
use Rattle.rows.specs.declared.worker.Work.{Work}
use Rattle.workers.specs.Working.{KeptFirst}
use Rattle.workers.proofs.server_workers.ServerWorkers.enqueue.Goals as goal

-- some came before this one, and wait
kept_first : (old gone rest came new : List Work) (w : Work) → new ≡ old ++ gone → gone ++ w ∷ rest ≡ came → KeptFirst old came new
kept_first old gone rest came new w is all = (
  length gone,
  subst (λ xs. length gone < length xs) all (rw (length-append gone (w ∷ rest)) (omega arith)),
  is ∙ ap (λ xs. old ++ xs) (sym (take-append_seam gone (w ∷ rest)) ∙ ap (take (length gone)) all),
)

pub returns-in_err-put-clause-err : goal.returns-in_err-put-clause-err
returns-in_err-put-clause-err c =
    let l = c.loop-response in
    let same : c.from_residual.result ≡ Err c.in_err-put.field-0.0 = search rules in
    let all : l.yielded ++ c.in-Some.response ∷ into_iter_items c.next.new.self ≡ c.args.work = ap (λ xs. l.yielded ++ xs) (sym c.in-Some.ensures.steps.0) ∙ l.invariant.1 in
    rw (← c.self.view_is) (subst (λ q. OnErr q (KeptFirst c.self.inside.waiting c.args.work c.put.new.self)) (sym same) (kept_first c.self.inside.waiting l.yielded (into_iter_items c.next.new.self) c.args.work c.put.new.self c.in-Some.response (c.in_err-put.ensures.err ∙ l.invariant.0) all))
