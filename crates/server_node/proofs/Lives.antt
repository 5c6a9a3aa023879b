-- What the contract of `serve` says is what is asked of a process that runs.
use Rattle.std.proofs.Common.{◌≡◌, ◌∙◌, inl, inr, Option, Some, Result, Ok, Err, OnOk, OnErr, List, [], ◌∷◌, ◌++◌, sym, ap, subst, append-nil}
use Rattle.std.proofs.lemmas.List.{append_cancel_left}
use Rattle.journal.specs.Events.{IoEvent, InputEnded}
use Rattle.journal.specs.Serving.{ProcessRunsToEnd, ProcessStops, at_once, part_way}
use Rattle.process_lives.specs.Lives.{Code, Serves, IsUnderWay}

module _ {K V P : Type 0} (c : Code K V P) (k : K) (first : V) (did done : List IoEvent) where
  ran : (new : V) → ProcessRunsToEnd (c.replay k) c.part c.Turn first new (Some did) (Some (did ++ done)) → IsUnderWay c k (Serves first done)
  ran new r =
      let all = r.events ++ InputEnded ∷ [] in
      let same : done ≡ all = append_cancel_left did done all r.happened in
      inr ([], record { left = []; last = new; events = r.events; runs = r.runs; is = append-nil done ∙ same })

  stopped : ProcessStops (c.replay k) c.part c.Turn first (Some did) (Some (did ++ done)) → IsUnderWay c k (Serves first done)
  stopped (at_once none) = inl (append_cancel_left did done [] none)
  stopped (part_way left last events runs begun) =
      let same : done ≡ begun.first = append_cancel_left did done begun.first begun.happened in
      inr (begun.others, record { left = left; last = last; events = events; runs = runs; is = ap (λ l. l ++ begun.others) same ∙ sym begun.all })

pub under_way : {K V P T E : Type 0} (c : Code K V P) (k : K) (first new : V) (a b : Option (List IoEvent)) (did done : List IoEvent) (r : Result T E) → OnOk r (ProcessRunsToEnd (c.replay k) c.part c.Turn first new a b)
    → OnErr r (ProcessStops (c.replay k) c.part c.Turn first a b) → a ≡ Some did → b ≡ Some (did ++ done) → IsUnderWay c k (Serves first done)
under_way c k first new a b did done (Ok x) ok err before after =
    ran c k first did done new (subst (λ z. ProcessRunsToEnd (c.replay k) c.part c.Turn first new (Some did) z) after (subst (λ z. ProcessRunsToEnd (c.replay k) c.part c.Turn first new z b) before ok))
under_way c k first new a b did done (Err e) ok err before after =
    stopped c k first did done (subst (λ z. ProcessStops (c.replay k) c.part c.Turn first (Some did) z) after (subst (λ z. ProcessStops (c.replay k) c.part c.Turn first z b) before err))
