use Rattle.std.proofs.Common.{◌≡◌, ◌∙◌, ◌<◌, ◌++◌, ◌∷◌, [], ℕ, suc, subst, List, inr, refl, ap, sym, take, drop, length, get_or, drop-cons, take_all}
use Rattle.std.specs.List.{list_any}
use Rattle.std.proofs.lemmas.List.{take-append-drop, take_more}
use Rattle.rows.specs.declared.allocation.AllocId.{AllocId}
use Rattle.fsm_model.specs.Words.{same_alloc}
use Rattle.client_agent.specs.Capacity.{AreDistinct, have_distinct_ids}
use Rattle.client_agent.proofs.Distinct.{distinct_push, stands_twice}
use Rattle.client_agent.proofs.started.Started.of.Goals as goal

split_there : (ids : List AllocId) (i : ℕ) (id : AllocId) → i < length ids → id ≡ get_or ids i id → ids ≡ take i ids ++ id ∷ drop (suc i) ids
split_there ids i id within is = sym (take-append-drop i ids) ∙ ap (λ l. take i ids ++ l) (drop-cons ids i id within ∙ ap (λ x. x ∷ drop (suc i) ids) (sym is))

pub loop-id-init : goal.loop-id-init
loop-id-init c = record { so_far = c.none-started.ensures; distinct = ap have_distinct_ids c.none-started.ensures }

pub loop-id-preserved : goal.loop-id-preserved
loop-id-preserved c =
    let ids = c.args.ids.now in
    let i = c.loop-id.id-index in
    let id = c.id-item.result in
    let before = c.loop-id.started in
    let more = c.in_ok-push.ensures.ok in
    record {
      so_far = more ∙ (ap (λ l. l ++ id ∷ []) c.loop-id.invariant.so_far ∙ sym (take_more ids i id c.loop-id-test.true ∙ ap (λ x. take i ids ++ x ∷ []) (sym c.id-item.is)));
      distinct = subst AreDistinct (sym more) (distinct_push before id c.loop-id.invariant.distinct (sym c.has.ensures ∙ c.if-has.false));
    }

pub returns-clause-distinct : goal.returns-clause-distinct
returns-clause-distinct c = subst AreDistinct (c.loop-id.invariant.so_far ∙ take_all c.loop-id.id-index c.args.ids.now c.loop-id-test.false) c.loop-id.invariant.distinct

pub returns-then-has-clause-err : goal.returns-then-has-clause-err
returns-then-has-clause-err c =
    let ids = c.args.ids.now in
    let i = c.loop-id.id-index in
    let id = c.id-item.result in
    let split = split_there ids i id c.loop-id-test.true c.id-item.is in
    inr (refl, stands_twice ids (take i ids) (drop (suc i) ids) id split (ap (list_any (same_alloc id)) (sym c.loop-id.invariant.so_far) ∙ sym c.has.ensures ∙ c.if-has.true))
