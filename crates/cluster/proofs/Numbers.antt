-- Events are numbered one by one.
use Rattle.std.proofs.Common.{◌≡◌, ◌⊎◌, ℕ, zero, suc, ◌+◌, List, [], ◌∷◌, ◌++◌, length, map, Some, sym, refl, ap, ◌∙◌, subst, arith, length-append, inl, inr, ⊎_elim, slice_get}
use Rattle.std.proofs.lemmas.List.{map-append}
use Rattle.std.proofs.lemmas.Option.{none-some, same_Some}
use Rattle.rows.specs.declared.actor.Actor.{Actor}
use Rattle.group_model.specs.Worlds.{Deliver}
use Rattle.group_inputs.specs.declared.event.Event.{Event as GroupEvent}
use Rattle.group_inputs.specs.Events.{group_event, group_events}
use Rattle.event_book.specs.declared.view.EventView.{EventView}
use Rattle.event_book.specs.declared.view.EventView.TheVariants.{Own, Delivery, Crash}
use Rattle.event_book.specs.declared.view.Note.{Note}
use Rattle.cells.specs.Cells.{kept_input}
use Rattle.cells.specs.declared.own_input.OwnInput.{OwnInput}
use Rattle.cluster.specs.declared.merging.TracedEvent.{TracedEvent}
use Rattle.cluster.specs.Closing.{noted_event, noted_events, sent_before}
use Rattle.cluster.specs.Inner.Merged.{TakenEvent, taken_event_in, taken_event_of}
use Rattle.cluster.specs.Inner.Numbers.{AreOffsets, entry_event, outputs_before, NumberedSoFar, entry_events}

got_last : {A : Type 0} (xs : List A) (x y : A) (k : ℕ) → slice_get (xs ++ x ∷ []) k ≡ Some y → (slice_get xs k ≡ Some y) ⊎ ((k ≡ length xs) × (x ≡ y))
got_last [] x y zero e = inr (refl, same_Some x y e)
got_last [] x y (suc k) e = absurd (cc)
got_last (z ∷ zs) x y zero e = inl e
got_last (z ∷ zs) x y (suc k) e = ⊎_elim (λ (h : slice_get zs k ≡ Some y). inl h) (λ (h : (k ≡ length zs) × (x ≡ y)). inr (ap suc h.0, h.1)) (got_last zs x y k e)

before_next : (done : List TakenEvent) (x : TakenEvent) (rest : List TakenEvent) → outputs_before (done ++ x ∷ rest) (suc (length done)) ≡ outputs_before (done ++ x ∷ rest) (length done) + x.sent
before_next [] x rest = omega arith
before_next (y ∷ done) x rest = let h = before_next done x rest in omega arith

pub numbered_first : (log : List TakenEvent) (events : List GroupEvent) (offsets : List ℕ) → events ≡ [] → offsets ≡ [] → NumberedSoFar log [] events offsets 0
numbered_first log events offsets none empty = record {
  events = ap group_events none;
  size = ap length empty;
  offsets = λ k n at. absurd (none-some n (sym (ap (λ l. slice_get l k) empty) ∙ at));
  total = refl;
}

numbered_next : (log done rest : List TakenEvent) (x : TakenEvent) (events : List GroupEvent) (event : GroupEvent) (offsets : List ℕ) (total next : ℕ)
    → done ++ x ∷ rest ≡ log → NumberedSoFar log done events offsets total → (AreOffsets log offsets → group_event event ≡ entry_event x.actor x.event log) → next ≡ total + x.sent
    → NumberedSoFar log (done ++ x ∷ []) (events ++ event ∷ []) (offsets ++ total ∷ []) next
numbered_next log done rest x events event offsets total next is so new sum = record {
  events = map-append group_event events (event ∷ []) ∙ (λ k. so.events k ++ new so.offsets k ∷ []) ∙ sym (map-append (λ (y : TakenEvent). entry_event y.actor y.event log) done (x ∷ []));
  size = (let a = length-append offsets (total ∷ []) in let b = length-append done (x ∷ []) in let c = so.size in omega arith);
  offsets = λ k n at. ⊎_elim (λ (h : slice_get offsets k ≡ Some n). so.offsets k n h) (λ (h : (k ≡ length offsets) × (total ≡ n)). sym h.1 ∙ so.total ∙ ap (outputs_before log) (sym (h.0 ∙ so.size))) (got_last offsets total n k at);
  total =
      let long : suc (length done) ≡ length (done ++ x ∷ []) = (let a = length-append done (x ∷ []) in omega arith) in
      let step : outputs_before log (suc (length done)) ≡ outputs_before log (length done) + x.sent = subst (λ l. outputs_before l (suc (length done)) ≡ outputs_before l (length done) + x.sent) is (before_next done x rest) in
      sum ∙ ap (λ n. n + x.sent) so.total ∙ sym step ∙ ap (outputs_before log) long;
}

pub numbered_more : (all seen left rest : List TracedEvent) (p : TracedEvent) (events more : List GroupEvent) (event : GroupEvent) (offsets longer : List ℕ) (total next : ℕ)
    → seen ++ left ≡ all → left ≡ p ∷ rest → NumberedSoFar (map taken_event_in all) (map taken_event_in seen) events offsets total → more ≡ events ++ event ∷ [] → longer ≡ offsets ++ total ∷ [] → next ≡ total + p.sent
    → (AreOffsets (map taken_event_in all) offsets → group_event event ≡ entry_event p.actor p.event (map taken_event_in all))
    → NumberedSoFar (map taken_event_in all) (map taken_event_in (seen ++ p ∷ [])) more longer next
numbered_more all seen left rest p events more event offsets longer total next is at so grown long sum new =
    let log = map taken_event_in all in
    subst (λ (l : List TakenEvent). NumberedSoFar log l more longer next) (sym (map-append taken_event_in seen (p ∷ [])))
    (subst (λ l. NumberedSoFar log (map taken_event_in seen ++ taken_event_in p ∷ []) l longer next) (sym grown)
    (subst (λ l. NumberedSoFar log (map taken_event_in seen ++ taken_event_in p ∷ []) (events ++ event ∷ []) l next) (sym long)
    (numbered_next log (map taken_event_in seen) (map taken_event_in rest) (taken_event_in p) events event offsets total next
    (sym (map-append taken_event_in seen (p ∷ rest)) ∙ ap (λ l. map taken_event_in (seen ++ l)) (sym at) ∙ ap (map taken_event_in) is) so new sum)))

before_is : (log : List (Note OwnInput)) (k : ℕ) → outputs_before (map taken_event_of log) k ≡ sent_before log k
before_is [] zero = refl
before_is [] (suc k) = refl
before_is (e ∷ es) zero = refl
before_is (e ∷ es) (suc k) = ap (λ n. length e.noted.outputs + n) (before_is es k)

event_is : (log : List (Note OwnInput)) (a : Actor) (event : EventView OwnInput) → entry_event a (kept_input event) (map taken_event_of log) ≡ noted_event log a event
event_is log a (Own input) = refl
event_is log a (Delivery stamp place frame) = ap (λ n. Deliver (n + place)) (before_is log stamp)
event_is log a Crash = refl

events_are : (log es : List (Note OwnInput)) → entry_events (map taken_event_of log) (map taken_event_of es) ≡ noted_events log es
events_are log [] = refl
events_are log (e ∷ es) = λ k. event_is log e.actor e.noted.event k ∷ events_are log es k

-- all events of a history
pub numbered_all : (log : List (Note OwnInput)) (all : List TakenEvent) (events : List GroupEvent) (offsets : List ℕ) (total : ℕ) → NumberedSoFar all all events offsets total → all ≡ map taken_event_of log → group_events events ≡ noted_events log log
numbered_all log all events offsets total so is = so.events ∙ ap (λ l. entry_events l l) is ∙ events_are log log
