-- Each delivery of a legal history is of an output that stands before it, and so is its number of
-- one that was counted.
use Rattle.std.proofs.Common.{◌≡◌, ℕ, zero, suc, ◌+◌, ◌<◌, ◌≤◌, List, [], ◌∷◌, ◌++◌, length, map, Some, sym, refl, ap, ◌∙◌, subst, arith, slice_get}
use Rattle.std.specs.Prelude.{slice_index}
use Rattle.std.proofs.lemmas.Option.{same_Some, slice_get_within, slice_get-get_or}
use Rattle.rows.specs.declared.actor.Actor.{Actor}
use Rattle.group_safety.proofs.Lists.{get_map}
use Rattle.event_book.specs.declared.view.EventView.{EventView}
use Rattle.event_book.specs.declared.view.EventView.TheVariants.{Own, Delivery, Crash}
use Rattle.event_book.specs.declared.view.Note.{Note}
use Rattle.event_book.specs.Histories.{IsDueEvent, IsDueNote, IsLegal}
use Rattle.event_book.proofs.Logs.{all_at}
use Rattle.cells.specs.declared.own_input.OwnInput.{OwnInput}
use Rattle.cluster.specs.declared.merging.TracedEvent.{TracedEvent}
use Rattle.group_inputs.specs.declared.event.Event.{Event as GroupEvent}
use Rattle.cells.specs.declared.cell.KeptEvent.{KeptEvent}
use Rattle.cells.specs.declared.cell.KeptEvent.TheVariants as kept
use Rattle.cells.specs.Cells.{kept_input}
use Rattle.cluster.specs.Inner.Merged.{TakenEvent, taken_event_in, taken_event_of}
use Rattle.cluster.specs.Inner.Numbers.{AreDue, FallsWithin, IsDue, NumberedSoFar, outputs_before}
use Rattle.cluster.proofs.Whole.{stamp_at}

due_event : (log : List (Note OwnInput)) (k now : ℕ) (a : Actor) (event : EventView OwnInput) → now ≡ k → IsDueEvent log now a event → IsDue (map taken_event_of log) k (kept_input event)
due_event log k now a (Own input) is h = tt
due_event log k now a (Delivery stamp place frame) is h = (
  subst (λ n. stamp < n) is h.2,
  taken_event_of h.0,
  get_map taken_event_of log stamp h.0 h.1,
  slice_get_within h.0.noted.outputs place _ h.3,
)
due_event log k now a Crash is h = tt

from_map : (log : List (Note OwnInput)) (k : ℕ) (x : TakenEvent) → slice_get (map taken_event_of log) k ≡ Some x → (e : Note OwnInput) × (slice_get log k ≡ Some e) × (taken_event_of e ≡ x)
from_map [] k x at = absurd (cc)
from_map (e ∷ es) zero x at = (e, refl, same_Some (taken_event_of e) x at)
from_map (e ∷ es) (suc k) x at = from_map es k x at

due_in : (actors : List Actor) (log : List (Note OwnInput)) → IsLegal actors log → AreDue (map taken_event_of log)
due_in actors log legal k x at =
    let e = from_map log k x at in
    subst (λ (y : TakenEvent). IsDue (map taken_event_of log) k y.event) e.2
    (due_event log k e.0.stamp e.0.actor e.0.noted.event (stamp_at 0 log k e.0 legal.0 e.1 ∙ omega arith) (all_at (IsDueNote log) log k e.0 legal.1 e.1))

-- what is merged of a legal history
pub are_due : (actors : List Actor) (log : List (Note OwnInput)) (all : List TakenEvent) → IsLegal actors log → all ≡ map taken_event_of log → AreDue all
are_due actors log all legal is = subst AreDue (sym is) (due_in actors log legal)

before_later : (xs : List TakenEvent) (stamp k : ℕ) (x : TakenEvent) → slice_get xs stamp ≡ Some x → stamp < k → outputs_before xs stamp + x.sent ≤ outputs_before xs k
before_later [] stamp k x at before = absurd (cc)
before_later (y ∷ ys) zero zero x at before = absurd (omega arith)
before_later (y ∷ ys) zero (suc k) x at before = let same = ap (λ (z : TakenEvent). z.sent) (same_Some y x at) in omega arith
before_later (y ∷ ys) (suc stamp) zero x at before = absurd (omega arith)
before_later (y ∷ ys) (suc stamp) (suc k) x at before = let h = before_later ys stamp k x at (omega arith) in omega arith

falls : (log done : List TakenEvent) (made : List GroupEvent) (offsets : List ℕ) (total : ℕ) (event : KeptEvent) → NumberedSoFar log done made offsets total → IsDue log (length done) event → FallsWithin offsets total event
falls log done made offsets total (kept.Own input) so due = tt
falls log done made offsets total (kept.Delivery stamp place) so due =
    let size = so.size in
    let sum = so.total in
    let known : stamp < length offsets = (let before = due.0 in omega arith) in
    let is : slice_index offsets stamp ≡ outputs_before log stamp = so.offsets stamp (slice_index offsets stamp) (slice_get-get_or offsets stamp 0 known) in
    let more = before_later log stamp (length done) due.1 due.2 due.0 in
    let out = due.3 in
    (known, omega arith)
falls log done made offsets total kept.Crash so due = tt

-- the next of the events that are numbered
pub falls_next : (all seen left rest : List TracedEvent) (p : TracedEvent) (made : List GroupEvent) (offsets : List ℕ) (total : ℕ) → seen ++ left ≡ all → left ≡ p ∷ rest
    → AreDue (map taken_event_in all) → NumberedSoFar (map taken_event_in all) (map taken_event_in seen) made offsets total → FallsWithin offsets total p.event
falls_next all seen left rest p made offsets total next is due so =
    falls (map taken_event_in all) (map taken_event_in seen) made offsets total p.event so
    (due (length (map taken_event_in seen)) (taken_event_in p) (at_seen seen rest p all (ap (λ l. seen ++ l) (sym is) ∙ next)))
  where
    at_end : (seen rest : List TracedEvent) (p : TracedEvent) → slice_get (map taken_event_in (seen ++ p ∷ rest)) (length (map taken_event_in seen)) ≡ Some (taken_event_in p)
    at_end [] rest p = refl
    at_end (q ∷ qs) rest p = at_end qs rest p

    at_seen : (seen rest : List TracedEvent) (p : TracedEvent) (all : List TracedEvent) → seen ++ p ∷ rest ≡ all → slice_get (map taken_event_in all) (length (map taken_event_in seen)) ≡ Some (taken_event_in p)
    at_seen seen rest p all is = subst (λ l. slice_get (map taken_event_in l) (length (map taken_event_in seen)) ≡ Some (taken_event_in p)) is (at_end seen rest p)
