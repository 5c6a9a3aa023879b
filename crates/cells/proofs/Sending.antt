-- The last note of a seat, and its outputs as envelopes.
use Rattle.std.proofs.Common.{◌≡◌, ℕ, zero, suc, ◌+◌, ◌<◌, List, [], ◌∷◌, ◌++◌, length, take, map, Some, sym, refl, ap, ◌∙◌, subst, arith}
use Rattle.std.specs.Prelude.{slice_get}
use Rattle.std.proofs.lemmas.Option.{slice_get_within}
use Rattle.std.proofs.lemmas.List.{map-append, length-map}
use Rattle.wire.specs.Frames.{Frame}
use Rattle.event_book.specs.declared.view.EventView.{EventView}
use Rattle.event_book.specs.declared.view.EventView.TheVariants.{Own, Delivery, Crash}
use Rattle.event_book.specs.declared.view.Output.{Output}
use Rattle.event_book.specs.declared.view.Note.{Note}
use Rattle.event_book.specs.declared.view.MessageTokenView.{MessageTokenView}
use Rattle.event_book.specs.declared.view.SeatView.{SeatView}
use Rattle.event_book.specs.Seats.{HasOutput, last_token, Names, MayNote, with_note, with_taken}
use Rattle.cells.specs.declared.own_input.OwnInput.{OwnInput}
use Rattle.cells.specs.Inner.Steps.{output_of}
use Rattle.cells.specs.declared.cell.StampedEvent.{StampedEvent}
use Rattle.cells.specs.Cells.{envelope_of, envelopes_from, kept_in, kept_input}
use Rattle.cells.specs.Inner.Sending.{CanBeNoted, last_envelopes, EndsWith}

token_end : (place : ℕ) (before : List (Note OwnInput)) (e : Note OwnInput) → last_token place (before ++ e ∷ []) ≡ record { note = e; place = place } ∷ []
token_end place [] e = refl
token_end place (x ∷ []) e = refl
token_end place (x ∷ y ∷ ys) e = token_end place (y ∷ ys) e

output_end : (place : ℕ) (before : List (Note OwnInput)) (e : Note OwnInput) → place < length e.noted.outputs → HasOutput place (before ++ e ∷ [])
output_end place [] e h = h
output_end place (x ∷ []) e h = h
output_end place (x ∷ y ∷ ys) e h = output_end place (y ∷ ys) e h

pub envelopes_end : (before : List (Note OwnInput)) (e : Note OwnInput) → last_envelopes (before ++ e ∷ []) ≡ envelopes_from e 0 e.noted.outputs
envelopes_end [] e = refl
envelopes_end (x ∷ []) e = refl
envelopes_end (x ∷ y ∷ ys) e = envelopes_end (y ∷ ys) e

at_place : (e : Note OwnInput) (k place : ℕ) (os : List Output) (o : Output) → slice_get os place ≡ Some o → slice_get (envelopes_from e k os) place ≡ Some (envelope_of e (k + place) o)
at_place e k place [] o h = absurd (cc)
at_place e k zero (x ∷ xs) o h =
    let is : x ≡ o = cc in
    let at : k ≡ k + 0 = omega arith in
    (λ i. Some (envelope_of e (at i) (is i)))
at_place e k (suc place) (x ∷ xs) o h = at_place e (suc k) place xs o h ∙ ap (λ (n : ℕ). Some (envelope_of e n o)) (omega arith)

get_output : (fs : List Frame) (place : ℕ) (f : Frame) → slice_get fs place ≡ Some f → slice_get (map output_of fs) place ≡ Some (output_of f)
get_output [] place f h = absurd (cc)
get_output (x ∷ xs) zero f h = let is : x ≡ f = cc in ap (λ (g : Frame). Some (output_of g)) is
get_output (x ∷ xs) (suc place) f h = get_output xs place f h

module _ (notes : List (Note OwnInput)) (stamp place : ℕ) (fs : List Frame) (f : Frame) (ends : EndsWith notes stamp (map output_of fs)) (there : slice_get fs place ≡ Some f) where
  sent_there : slice_get ends.note.noted.outputs place ≡ Some (output_of f)
  sent_there = ap (λ l. slice_get l place) ends.outputs_are ∙ get_output fs place f there

  pub has_output : HasOutput place notes
  has_output = subst (HasOutput place) (sym ends.notes_are) (output_end place ends.before ends.note (slice_get_within ends.note.noted.outputs place (output_of f) sent_there))

  module _ (token : MessageTokenView OwnInput) (given : last_token place notes ≡ token ∷ []) where
    token_is : token ≡ record { note = ends.note; place = place }
    token_is =
        let q : token ∷ [] ≡ record { note = ends.note; place = place } ∷ [] = sym given ∙ ap (last_token place) ends.notes_are ∙ token_end place ends.before ends.note in
        cc

    pub names_output : Names token stamp place f.to f.bytes
    names_output = subst (λ (t : MessageTokenView OwnInput). Names t stamp place f.to f.bytes) (sym token_is) (ends.stamp_is, refl, sent_there)

    pub is_envelope : slice_get (last_envelopes notes) place ≡ Some (record { receiver = f.to; event = Delivery stamp place f.bytes; tokens = token ∷ [] })
    is_envelope =
        let at : 0 + place ≡ place = omega arith in
        ap (λ l. slice_get (last_envelopes l) place) ends.notes_are ∙ ap (λ l. slice_get l place) (envelopes_end ends.before ends.note) ∙ at_place ends.note 0 place ends.note.noted.outputs (output_of f) sent_there
        ∙ ap (λ (n : ℕ). Some (envelope_of ends.note n (output_of f))) at
        ∙ (λ i. Some (record { receiver = f.to; event = Delivery (ends.stamp_is i) place f.bytes; tokens = sym token_is i ∷ [] }))

take_next : {X : Type 0} (xs : List X) (k : ℕ) (x : X) → slice_get xs k ≡ Some x → take (suc k) xs ≡ take k xs ++ x ∷ []
take_next [] k x h = absurd (cc)
take_next (y ∷ ys) zero x h = let is : y ≡ x = cc in ap (λ z. z ∷ []) is
take_next (y ∷ ys) (suc k) x h = ap (λ l. y ∷ l) (take_next ys k x h)

-- one envelope more
pub one_envelope_more : {X : Type 0} (xs was now : List X) (k : ℕ) (x : X) → was ≡ take k xs → now ≡ was ++ x ∷ [] → slice_get xs k ≡ Some x → now ≡ take (k + 1) xs
one_envelope_more xs was now k x so more there =
    let next : suc k ≡ k + 1 = omega arith in
    more ∙ ap (λ l. l ++ x ∷ []) so ∙ sym (take_next xs k x there) ∙ ap (λ n. take n xs) next

-- ---- what is noted

taken_there : (xs : List (MessageTokenView OwnInput)) (t : MessageTokenView OwnInput) → slice_get (xs ++ t ∷ []) (length xs) ≡ Some t
taken_there [] t = refl
taken_there (x ∷ xs) t = taken_there xs t

-- what can be noted may be, once its token is taken in
pub may_note : (old new : SeatView OwnInput) (event : EventView OwnInput) (tokens : List (MessageTokenView OwnInput)) → new ≡ with_taken tokens old → CanBeNoted old event tokens → MayNote new event
may_note old new (Own input) tokens is can = tt
may_note old new (Delivery stamp place frame) tokens is can =
    let t = can.0 in
    let at : slice_get new.taken (length old.taken) ≡ Some t = ap (λ (s : SeatView OwnInput). slice_get s.taken (length old.taken)) is ∙ ap (λ l. slice_get (old.taken ++ l) (length old.taken)) can.1 ∙ taken_there old.taken t in
    let mine : old.actor ≡ new.actor = sym (ap (λ (s : SeatView OwnInput). s.actor) is) in
    (length old.taken, t, at, subst (λ a. Names t stamp place a frame) mine can.2)
may_note old new Crash tokens is can = tt

-- what is kept is what was noted
pub kept_more : (old mid new last : SeatView OwnInput) (taken now : List StampedEvent) (e : StampedEvent) (tokens : List (MessageTokenView OwnInput)) (event : EventView OwnInput) (fs : List Frame) (stamp : ℕ)
    → mid ≡ with_taken tokens old → new ≡ with_note (record { event = event; outputs = map output_of fs }) stamp mid → last ≡ new → now ≡ taken ++ e ∷ []
    → e ≡ record { stamp = stamp; event = kept_input event; sent = length fs } → taken ≡ map kept_in old.notes → now ≡ map kept_in last.notes
kept_more old mid new last taken now e tokens event fs stamp took noted stays more is same =
    let note : Note OwnInput = record { stamp = stamp; actor = old.actor; noted = record { event = event; outputs = map output_of fs } } in
    let notes : last.notes ≡ old.notes ++ note ∷ [] = ap (λ (s : SeatView OwnInput). s.notes) (stays ∙ noted ∙ ap (with_note (record { event = event; outputs = map output_of fs }) stamp) took) in
    let size : length fs ≡ length (map output_of fs) = sym (length-map fs output_of) in
    more
    ∙ (λ i. same i ++ (is ∙ ap (λ (n : ℕ). record { stamp = stamp; event = kept_input event; sent = n }) size) i ∷ [])
    ∙ sym (map-append kept_in old.notes (note ∷ [])) ∙ ap (map kept_in) (sym notes)
