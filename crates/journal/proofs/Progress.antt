-- One thing more of what a process does.
use Rattle.std.proofs.Common.{◌≡◌, ℕ, Option, Some, List, [], ◌∷◌, ◌++◌, ap, sym, refl, subst, append-nil, inl, inr}
use Rattle.std.specs.List.{flat_map}
use Rattle.wire.specs.Frames.{sized}
use Rattle.journal.specs.Events.{IoEvent, BytesCame, InputEnded, JournalReplaced}
use Rattle.journal.specs.Histories.{GoesOnBy}
use Rattle.journal.specs.Items.{IsTooLong, IsPartOfItem}
use Rattle.journal.specs.Replays.{Replay}
use Rattle.journal.specs.Batches.{IsDoneBatch}
use Rattle.journal.specs.Serving.{took_none, more_came, took_batch, ProcessRuns, ProcessRunsTo, ProcessStops, at_once, part_way}
use Rattle.journal.specs.Inner.Rests.{IsRest, empty, cut}
use Rattle.journal.specs.Inner.Taking.{TakesBatch, BatchStops, before, within}
use Rattle.journal.specs.Inner.Starting.{StartStops, before as start_before, within as start_within, MayReceive}
use Rattle.journal.specs.Inner.Coming.{CameTo}
use Rattle.journal.proofs.Histories.{goes_on_more, begins_all, begins_more, begins_longer, may_begin}

module _ {V P : Type 0} (k : Replay P) (stored : V → P) (Turn : List ℕ → V → V → List IoEvent → Type 0) where
  pub started : (old : V) (did does : Option (List IoEvent)) → ((payload : List ℕ) × (k.whole payload ≡ Some (stored old)) × GoesOnBy did does (JournalReplaced payload ∷ [])) → CameTo k stored Turn old [] old did does
  started old did does (payload, whole, happened) =
      record { events = JournalReplaced payload ∷ []; runs = record { payload = payload; whole = whole; later = []; serves = took_none; is = refl }; happened = happened }

  pub start_stops : (old : V) (did does : Option (List IoEvent)) → StartStops k stored old did does → ProcessStops k stored Turn old did does
  start_stops old did does (start_before none) = at_once none
  start_stops old did does (start_within payload whole may) =
      part_way [] old (JournalReplaced payload ∷ []) (record { payload = payload; whole = whole; later = []; serves = took_none; is = refl })
      (begins_longer did does (JournalReplaced payload ∷ []) (InputEnded ∷ []) (may_begin did does (JournalReplaced payload) [] may))

  module _ (old now : V) (pending : List ℕ) (did does : Option (List IoEvent)) (so : CameTo k stored Turn old pending now did does) where
    pub came_read : (bytes : List ℕ) (next : Option (List IoEvent)) → GoesOnBy does next (BytesCame bytes ∷ []) → CameTo k stored Turn old (pending ++ bytes) now did next
    came_read bytes next one = record {
      events = so.events ++ BytesCame bytes ∷ [];
      runs = record {
        payload = so.runs.payload;
        whole = so.runs.whole;
        later = so.runs.later ++ BytesCame bytes ∷ [];
        serves = more_came pending now so.runs.later bytes so.runs.serves;
        is = ap (λ l. l ++ BytesCame bytes ∷ []) so.runs.is;
      };
      happened = goes_on_more did does next so.events (BytesCame bytes ∷ []) so.happened one;
    }

    batch_runs : (rest : List ℕ) (new : V) (items : List (List ℕ)) (events : List IoEvent) → pending ≡ flat_map sized items ++ rest → IsDoneBatch k stored Turn items now new events → ProcessRuns k stored Turn old rest new (so.events ++ events)
    batch_runs rest new items events is batch = record {
      payload = so.runs.payload;
      whole = so.runs.whole;
      later = so.runs.later ++ events;
      serves = took_batch pending now new so.runs.later events items rest so.runs.serves is batch;
      is = ap (λ l. l ++ events) so.runs.is;
    }

    pub came_batch : (rest : List ℕ) (new : V) (next : Option (List IoEvent)) → TakesBatch k stored Turn pending rest now new does next → CameTo k stored Turn old rest new did next
    came_batch rest new next t = record {
      events = so.events ++ t.events;
      runs = batch_runs rest new t.items t.events t.front t.batch;
      happened = goes_on_more did does next so.events t.events so.happened t.happened;
    }

    -- nothing more happened
    pub stops_here : (next : Option (List IoEvent)) → GoesOnBy does next [] → ProcessStops k stored Turn old did next
    stops_here next none =
        let happened = subst (GoesOnBy did next) (append-nil so.events) (goes_on_more did does next so.events [] so.happened none) in
        part_way pending now so.events so.runs (begins_longer did next so.events (InputEnded ∷ []) (begins_all did next so.events happened))

    pub stops_reading : (next : Option (List IoEvent)) → MayReceive does next → ProcessStops k stored Turn old did next
    stops_reading next (inl none) = stops_here next none
    stops_reading next (inr (bytes, one)) =
        let now_so = came_read bytes next one in
        part_way (pending ++ bytes) now now_so.events now_so.runs (begins_longer did next now_so.events (InputEnded ∷ []) (begins_all did next now_so.events now_so.happened))

    pub stops_at_end : (next : Option (List IoEvent)) → GoesOnBy does next (InputEnded ∷ []) → ProcessStops k stored Turn old did next
    stops_at_end next one = part_way pending now so.events so.runs (begins_all did next (so.events ++ InputEnded ∷ []) (goes_on_more did does next so.events (InputEnded ∷ []) so.happened one))

    pub stops_within : (next : Option (List IoEvent)) → BatchStops k stored Turn pending now does next → ProcessStops k stored Turn old did next
    stops_within next (before none) = stops_here next none
    stops_within next (within items rest last events is batch first) =
        part_way rest last (so.events ++ events) (batch_runs rest last items events is batch)
        (begins_longer did next (so.events ++ events) (InputEnded ∷ []) (begins_more did does next so.events events so.happened first))

    pub too_long_at : (size : ℕ) → IsTooLong pending size → ProcessRunsTo k stored Turn old now did does [] (λ left. IsTooLong left size)
    too_long_at size long = record { left = pending; events = so.events; runs = so.runs; happened = subst (GoesOnBy did does) (sym (append-nil so.events)) so.happened; such = long }

    pub cut_at : (next : Option (List IoEvent)) → GoesOnBy does next (InputEnded ∷ []) → IsPartOfItem pending → ProcessRunsTo k stored Turn old now did next (InputEnded ∷ []) IsPartOfItem
    cut_at next one part = record { left = pending; events = so.events; runs = so.runs; happened = goes_on_more did does next so.events (InputEnded ∷ []) so.happened one; such = part }

pub is_part : (bytes : List ℕ) → IsRest bytes → (bytes ≡ [] → ⊥) → IsPartOfItem bytes
is_part bytes (empty none) some = absurd (some none)
is_part bytes (cut is) some = is
