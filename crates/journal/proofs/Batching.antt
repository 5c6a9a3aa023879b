-- One item more of a batch.
use Rattle.std.proofs.Common.{◌≡◌, ◌∙◌, ℕ, ◌<◌, ◌≤◌, Option, List, [], ◌∷◌, ◌++◌, length, take, drop, ap, sym, refl, subst, append_assoc, append-nil}
use Rattle.std.proofs.lemmas.List.{take-append-drop, append_cancel_right}
use Rattle.journal.specs.Events.{IoEvent, BytesCame, InputEnded, RecordAppended, JournalReplaced, BytesSent, LineReported, AreOutputs}
use Rattle.journal.specs.Replays.{Replay}
use Rattle.std.specs.List.{flat_map}
use Rattle.std.proofs.lemmas.Grind.{flat_map-append}
use Rattle.wire.specs.Frames.{sized}
use Rattle.journal.specs.Batches.{BatchTurns, SavesBatch, IsDoneBatch}
use Rattle.journal.specs.Histories.{GoesOnBy, GoesOnByFirst}
use Rattle.journal.specs.Items.{ItemStarts, IsTooLong}
use Rattle.journal.specs.Inner.Rests.{NoItem, no_bytes, part as some_part, long as too_long, IsRest, empty, cut}
use Rattle.journal.specs.Inner.Taking.{TakenUpTo, TakesBatch, BatchStops, within}

pub outputs_both : (xs ys : List IoEvent) → AreOutputs xs → AreOutputs ys → AreOutputs (xs ++ ys)
outputs_both [] ys first second = second
outputs_both (BytesCame p ∷ xs) ys first second = absurd first
outputs_both (InputEnded ∷ xs) ys first second = absurd first
outputs_both (RecordAppended p ∷ xs) ys first second = absurd first
outputs_both (JournalReplaced p ∷ xs) ys first second = absurd first
outputs_both (BytesSent p ∷ xs) ys first second = outputs_both xs ys first second
outputs_both (LineReported p ∷ xs) ys first second = outputs_both xs ys first second

module _ {V P : Type 0} (k : Replay P) (part : V → P) (Turn : List ℕ → V → V → List IoEvent → Type 0) where
  pub one_turn : (items : List (List ℕ)) (item : List ℕ) (old mid new : V) (outs more : List IoEvent) → BatchTurns k part Turn items old mid outs → Turn item mid new more → BatchTurns k part Turn (items ++ item ∷ []) old new (outs ++ more)
  one_turn [] item old mid new outs more turns turn =
      (new, more, [], ap (λ l. l ++ more) turns.0 ∙ sym (append-nil more), subst (λ v. Turn item v new more) turns.1 turn, (refl, refl))
  one_turn (first ∷ items) item old mid new outs more turns turn =
      (turns.0, turns.1, turns.2 ++ more, ap (λ l. l ++ more) turns.3 ∙ append_assoc turns.1 turns.2 more, turns.4, one_turn items item turns.0 mid new turns.2 more turns.5 turn)

  pub one_taken : (bytes : List ℕ) (at next : ℕ) (item : List ℕ) (old mid new : V) (outs more all : List IoEvent) → TakenUpTo k part Turn bytes at old mid outs
      → ItemStarts (drop at bytes) item (drop next bytes) → at < next → next ≤ length bytes → Turn item mid new more → AreOutputs more → all ≡ outs ++ more
      → TakenUpTo k part Turn bytes next old new all
  one_taken bytes at next item old mid new outs more all so starts lt fits turn only came =
      let rest = drop next bytes in
      let split : bytes ≡ take at bytes ++ (sized item ++ rest) = sym (take-append-drop at bytes) ∙ ap (λ l. take at bytes ++ l) starts.is in
      let front = flat_map sized so.items ++ sized item in
      let whole : bytes ≡ front ++ rest = split ∙ sym (append_assoc (take at bytes) (sized item) rest) ∙ ap (λ l. (l ++ sized item) ++ rest) so.front in
      let cut : take next bytes ++ rest ≡ front ++ rest = take-append-drop next bytes ∙ whole in
      let same : take next bytes ≡ front = append_cancel_right (take next bytes) front rest cut in
      let joined : front ≡ flat_map sized (so.items ++ item ∷ []) = ap (λ l. flat_map sized so.items ++ l) (sym (append-nil (sized item))) ∙ sym (flat_map-append sized so.items (item ∷ [])) in
      record {
        items = so.items ++ item ∷ [];
        within = fits;
        front = same ∙ joined;
        turns = subst (BatchTurns k part Turn (so.items ++ item ∷ []) old new) (sym came) (one_turn so.items item old mid new outs more so.turns turn);
        only = subst AreOutputs (sym came) (outputs_both outs more so.only only);
      }

  module _ (bytes : List ℕ) (at : ℕ) (old new : V) (outs store : List IoEvent) (so : TakenUpTo k part Turn bytes at old new outs) (stores : SavesBatch k part Turn old new store) (did does : Option (List IoEvent)) where
    batch_taken : IsDoneBatch k part Turn so.items old new (store ++ outs)
    batch_taken = record { outs = outs; turns = so.turns; only = so.only; store = store; stores = stores; is = refl }

    split_front : bytes ≡ flat_map sized so.items ++ drop at bytes
    split_front = sym (take-append-drop at bytes) ∙ ap (λ l. l ++ drop at bytes) so.front

    pub takes_batch : GoesOnBy did does (store ++ outs) → TakesBatch k part Turn bytes (drop at bytes) old new did does
    takes_batch all = record { items = so.items; front = split_front; events = store ++ outs; batch = batch_taken; happened = all }

    pub batch_stops : GoesOnByFirst did does (store ++ outs) → BatchStops k part Turn bytes old did does
    batch_stops first = within so.items (drop at bytes) new (store ++ outs) split_front batch_taken first

pub rest_of : (bytes : List ℕ) → NoItem bytes → ((size : ℕ) → IsTooLong bytes size → ⊥) → IsRest bytes
rest_of bytes (no_bytes none) short = empty none
rest_of bytes (some_part is) short = cut is
rest_of bytes (too_long size found) short = absurd (short size found)
