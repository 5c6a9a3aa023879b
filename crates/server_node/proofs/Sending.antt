-- Frames, one behind the other.
use Rattle.std.proofs.Common.{◌≡◌, ◌∙◌, ◌+◌, ◌++◌, ◌∷◌, [], ℕ, List, Some, ap, append_assoc, sym, take}
use Rattle.std.specs.Prelude.{slice_get}
use Rattle.std.proofs.lemmas.List.{map-append, take_more}
use Rattle.std.proofs.lemmas.Option.{get_or_from_slice_get, slice_get_within}
use Rattle.wire.specs.Frames.{Frame, sized}
use Rattle.journal.specs.Events.{IoEvent, BytesSent}
use Rattle.server_node.specs.Answers.{sends}

pub sent_more : (frames : List Frame) (i : ℕ) (frame : Frame) (old mid new : List IoEvent) → slice_get frames i ≡ Some frame → mid ≡ old ++ sends (take i frames)
    → new ≡ mid ++ BytesSent (sized frame.bytes) ∷ [] → new ≡ old ++ sends (take (i + 1) frames)
sent_more frames i frame old mid new at first second =
    let event : Frame → IoEvent = λ f. BytesSent (sized f.bytes) in
    let before = sends (take i frames) in
    let one : take (i + 1) frames ≡ take i frames ++ frame ∷ [] =
    take_more frames i frame (slice_get_within frames i frame at) ∙ ap (λ z. take i frames ++ z ∷ []) (get_or_from_slice_get frames i frame frame at) in
    let more : sends (take (i + 1) frames) ≡ before ++ BytesSent (sized frame.bytes) ∷ [] = ap sends one ∙ map-append event (take i frames) (frame ∷ []) in
    second ∙ ap (λ l. l ++ BytesSent (sized frame.bytes) ∷ []) first ∙ append_assoc old before (BytesSent (sized frame.bytes) ∷ []) ∙ ap (λ l. old ++ l) (sym more)
