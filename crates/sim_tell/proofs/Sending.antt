-- One message more that an event sent.
use Rattle.std.proofs.Common.{◌≡◌, ℕ, zero, suc, ◌+◌, ◌<◌, List, [], ◌∷◌, add-one, arith, drop, length, refl, slice_get, subst, sym}
use Rattle.wire.specs.Frames.{Frame}
use Rattle.sim_tell.specs.Inner.Cells.{with_sent}
use Rattle.sim_tell.specs.Sent.{with_frames}

next_of : (number : ℕ) (sent : List Frame) (place : ℕ) (text : List ℕ) → place < length sent
    → with_frames number (drop place sent) text
    ≡ with_frames (number + 1) (drop (suc place) sent) (with_sent number (slice_get sent place) text)
next_of number [] place text inside = absurd (omega arith)
next_of number (frame ∷ sent) zero text inside = refl
next_of number (frame ∷ sent) (suc place) text inside = next_of number sent place text (omega arith)

pub one_sent : (number : ℕ) (sent : List Frame) (place : ℕ) (text : List ℕ) → place < length sent
    → with_frames number (drop place sent) text
    ≡ with_frames (number + 1) (drop (place + 1) sent) (with_sent number (slice_get sent place) text)
one_sent number sent place text inside =
    subst (λ (next : ℕ). with_frames number (drop place sent) text ≡ with_frames (number + 1) (drop next sent) (with_sent number (slice_get sent place) text))
    (sym (add-one place)) (next_of number sent place text inside)
