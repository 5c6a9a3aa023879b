-- The bytes of frames that lie in an outbox.
use Rattle.std.specs.Prelude.{ℕ, Option, Some, None, List, [], slice_get}
use Rattle.wire.specs.Frames.{Frame}

-- the bytes of a frame, if there is one
abbrev pub bytes_of : Option Frame → List ℕ
bytes_of None = []
bytes_of (Some frame) = frame.bytes

-- those of the frame at a place, if one stands there
abbrev pub bytes_at : List Frame → ℕ → List ℕ
bytes_at frames at = bytes_of (slice_get frames at)
