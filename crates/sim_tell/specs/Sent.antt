-- What is told of the messages that an event sent.
use Rattle.std.specs.Prelude.{ℕ, ◌+◌, List, [], ◌∷◌, ◌++◌, drop, decimal, codes}
use Rattle.wire.specs.Frames.{Frame}
use Rattle.sim_labels.specs.Labels.{frame_label}
use Rattle.sim_labels.specs.Words.{actor_text}
use Rattle.sim_tell.specs.Words.{with_word}

-- its number, what it is, and to whom it goes
abbrev pub sent_words : ℕ → Frame → List ℕ
sent_words number frame =
    codes "#" ++ (decimal number ++ (codes " " ++ (frame_label frame.bytes ++ (codes " to " ++ actor_text frame.to))))

-- these messages, numbered from this number on
abbrev pub with_frames : ℕ → List Frame → List ℕ → List ℕ
with_frames number [] text = text
with_frames number (frame ∷ frames) text =
    with_frames (number + 1) frames (with_word text (sent_words number frame))

-- those behind the first so many, which were sent before
abbrev pub sent_text : ℕ → List Frame → List ℕ
sent_text before frames = with_frames (before + 1) (drop before frames) []
