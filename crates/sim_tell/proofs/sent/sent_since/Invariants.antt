use Rattle.std.proofs.Common.{◌≡◌, ◌+◌, drop, string_bytes}
use Rattle.sim_tell.specs.Sent.{sent_text, with_frames}
use Rattle.sim_tell.proofs.sent.sent_since.Given as goal

abbrev pub invariant-loop-place : goal.invariant-loop-place
invariant-loop-place l = with_frames (l.place + 1) (drop l.place l.sent) (string_bytes l.words) ≡ sent_text l.from l.sent
