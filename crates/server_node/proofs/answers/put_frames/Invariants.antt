use Rattle.std.proofs.Common.{◌≡◌, ◌++◌, map, take}
use Rattle.journal.specs.Savings.{output_event}
use Rattle.server_node.specs.Answers.{sends}
use Rattle.server_node.proofs.answers.put_frames.Given as goal

-- the frames so far
abbrev pub invariant-loop-place : goal.invariant-loop-place
invariant-loop-place l = map output_event l.outs.items ≡ map output_event l.fn.outs.items ++ sends (take l.place l.frames)
