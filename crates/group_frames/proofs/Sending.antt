-- Frames of the group that are sent.
use Rattle.std.proofs.Common.{List, [], ◌∷◌, ◌++◌, map, sym}
use Rattle.std.proofs.lemmas.List.{append-nil}
use Rattle.std.specs.List.{AllZip}
use Rattle.rows.specs.declared.command.Command.{Command}
use Rattle.machine_model.specs.MachineSpec.{MachineSpec}
use Rattle.wire.specs.Frames.{Frame}
use Rattle.raft_model.specs.Messages.{Message}
use Rattle.raft_core.specs.Frames.{Sends, FrameCarries}
use Rattle.group_model.specs.Messages.{OfLog}
use Rattle.group_frames.specs.GroupFrames.{CarriesGroup, SendsGroup}

module _ {S : Type 0} (m : MachineSpec S Command) where
  -- nothing is sent
  pub sends_nothing : (all : List Frame) → SendsGroup m all all []
  sends_nothing all = record { frames = []; added = sym (append-nil all); carry = tt }

  carry_log : (frames : List Frame) (messages : List (Message Command)) → AllZip (FrameCarries m) frames messages → AllZip (CarriesGroup m) frames (map OfLog messages ++ [])
  carry_log [] [] c = tt
  carry_log [] (x ∷ xs) c = absurd c
  carry_log (f ∷ fs) [] c = absurd c
  carry_log (f ∷ fs) (x ∷ xs) c = (record { to = c.0.to; bytes = c.0.bytes }, carry_log fs xs c.1)

  -- what the log sends, and nothing beside it
  pub sends_log : (before after : List Frame) (messages : List (Message Command)) → Sends m before after messages → SendsGroup m before after (map OfLog messages ++ [])
  sends_log before after messages s = record { frames = s.frames; added = s.added; carry = carry_log s.frames messages s.carry }
