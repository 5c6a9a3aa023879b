-- A turn puts nothing into the store.
use Rattle.std.proofs.Common.{ℕ, List, [], ◌∷◌, Option, sym, subst}
use Rattle.rows.specs.declared.refusal.Refusal.{Refusal}
use Rattle.machine_model.specs.MachineSpec.{MachineSpec}
use Rattle.wire.specs.Frames.{Frame}
use Rattle.raft_core.specs.RaftView.{RaftView}
use Rattle.journal.specs.Events.{IoEvent, AreOutputs}
use Rattle.example_bank_server.specs.Turns.{Turn, taken, proposed, refused, shown, told, sends}

sends_alone : (frames : List Frame) → AreOutputs (sends frames)
sends_alone [] = tt
sends_alone (frame ∷ frames) = sends_alone frames

pub outputs_alone : {S C : Type 0} (m : MachineSpec S C) (words : S → List ℕ) (reason : Refusal → Option (List ℕ)) (item : List ℕ) (old new : RaftView S C) (events : List IoEvent) → Turn m words reason item old new events → AreOutputs events
outputs_alone m words reason item old new events (taken frames a b d e is) = subst AreOutputs (sym is) (sends_alone frames)
outputs_alone m words reason item old new events (proposed command index term a b d e is) = subst AreOutputs (sym is) tt
outputs_alone m words reason item old new events (refused cause a b d e is) = subst AreOutputs (sym is) tt
outputs_alone m words reason item old new events (shown line a b d is) = subst AreOutputs (sym is) tt
outputs_alone m words reason item old new events (told index term word a b d e is) = subst AreOutputs (sym is) tt
