-- A reason's number is its refusal's.
use Rattle.std.proofs.Common.{◌≡◌, refl}
use Rattle.rows.specs.declared.refusal.Refusal.{Refusal}
use Rattle.rows.specs.declared.refusal.Refusal.TheVariants as refusals
use Rattle.rows.specs.Refusals.{number_of}
use Rattle.rows.specs.Reasons.{reason_of, reason_number}

pub same_number : (r : Refusal) → reason_number (reason_of r) ≡ number_of r
same_number refusals.NoMemory = refl
same_number (refusals.NotLeader leader) = refl
same_number refusals.NotOpen = refl
same_number refusals.NotOutstanding = refl
same_number refusals.TokenDiffers = refl
same_number refusals.SnapshotTooOld = refl
same_number refusals.JobChanged = refl
same_number refusals.UnknownJob = refl
same_number refusals.UnknownNode = refl
same_number refusals.NodeDiffers = refl
same_number refusals.BadName = refl
same_number refusals.OutOfRange = refl
same_number refusals.TableFull = refl
same_number refusals.Exhausted = refl
same_number (refusals.Frame offset) = refl
same_number refusals.Down = refl
same_number refusals.QueueFull = refl
same_number refusals.JobStopped = refl
same_number refusals.StaleExpiry = refl
same_number refusals.NotDraining = refl
same_number refusals.UnknownAlloc = refl
