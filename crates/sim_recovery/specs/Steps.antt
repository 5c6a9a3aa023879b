-- The events by which a group is brought back.
use Rattle.std.specs.Prelude.{◌≡◌, Bool, true, false, List, count_by, length}
use Rattle.group_model.specs.Inputs as inputs
use Rattle.group_model.specs.Worlds.{Event, Deliver, AtServer, AtClient}
use Rattle.sim_recovery.specs.declared.counts.Counts.{Counts}
use Rattle.sim_recovery.specs.declared.counts.Kind.{Kind}
use Rattle.sim_recovery.specs.declared.counts.Kind.TheVariants as kinds

-- an input of a server is of this kind
abbrev pub is_input_of : Kind → inputs.Input → Bool
is_input_of kinds.Restart inputs.Restart = true
is_input_of kinds.Timeout inputs.Timeout = true
is_input_of kinds.Beat inputs.Beat = true
is_input_of kind input = false

abbrev pub is_delivery : Kind → Bool
is_delivery kinds.Message = true
is_delivery kind = false

-- so is an event: a server restarts, stands or beats, or a message comes
abbrev pub is_of : Kind → Event → Bool
is_of kind (Deliver place) = is_delivery kind
is_of kind (AtServer server input) = is_input_of kind input
is_of kind (AtClient client input) = false

-- how many of these are of each kind, and how many there are
pub record AreCounts (these : List Event) (c : Counts) : Type 0 where
  pub restarts : c.restarts ≡ count_by (is_of kinds.Restart) these
  pub timeouts : c.timeouts ≡ count_by (is_of kinds.Timeout) these
  pub beats : c.beats ≡ count_by (is_of kinds.Beat) these
  pub messages : c.messages ≡ count_by (is_of kinds.Message) these
  pub events : c.events ≡ length these
