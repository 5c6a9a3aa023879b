-- One actor of a group.
use Rattle.std.specs.Prelude.{◌≡◌, Bool, is_some}
use Rattle.raft_model.specs.Rafts.{is_up}
use Rattle.group_model.specs.Servers.{Server}
use Rattle.server.specs.ServerViews.{RefinesServer}
use Rattle.actor.specs.declared.group_actor.GroupActor.{GroupActor}
use Rattle.actor.specs.declared.group_actor.GroupActor.TheVariants as group_actors

abbrev pub IsUpActor : GroupActor → Bool → Type 0
IsUpActor (group_actors.Server v) up = (s : Server) → RefinesServer v s → is_up s.raft.mode ≡ up
IsUpActor (group_actors.Client a) up = is_some a.client.life ≡ up
