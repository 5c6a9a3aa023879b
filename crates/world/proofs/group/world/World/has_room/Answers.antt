use Rattle.std.proofs.Common.{◌≡◌, ◌+◌, ◌≤◌, true, List, length, MatchBool, subst}
use Rattle.raft_model.specs.Logs.{MAX}
use Rattle.raft_progress.specs.Recovery.{HasRoom, everybody}
use Rattle.group_model.specs.Worlds.{World, raft_of}
use Rattle.server.specs.ServerViews.{RefinesServer}
use Rattle.world.specs.GroupView.{GroupView, GroupRunsTo}
use Rattle.world.specs.Inner.Room.{ServerHasRoom, EachHas, OneLacks}
use Rattle.world.proofs.Rooms.{group_room_told, group_short_told}
use Rattle.world.proofs.group.world.World.has_room.Goals as goal

pub returns-clause-value : goal.returns-clause-value
returns-clause-value c =
    let b = c.servers_have_room.result in
    subst (λ (x : GroupView). (past : List World) (w : World) → GroupRunsTo x past w →
    MatchBool c.servers_have_room.result (HasRoom (length x.servers) everybody (raft_of w)) (HasRoom (length x.servers) everybody (raft_of w) → ⊥)) c.self.view_is
    (λ past w runs. group_room_told _ w b runs.refines (subst (λ l. MatchBool c.servers_have_room.result (EachHas RefinesServer ServerHasRoom l) (OneLacks RefinesServer ServerHasRoom l)) c.deref.ensures.value c.servers_have_room.ensures))

pub returns-clause-short : goal.returns-clause-short
returns-clause-short c =
    subst (λ (x : GroupView). length x.trace + 2 ≤ MAX → c.servers_have_room.result ≡ true) c.self.view_is
    (group_short_told _ c.self.invariant c.limits_are_kept.ensures c.a_short_run_has_room.ensures c.servers_have_room.result
    (subst (λ l. MatchBool c.servers_have_room.result (EachHas RefinesServer ServerHasRoom l) (OneLacks RefinesServer ServerHasRoom l)) c.deref.ensures.value c.servers_have_room.ensures))
