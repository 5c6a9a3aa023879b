use Rattle.std.proofs.Common.{◌≡◌, ◌+◌, ◌≤◌, true, List, length, MatchBool, subst}
use Rattle.raft_model.specs.Logs.{MAX}
use Rattle.raft_model.specs.Worlds.{World}
use Rattle.raft_core.specs.Steps.{RefinesRaft}
use Rattle.raft_progress.specs.Recovery.{HasRoom, everybody}
use Rattle.world.specs.WorldView.{WorldView, RunsTo}
use Rattle.world.specs.Inner.Room.{RaftHasRoom, EachHas, OneLacks}
use Rattle.world.proofs.Rooms.{room_told, short_told}
use Rattle.world.proofs.world.RaftWorld.has_room.Goals as goal

pub returns-clause-value : goal.returns-clause-value
returns-clause-value g c =
    let m = g.M.Machine.spec in
    let b = c.rafts_have_room.result in
    subst (λ (x : WorldView g.row.M.Denot g.row.M-Command.Denot). (past : List (World g.row.M-Command.Denot)) (w : World g.row.M-Command.Denot) → RunsTo g.M.Machine.spec x past w →
    MatchBool c.rafts_have_room.result (HasRoom (length x.servers) everybody w) (HasRoom (length x.servers) everybody w → ⊥)) c.self.view_is
    (λ past w runs. room_told m _ w b runs.refines (subst (λ l. MatchBool c.rafts_have_room.result (EachHas (RefinesRaft g.M.Machine.spec) RaftHasRoom l) (OneLacks (RefinesRaft g.M.Machine.spec) RaftHasRoom l)) c.deref.ensures.value c.rafts_have_room.ensures))

pub returns-clause-short : goal.returns-clause-short
returns-clause-short g c =
    let m = g.M.Machine.spec in
    subst (λ (x : WorldView g.row.M.Denot g.row.M-Command.Denot). length x.trace + 2 ≤ MAX → c.rafts_have_room.result ≡ true) c.self.view_is
    (short_told m _ c.self.invariant c.a_short_run_has_room.ensures c.rafts_have_room.result
    (subst (λ l. MatchBool c.rafts_have_room.result (EachHas (RefinesRaft g.M.Machine.spec) RaftHasRoom l) (OneLacks (RefinesRaft g.M.Machine.spec) RaftHasRoom l)) c.deref.ensures.value c.rafts_have_room.ensures))
